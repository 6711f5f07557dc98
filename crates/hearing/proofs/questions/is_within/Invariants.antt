-- `is_within` meets its contract: no radio from n on is marked as far as none from b on is, and none of the word of b from b
-- on is where what is left of the word is 0. The measure is the radios left.
use Rattle.std.specs.Prelude.{◌≡◌, ◌-◌}
use Rattle.mesh.specs.Limits.{max_radios}
use Rattle.conditions.{specs.Hearing.{none_from}}
use Rattle.hearing.proofs.questions.is_within.Given as goal

abbrev pub invariant-loop-b : goal.invariant-loop-b
invariant-loop-b l = none_from l.n l.heard l.a ≡ none_from l.b l.heard l.a

abbrev pub decreases-loop-b : goal.decreases-loop-b
decreases-loop-b l = max_radios - l.b
