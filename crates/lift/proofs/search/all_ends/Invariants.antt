-- `search::all_ends` meets its contract: of the radios below c, the set has those that may lift with a (`Has`).
use Rattle.std.specs.Prelude.{◌≤◌}
use Rattle.lists.specs.Kit.{length}
use Rattle.lift.specs.{Peels.{Has}, Search.{may_lift}}
use Rattle.lift.proofs.search.all_ends.Given as goal

abbrev pub invariant-loop-c : goal.invariant-loop-c
invariant-loop-c l = Has l.c (may_lift l.a l.t.links.now l.places l.allowed.free l.allowed.tight) l.ends × (l.c ≤ length l.t.numbers.now)
