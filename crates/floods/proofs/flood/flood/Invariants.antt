-- `flood::flood` meets its contract: what came in is what the flood spreads to over the radios done so far (`Walking`). The measure is
-- what is left of the most radios that may come in.
use Rattle.std.specs.Prelude.{◌≡◌, ◌-◌}
use Rattle.lists.specs.Kit.{List, ℕ, length}
use Rattle.mesh.specs.Limits.{max_radios}
use Rattle.floods.specs.Floods.{flood_at}
use Rattle.floods.proofs.{FloodLaws.{Walking}}
use Rattle.floods.proofs.flood.flood.Given as goal

abbrev pub invariant-loop-i : goal.invariant-loop-i
invariant-loop-i l = (length l.queue ≡ length l.initial.queue) ×
    ((old : List ℕ) → Walking l.links l.v old 0 (flood_at l.initial.set l.initial.queue 1) → Walking l.links l.v old l.i (flood_at l.set l.queue l.count))

abbrev pub decreases-loop-i : goal.decreases-loop-i
decreases-loop-i l = max_radios - l.i
