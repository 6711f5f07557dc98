-- `walk::walk` meets its contract: each turn leaves a state of the walk. The measure is how far front and taken are from the end of the part.
use Rattle.std.specs.Prelude.{◌+◌, ◌*◌, ◌-◌, ◌≤◌}
use Rattle.plan.specs.Walks.{WalkState}
use Rattle.plan.proofs.walk.walk.Given as goal

abbrev pub invariant-loop-turn : goal.invariant-loop-turn
invariant-loop-turn l = (1 ≤ l.at.front) ×
    WalkState l.fn.rise l.part l.links l.tail l.places l.at.front l.at.taken l.work l.list

abbrev pub decreases-loop-turn : goal.decreases-loop-turn
decreases-loop-turn l = 2 * l.part.size - (l.at.front + l.at.taken)
