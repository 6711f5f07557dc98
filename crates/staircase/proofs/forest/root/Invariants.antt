-- `root` meets its contract: every root stays, and from x the way leads where it led from v (`Searching`). The measure is x, which no
-- parent exceeds.
use Rattle.staircase.proofs.{PartLaws.{Searching}}
use Rattle.staircase.proofs.forest.root.Given as goal

abbrev pub invariant-loop-parents : goal.invariant-loop-parents
invariant-loop-parents l = Searching l.initial.parents l.v l.parents l.x

abbrev pub decreases-loop-parents : goal.decreases-loop-parents
decreases-loop-parents l = l.x
