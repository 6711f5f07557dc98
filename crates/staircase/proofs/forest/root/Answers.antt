-- `root` meets its contract: every root stays, and from x the way leads where it led from v (`Searching`). The measure is x, which no
-- parent exceeds.
use Rattle.lists.specs.Kit.{refl}
use Rattle.staircase.proofs.{PartLaws.{searching_turn, searching_end}}
use Rattle.staircase.proofs.forest.root.Goals as goal

pub loop-parents-preserved : goal.loop-parents-preserved
loop-parents-preserved c = searching_turn _ _ c.loop-parents.parents c.loop-parents.x _ c.loop-parents-test.true refl c.loop-parents.invariant

pub returns : goal.returns
returns c = searching_end _ _ c.loop-parents.parents _ c.loop-parents-test.false c.loop-parents.invariant
