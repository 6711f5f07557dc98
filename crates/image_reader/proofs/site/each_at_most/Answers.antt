-- `site::each_at_most` meets its contract: the answer so far is that of the entries passed.
use Rattle.lists.specs.Kit.{arith}
use Rattle.image.proofs.CheckLaws.{passing_none, passing_turn}
use Rattle.image_reader.proofs.site.each_at_most.Goals as goal

pub loop-v-init : goal.loop-v-init
loop-v-init c = passing_none _ _

pub loop-v-preserved : goal.loop-v-preserved
loop-v-preserved c = passing_turn _ _ _ _ c.loop-v.invariant (omega arith)
