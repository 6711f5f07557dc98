-- `site::are_few` meets its contract: the answer so far is that of the counts passed.
use Rattle.lists.specs.Kit.{arith}
use Rattle.image.proofs.CheckLaws.{passing_none, passing_turn}
use Rattle.image_reader.proofs.site.are_few.Goals as goal

pub loop-count-init : goal.loop-count-init
loop-count-init c = passing_none _ _

pub loop-count-preserved : goal.loop-count-preserved
loop-count-preserved c = passing_turn _ _ _ _ c.loop-count.invariant (omega arith)
