-- `fill::index16` meets its contract: 16-bit entries being written, each its own index. The measure is what is left of d.
use Rattle.lists.specs.Kit.{refl, arith}
use Rattle.tables.proofs.{WidthLaws.{writing_none, writing_turn, writing_all}}
use Rattle.tables.proofs.fill.index16.Goals as goal

pub loop-v-init : goal.loop-v-init
loop-v-init c = writing_none 16 _ _

pub loop-v-preserved : goal.loop-v-preserved
loop-v-preserved c = writing_turn 16 _ _ _ _ _ c.loop-v.invariant (omega arith) refl

pub returns : goal.returns
returns c = writing_all 16 _ _ _ _ c.loop-v.invariant (omega arith)
