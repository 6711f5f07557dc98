-- `reader::put_numbers` meets its contract: 8-bit entries being written.
use Rattle.lists.specs.Kit.{refl, arith}
use Rattle.tables.proofs.WidthLaws.{writing_none, writing_turn, writing_all}
use Rattle.image_reader.proofs.reader.put_numbers.Goals as goal

pub loop-v-init : goal.loop-v-init
loop-v-init c = writing_none 8 _ _

pub loop-v-preserved : goal.loop-v-preserved
loop-v-preserved c = writing_turn 8 _ _ _ _ _ c.loop-v.invariant (omega arith) refl

pub returns : goal.returns
returns c = writing_all 8 _ _ _ _ c.loop-v.invariant (omega arith)
