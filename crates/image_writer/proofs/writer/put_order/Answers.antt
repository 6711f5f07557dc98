-- `writer::put_order` meets its contract: the entries so far stand in the payload.
use Rattle.lists.specs.Kit.{arith}
use Rattle.mesh.{specs.Image.{word}, proofs.Images.Words.{length_word}}
use Rattle.image_writer.proofs.FillerLaws.{putting_none, putting_turn, putting_end, order_part, length_order_part, get_d_order_part}
use Rattle.image_writer.proofs.writer.put_order.Goals as goal

pub loop-v-init : goal.loop-v-init
loop-v-init c = putting_none word 2 length_word _ 4 _

pub loop-v-preserved : goal.loop-v-preserved
loop-v-preserved c =
    putting_turn word 2 length_word c.args.part.now 4 (order_part c.args.order.now c.args.from) c.loop-v.v c.loop-v.part _ 0 _
    c.loop-v.invariant
    (omega (arith, length_order_part c.args.order.now c.args.from)) (get_d_order_part c.args.order.now c.args.from c.loop-v.v (omega arith))
    (c.put_word.ensures)

pub returns : goal.returns
returns c =
    putting_end word 2 length_word c.args.part.now 4 (order_part c.args.order.now c.args.from) _ _ c.loop-v.invariant
    (omega (arith, length_order_part c.args.order.now c.args.from))
