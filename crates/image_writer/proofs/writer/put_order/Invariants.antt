-- `writer::put_order` meets its contract: the entries so far stand in the payload.
use Rattle.mesh.{specs.Image.{word}, proofs.Images.Words.{length_word}}
use Rattle.image_writer.proofs.FillerLaws.{Putting, order_part}
use Rattle.image_writer.proofs.writer.put_order.Given as goal

abbrev pub invariant-loop-v : goal.invariant-loop-v
invariant-loop-v l = Putting word 2 length_word l.initial.part 4 (order_part l.order l.from) l.v l.part
