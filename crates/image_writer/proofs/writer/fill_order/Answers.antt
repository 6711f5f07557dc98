-- `writer::fill_order` meets its contract: the payload of an opened block, which is then sealed.
use Rattle.lists.specs.Kit.{ap, ◌∙◌, List, flat_map, ℕ, sets}
use Rattle.mesh.specs.Image.{word}
use Rattle.image_writer.specs.Filler.{sealed}
use Rattle.image_writer.proofs.FillerLaws.{sealed_payload, order_part, length_order_bytes}
use Rattle.image_writer.proofs.writer.fill_order.Goals as goal

pub returns : goal.returns
returns c =
    c.close_block.ensures
    ∙ ap sealed (c.put_order.ensures ∙ ap (λ (b : List ℕ). sets b 4 (flat_map word (order_part c.args.order.now c.args.from)))
    c.open_block.ensures)
    ∙ sealed_payload 1 c.args.index (flat_map word (order_part c.args.order.now c.args.from)) (length_order_bytes c.args.order.now c.args.from)
