-- `site::read_order` meets its contract: the blocks passed are read.
use Rattle.std.specs.Prelude.{◌≡◌, ◌*◌}
use Rattle.lists.specs.Kit.{min, length}
use Rattle.mesh.specs.Image.{block_entries}
use Rattle.image_reader.specs.Site.{OrderRead}
use Rattle.image_reader.proofs.site.read_order.Given as goal

abbrev pub invariant-loop-q : goal.invariant-loop-q
invariant-loop-q l =
    (length l.order ≡ length l.initial.order) × OrderRead l.image (min (length l.initial.order) (block_entries * l.q)) l.order
