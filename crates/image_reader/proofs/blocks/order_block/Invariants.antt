-- `blocks::order_block` meets its contract: the block's entries passed are read.
use Rattle.std.specs.Prelude.{◌≡◌, ◌+◌, ◌*◌, ◌≤◌}
use Rattle.lists.specs.Kit.{length}
use Rattle.mesh.specs.Image.{block_entries}
use Rattle.image_reader.specs.Site.{OrderRead}
use Rattle.image_reader.proofs.blocks.order_block.Given as goal

abbrev pub invariant-loop-i : goal.invariant-loop-i
invariant-loop-i l = (l.i ≤ l.count) × (length l.order ≡ length l.initial.order) × OrderRead l.image (block_entries * l.q + l.i) l.order
