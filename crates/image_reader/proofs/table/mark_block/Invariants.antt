-- `table::mark_block` meets its contract: the block's links passed are marked.
use Rattle.std.specs.Prelude.{◌≡◌, ◌+◌, ◌*◌, ◌≤◌}
use Rattle.lists.specs.Kit.{length}
use Rattle.mesh.specs.Image.{block_links}
use Rattle.image_reader.proofs.{TableWritten.{Linking}}
use Rattle.image_reader.proofs.table.mark_block.Given as goal

abbrev pub invariant-loop-i : goal.invariant-loop-i
invariant-loop-i l = (l.i ≤ l.part.count) × (length l.links ≡ length l.initial.links) × Linking l.fn.header.radios l.image l.links (block_links * l.q + l.i)
