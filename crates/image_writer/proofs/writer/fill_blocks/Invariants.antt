-- `writer::fill_blocks` meets its contract: the blocks so far stand in front of the buffer, and the rest is as it was.
use Rattle.std.specs.Prelude.{◌≤◌}
use Rattle.image_writer.specs.Blocks.{front_block}
use Rattle.image_writer.proofs.BlockFilling.{Filling}
use Rattle.image_writer.proofs.writer.fill_blocks.Given as goal

abbrev pub invariant-loop-i : goal.invariant-loop-i
invariant-loop-i l = (l.i ≤ l.blocks) × Filling (front_block l.header.radios l.header.links l.order) l.initial.buffer 0 l.i l.buffer
