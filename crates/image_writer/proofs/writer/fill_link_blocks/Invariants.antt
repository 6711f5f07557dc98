-- `writer::fill_link_blocks` meets its contract: the cursor stands before the links that the next block is to hold (`Linking`). The measure is
-- the links left, and a block more.
use Rattle.std.specs.Prelude.{◌+◌, ◌*◌, ◌-◌}
use Rattle.lists.specs.Kit.{length}
use Rattle.rows.specs.Links.{links_from}
use Rattle.image_writer.proofs.{BlockFilling.{Linking}}
use Rattle.image_writer.proofs.writer.fill_link_blocks.Given as goal

abbrev pub invariant-loop-c : goal.invariant-loop-c
invariant-loop-c l = Linking l.first l.n l.links l.initial.buffer l.c.row l.c.k l.c.first l.c.rest l.i l.count l.buffer

abbrev pub decreases-loop-c : goal.decreases-loop-c
decreases-loop-c l = length (links_from l.n l.links 0 0) + 126 - 126 * (l.i - l.first)
