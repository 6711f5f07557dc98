-- `writer::has_room` meets its contract: fewer links want no more blocks, so the most that a site may have tell where there is room
-- for all; else the links are counted.
use Rattle.std.specs.Prelude.{◌*◌}
use Rattle.lists.specs.Kit.{sym, arith, length, le-leb}
use Rattle.rows.specs.Links.{links_from}
use Rattle.mesh.specs.Image.{block_count, order_blocks, blocks_for}
use Rattle.image_writer.proofs.writer.has_room.Goals as goal

pub returns-then-block_count-bytes : goal.returns-then-block_count-bytes
unfolding block_count order_blocks blocks_for
returns-then-block_count-bytes c =
    let m = length (links_from c.args.n c.args.links.now 0 0) in
    sym (le-leb (512 * block_count c.args.n m) c.args.bytes (omega (arith, c.requires.1, c.block_count.ensures, c.if-block_count-bytes.true)))
