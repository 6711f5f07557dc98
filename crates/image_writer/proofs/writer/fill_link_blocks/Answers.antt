-- `writer::fill_link_blocks` meets its contract: the cursor stands before the links that the next block is to hold (`Linking`). The measure is
-- the links left, and a block more.
use Rattle.std.specs.Prelude.{◌+◌, ◌*◌, ◌-◌}
use Rattle.lists.specs.Kit.{ap, arith, length}
use Rattle.image_writer.proofs.{LinksPut.{full_same, full_left}, BlockFilling.{first_same, linking_none, linking_room}}
use Rattle.image_writer.proofs.BlockFilling.{linking_turn, linking_end}
use Rattle.image_writer.proofs.writer.fill_link_blocks.Goals as goal

pub loop-c-init : goal.loop-c-init
loop-c-init c =
    let same = first_same c.args.buffer.now _ (full_same c.put_rows-c.ensures.put) in
    linking_none c.args.first c.put_rows-c.ensures.stopped (full_left c.put_rows-c.ensures.put)
    (omega (arith, ap length same, c.requires.fits))

pub slice_bounds-fill_links-end : goal.slice_bounds-fill_links-end
slice_bounds-fill_links-end c =
    let same = first_same c.args.buffer.now _ (full_same c.put_rows-c.ensures.put) in
    omega (arith, linking_room c.loop-c.invariant c.loop-c-test.true (omega (arith, ap length same, c.requires.fits)))

pub loop-c-preserved : goal.loop-c-preserved
loop-c-preserved c =
    let same = first_same c.args.buffer.now _ (full_same c.put_rows-c.ensures.put) in
    linking_turn c.loop-c.invariant c.loop-c-test.true c.fill_links-c.ensures.filled c.fill_links-c.ensures.stopped (512 * c.loop-c.i + 512 - 512 * c.loop-c.i) (omega arith)
    (linking_room c.loop-c.invariant c.loop-c-test.true (omega (arith, ap length same, c.requires.fits))) c.fill_links-c.auto.part

pub returns : goal.returns
returns c =
    let same = first_same c.args.buffer.now _ (full_same c.put_rows-c.ensures.put) in
    rw same at (linking_end c.loop-c.invariant c.loop-c-test.false)
