-- `writer::fill_blocks` meets its contract: the blocks so far stand in front of the buffer, and the rest is as it was.
use Rattle.std.specs.Prelude.{◌+◌, ◌*◌, ◌-◌}
use Rattle.lists.specs.Kit.{arith}
use Rattle.image_writer.proofs.BlockFilling.{filling_none, filling_turn}
use Rattle.image_writer.proofs.writer.fill_blocks.Goals as goal

pub loop-i-init : goal.loop-i-init
loop-i-init c = (omega arith, filling_none _ _ 0 (omega arith))

pub loop-i-preserved : goal.loop-i-preserved
loop-i-preserved c =
    let k = 512 * c.loop-i.i + 512 - 512 * c.loop-i.i in (
      omega arith,
      filling_turn _ _ 0 c.loop-i.i k _ c.loop-i.invariant.1 (omega arith) _ (omega (arith, c.loop-i.invariant.1.long)) c.fill_block.auto.part
          c.fill_block.ensures,
    )
