-- `writer::fill_block` meets its contract: the block's kind goes by its number.
use Rattle.lists.specs.Kit.{arith}
use Rattle.mesh.specs.Image.{order_blocks, blocks_for}
use Rattle.image_writer.proofs.{BlockFilling.{front_counts, front_order}}
use Rattle.image_writer.proofs.writer.fill_block.Goals as goal

pub returns-then-i-eq0 : goal.returns-then-i-eq0
returns-then-i-eq0 c = front_counts _ _ _ _ _ c.if-i-eq0.true c.fill_counts.ensures

pub fill_order-requires : goal.fill_order-requires
unfolding order_blocks blocks_for
fill_order-requires c = (c.requires.0, omega (arith, c.requires.1, c.requires.2, c.if-i-eq0.false))

pub returns : goal.returns
returns c = front_order _ _ _ _ _ c.if-i-eq0.false c.fill_order.ensures
