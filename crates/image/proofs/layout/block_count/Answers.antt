-- `layout::block_count` meets its contract: one block, the order's and the links'.
use Rattle.lists.specs.Kit.{arith}
use Rattle.mesh.specs.Image.{order_blocks, block_count, blocks_for}
use Rattle.image.proofs.layout.block_count.Goals as goal

pub overflow_add-result : goal.overflow_add-result
unfolding order_blocks block_count blocks_for
overflow_add-result c = omega (arith, c.blocks_for.ensures)

pub overflow_add-result-2 : goal.overflow_add-result-2
unfolding order_blocks block_count blocks_for
overflow_add-result-2 c = omega (arith, c.blocks_for.ensures, c.blocks_for-2.ensures)

pub returns : goal.returns
unfolding order_blocks block_count blocks_for
returns c = omega (arith, c.blocks_for.ensures, c.blocks_for-2.ensures)
