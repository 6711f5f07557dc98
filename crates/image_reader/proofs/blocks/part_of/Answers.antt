-- `blocks::part_of` meets its contract: the place and the count are the definition's own.
use Rattle.lists.specs.Kit.{refl}
use Rattle.mesh.specs.Image.{order_blocks}
use Rattle.image_reader.proofs.{BlockLaws.{part_is}}
use Rattle.image_reader.proofs.blocks.part_of.Goals as goal

pub returns : goal.returns
unfolding order_blocks
returns c = part_is _ _ _ _ _ _ _ c.blocks_for-orders.ensures refl refl c.least.ensures
