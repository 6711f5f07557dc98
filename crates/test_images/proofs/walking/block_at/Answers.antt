-- `walking::block_at`: the payload that the answer names lies in the image.
use Rattle.std.proofs.Common.{arith}
use Rattle.block_reader.proofs.StepLaws.{block_inside}
use Rattle.test_images.proofs.walking.block_at.Goals as goal

pub overflow_add-end : goal.overflow_add-end
overflow_add-end c = omega (arith, block_inside c.args.image.now c.args.i c.block-b.result c.block-b.ensures)

pub slice_bounds-result-end : goal.slice_bounds-result-end
slice_bounds-result-end c = omega (arith, block_inside c.args.image.now c.args.i c.block-b.result c.block-b.ensures)
