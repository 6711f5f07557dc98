-- `places::image_size` meets its contract: the header stands after the name.
use Rattle.marks.proofs.{MarkTests.{image_size_at, image_size_less}}
use Rattle.marks.proofs.places.image_size.Goals as goal

pub returns : goal.returns
returns c = (
  image_size_at c.args.n _ _ c.args.place.now c.header_of-header.ensures.links_said c.block_count.ensures,
  image_size_less _ _ _ c.ranges.n.fits c.header_of-header.ensures.links_fit c.block_count.ensures,
)
