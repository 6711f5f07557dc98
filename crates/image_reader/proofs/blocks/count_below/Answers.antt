-- `blocks::count_below` meets its contract: each end counts by its test.
use Rattle.image_reader.proofs.{TallyLaws.{link_counted}}
use Rattle.image_reader.proofs.blocks.count_below.Goals as goal

pub returns : goal.returns
returns c = link_counted _ _ _ _ _ _ _ _ _ c.is_below.ensures c.is_below-2.ensures c.bump.ensures c.bump-2.ensures
