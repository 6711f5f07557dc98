-- `blocks::count_ends` meets its contract: with no ranks and a slack of 1, each end counts.
use Rattle.lists.specs.Kit.{refl, true}
use Rattle.image_reader.proofs.{TallyLaws.{link_counted}}
use Rattle.image_reader.proofs.blocks.count_ends.Goals as goal

pub returns : goal.returns
returns c = link_counted _ _ _ _ _ _ _ true true refl refl c.bump.ensures c.bump-2.ensures
