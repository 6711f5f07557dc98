-- `blocks::key_of` meets its contract: it is the definition's own sum.
use Rattle.lists.specs.Kit.{refl}
use Rattle.image_reader.specs.Site.{key_of}
use Rattle.image_reader.proofs.blocks.key_of.Goals as goal

pub returns : goal.returns
unfolding key_of
returns c = refl
