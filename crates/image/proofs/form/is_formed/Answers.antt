-- `form::is_formed` meets its contract: the header's number of radios is the image's, and each test is a part of the definition.
use Rattle.lists.specs.Kit.{sym, eq-eqb, ne_eqb}
use Rattle.image.specs.Form.{is_formed}
use Rattle.image.proofs.form.is_formed.Goals as goal

pub returns-then-image-blocks : goal.returns-then-image-blocks
unfolding is_formed
returns-then-image-blocks c =
    rw (eq-eqb _ _ (sym c.requires.radios_said), ← c.requires.links_said, ← c.block_count-blocks.ensures, ne_eqb _ _ c.if-image-blocks.true)

pub returns : goal.returns
unfolding is_formed
returns c =
    rw (eq-eqb _ _ (sym c.requires.radios_said), ← c.requires.links_said, ← c.block_count-blocks.ensures, eq-eqb _ _ c.if-image-blocks.false) c.are_formed.ensures
