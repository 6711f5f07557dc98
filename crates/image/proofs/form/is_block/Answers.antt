-- `form::is_block` meets its contract: each test is a part of the definition.
use Rattle.lists.specs.Kit.{eq-eqb, ne_eqb}
use Rattle.image.specs.Form.{block_formed}
use Rattle.image.proofs.form.is_block.Goals as goal

pub returns-then-image-at : goal.returns-then-image-at
unfolding block_formed
returns-then-image-at c = rw (← c.byte.ensures, ne_eqb _ _ c.if-image-at.true)

pub returns-then-image-at-ne0 : goal.returns-then-image-at-ne0
unfolding block_formed
returns-then-image-at-ne0 c = rw (← c.byte.ensures, eq-eqb _ _ c.if-image-at.false, ne_eqb _ 0 c.if-image-at-ne0.true)

pub returns-then-word_at-i : goal.returns-then-word_at-i
unfolding block_formed
returns-then-word_at-i c =
    rw (← c.byte.ensures, eq-eqb _ _ c.if-image-at.false, eq-eqb _ 0 c.if-image-at-ne0.false, ← c.word_at.ensures.0, ne_eqb _ _ c.if-word_at-i.true)

pub returns : goal.returns
unfolding block_formed
returns c =
    rw (← c.byte.ensures, eq-eqb _ _ c.if-image-at.false, eq-eqb _ 0 c.if-image-at-ne0.false, ← c.word_at.ensures.0, eq-eqb _ _ c.if-word_at-i.false)
    c.are_zeros.ensures
