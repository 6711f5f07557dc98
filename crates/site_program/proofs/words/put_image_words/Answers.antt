-- `put_image_words` meets its contract: each number in turn.
use Rattle.lists.specs.Kit.{eq-eqb, ne_eqb}
use Rattle.site_program.specs.Words.{image_words}
use Rattle.site_program.proofs.words.put_image_words.Goals as goal

pub returns-then-number-eq-IMAGE_SIZE : goal.returns-then-number-eq-IMAGE_SIZE
unfolding image_words
returns-then-number-eq-IMAGE_SIZE c = rw (eq-eqb _ 9 c.if-number-eq-IMAGE_SIZE.true) c.put_text.ensures

pub returns-then-number-eq-IMAGE_CHECK : goal.returns-then-number-eq-IMAGE_CHECK
unfolding image_words
returns-then-number-eq-IMAGE_CHECK c =
    rw (ne_eqb _ 9 c.if-number-eq-IMAGE_SIZE.false, eq-eqb _ 10 c.if-number-eq-IMAGE_CHECK.true) c.put_text-then-number-eq-IMAGE_CHECK.ensures

pub returns-then-number-eq-IMAGE : goal.returns-then-number-eq-IMAGE
unfolding image_words
returns-then-number-eq-IMAGE c =
    rw (ne_eqb _ 9 c.if-number-eq-IMAGE_SIZE.false, ne_eqb _ 10 c.if-number-eq-IMAGE_CHECK.false, eq-eqb _ 11 c.if-number-eq-IMAGE.true) c.put_text-then-number-eq-IMAGE.ensures

pub returns-then-number-eq-OTHER_SIZE : goal.returns-then-number-eq-OTHER_SIZE
unfolding image_words
returns-then-number-eq-OTHER_SIZE c =
    rw (ne_eqb _ 9 c.if-number-eq-IMAGE_SIZE.false, ne_eqb _ 10 c.if-number-eq-IMAGE_CHECK.false, ne_eqb _ 11 c.if-number-eq-IMAGE.false, eq-eqb _ 15 c.if-number-eq-OTHER_SIZE.true)
    c.put_text-then-number-eq-OTHER_SIZE.ensures

pub returns : goal.returns
unfolding image_words
returns c =
    rw (ne_eqb _ 9 c.if-number-eq-IMAGE_SIZE.false, ne_eqb _ 10 c.if-number-eq-IMAGE_CHECK.false, ne_eqb _ 11 c.if-number-eq-IMAGE.false, ne_eqb _ 15 c.if-number-eq-OTHER_SIZE.false)
    c.put_further_words.ensures
