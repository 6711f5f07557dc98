-- `put_table_words` meets its contract: each number in turn.
use Rattle.lists.specs.Kit.{eq-eqb, ne_eqb}
use Rattle.site_program.specs.Words.{table_words}
use Rattle.site_program.proofs.words.put_table_words.Goals as goal

pub returns-then-number-eq-SIZE : goal.returns-then-number-eq-SIZE
unfolding table_words
returns-then-number-eq-SIZE c = rw (eq-eqb _ 1 c.if-number-eq-SIZE.true) c.put_text.ensures

pub returns-then-number-eq-LENGTH : goal.returns-then-number-eq-LENGTH
unfolding table_words
returns-then-number-eq-LENGTH c =
    rw (ne_eqb _ 1 c.if-number-eq-SIZE.false, eq-eqb _ 2 c.if-number-eq-LENGTH.true) c.put_text-then-number-eq-LENGTH.ensures

pub returns-then-number-eq-UNSOUND : goal.returns-then-number-eq-UNSOUND
unfolding table_words
returns-then-number-eq-UNSOUND c =
    rw (ne_eqb _ 1 c.if-number-eq-SIZE.false, ne_eqb _ 2 c.if-number-eq-LENGTH.false, eq-eqb _ 3 c.if-number-eq-UNSOUND.true) c.put_text-then-number-eq-UNSOUND.ensures

pub returns-then-number-eq-PAGE : goal.returns-then-number-eq-PAGE
unfolding table_words
returns-then-number-eq-PAGE c =
    rw (ne_eqb _ 1 c.if-number-eq-SIZE.false, ne_eqb _ 2 c.if-number-eq-LENGTH.false, ne_eqb _ 3 c.if-number-eq-UNSOUND.false, eq-eqb _ 12 c.if-number-eq-PAGE.true)
    c.put_text-then-number-eq-PAGE.ensures

pub returns-then-number-eq-TEXT : goal.returns-then-number-eq-TEXT
unfolding table_words
returns-then-number-eq-TEXT c =
    rw (
      ne_eqb _ 1 c.if-number-eq-SIZE.false,
      ne_eqb _ 2 c.if-number-eq-LENGTH.false,
      ne_eqb _ 3 c.if-number-eq-UNSOUND.false,
      ne_eqb _ 12 c.if-number-eq-PAGE.false,
      eq-eqb _ 13
          c.if-number-eq-TEXT.true,
    ) c.put_text-then-number-eq-TEXT.ensures

pub returns-then-number-eq-HEARD : goal.returns-then-number-eq-HEARD
unfolding table_words
returns-then-number-eq-HEARD c =
    rw (
      ne_eqb _ 1 c.if-number-eq-SIZE.false,
      ne_eqb _ 2 c.if-number-eq-LENGTH.false,
      ne_eqb _ 3 c.if-number-eq-UNSOUND.false,
      ne_eqb _ 12 c.if-number-eq-PAGE.false,
      ne_eqb _ 13
          c.if-number-eq-TEXT.false,
      eq-eqb _ 14 c.if-number-eq-HEARD.true,
    ) c.put_text-then-number-eq-HEARD.ensures

pub returns : goal.returns
unfolding table_words
returns c =
    rw (
      ne_eqb _ 1 c.if-number-eq-SIZE.false,
      ne_eqb _ 2 c.if-number-eq-LENGTH.false,
      ne_eqb _ 3 c.if-number-eq-UNSOUND.false,
      ne_eqb _ 12 c.if-number-eq-PAGE.false,
      ne_eqb _ 13
          c.if-number-eq-TEXT.false,
      ne_eqb _ 14 c.if-number-eq-HEARD.false,
    ) c.put_image_words.ensures
