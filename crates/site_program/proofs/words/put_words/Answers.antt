-- `put_words` meets its contract: each number in turn.
use Rattle.lists.specs.Kit.{eq-eqb, ne_eqb}
use Rattle.site_program.specs.Words.{words_of}
use Rattle.site_program.proofs.words.put_words.Goals as goal

pub returns-then-number-eq-RADIO : goal.returns-then-number-eq-RADIO
unfolding words_of
returns-then-number-eq-RADIO c = rw (eq-eqb _ 4 c.if-number-eq-RADIO.true) c.put_text.ensures

pub returns-then-number-eq-SAME_ENDS : goal.returns-then-number-eq-SAME_ENDS
unfolding words_of
returns-then-number-eq-SAME_ENDS c =
    rw (ne_eqb _ 4 c.if-number-eq-RADIO.false, eq-eqb _ 5 c.if-number-eq-SAME_ENDS.true) c.put_text-then-number-eq-SAME_ENDS.ensures

pub returns-then-number-eq-LINK_STATE : goal.returns-then-number-eq-LINK_STATE
unfolding words_of
returns-then-number-eq-LINK_STATE c =
    rw (ne_eqb _ 4 c.if-number-eq-RADIO.false, ne_eqb _ 5 c.if-number-eq-SAME_ENDS.false, eq-eqb _ 6 c.if-number-eq-LINK_STATE.true) c.put_text-then-number-eq-LINK_STATE.ensures

pub returns-then-number-eq-NO_ROOM : goal.returns-then-number-eq-NO_ROOM
unfolding words_of
returns-then-number-eq-NO_ROOM c =
    rw (ne_eqb _ 4 c.if-number-eq-RADIO.false, ne_eqb _ 5 c.if-number-eq-SAME_ENDS.false, ne_eqb _ 6 c.if-number-eq-LINK_STATE.false, eq-eqb _ 7 c.if-number-eq-NO_ROOM.true)
    c.put_text-then-number-eq-NO_ROOM.ensures

pub returns-then-number-eq-LEVEL : goal.returns-then-number-eq-LEVEL
unfolding words_of
returns-then-number-eq-LEVEL c =
    rw (
      ne_eqb _ 4 c.if-number-eq-RADIO.false,
      ne_eqb _ 5 c.if-number-eq-SAME_ENDS.false,
      ne_eqb _ 6 c.if-number-eq-LINK_STATE.false,
      ne_eqb _ 7 c.if-number-eq-NO_ROOM.false,
      eq-eqb _ 8
          c.if-number-eq-LEVEL.true,
    ) c.put_text-then-number-eq-LEVEL.ensures

pub returns : goal.returns
unfolding words_of
returns c =
    rw (
      ne_eqb _ 4 c.if-number-eq-RADIO.false,
      ne_eqb _ 5 c.if-number-eq-SAME_ENDS.false,
      ne_eqb _ 6 c.if-number-eq-LINK_STATE.false,
      ne_eqb _ 7 c.if-number-eq-NO_ROOM.false,
      ne_eqb _ 8
          c.if-number-eq-LEVEL.false,
    ) c.put_table_words.ensures
