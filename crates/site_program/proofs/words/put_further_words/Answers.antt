-- `put_further_words` meets its contract: each number in turn.
use Rattle.lists.specs.Kit.{eq-eqb, ne_eqb}
use Rattle.site_program.specs.Words.{further_words}
use Rattle.site_program.proofs.words.put_further_words.Goals as goal

pub returns-then-number-eq-PROPOSAL : goal.returns-then-number-eq-PROPOSAL
unfolding further_words
returns-then-number-eq-PROPOSAL c = rw (eq-eqb _ 16 c.if-number-eq-PROPOSAL.true) c.put_text.ensures

pub returns-then-number-eq-MARK : goal.returns-then-number-eq-MARK
unfolding further_words
returns-then-number-eq-MARK c =
    rw (ne_eqb _ 16 c.if-number-eq-PROPOSAL.false, eq-eqb _ 17 c.if-number-eq-MARK.true) c.put_text-then-number-eq-MARK.ensures

pub returns-then-number-eq-NO_MARK : goal.returns-then-number-eq-NO_MARK
unfolding further_words
returns-then-number-eq-NO_MARK c =
    rw (ne_eqb _ 16 c.if-number-eq-PROPOSAL.false, ne_eqb _ 17 c.if-number-eq-MARK.false, eq-eqb _ 18 c.if-number-eq-NO_MARK.true) c.put_text-then-number-eq-NO_MARK.ensures

pub returns-then-number-eq-MARKS_FULL : goal.returns-then-number-eq-MARKS_FULL
unfolding further_words
returns-then-number-eq-MARKS_FULL c =
    rw (ne_eqb _ 16 c.if-number-eq-PROPOSAL.false, ne_eqb _ 17 c.if-number-eq-MARK.false, ne_eqb _ 18 c.if-number-eq-NO_MARK.false, eq-eqb _ 19 c.if-number-eq-MARKS_FULL.true)
    c.put_text-then-number-eq-MARKS_FULL.ensures

pub returns-then-number-eq-NO_LIFT : goal.returns-then-number-eq-NO_LIFT
unfolding further_words
returns-then-number-eq-NO_LIFT c =
    rw (
      ne_eqb _ 16 c.if-number-eq-PROPOSAL.false,
      ne_eqb _ 17 c.if-number-eq-MARK.false,
      ne_eqb _ 18 c.if-number-eq-NO_MARK.false,
      ne_eqb _ 19 c.if-number-eq-MARKS_FULL.false,
      eq-eqb _ 20
          c.if-number-eq-NO_LIFT.true,
    ) c.put_text-then-number-eq-NO_LIFT.ensures

pub returns : goal.returns
unfolding further_words
returns c =
    rw (
      ne_eqb _ 16 c.if-number-eq-PROPOSAL.false,
      ne_eqb _ 17 c.if-number-eq-MARK.false,
      ne_eqb _ 18 c.if-number-eq-NO_MARK.false,
      ne_eqb _ 19 c.if-number-eq-MARKS_FULL.false,
      ne_eqb _ 20
          c.if-number-eq-NO_LIFT.false,
    ) c.put_text-2.ensures
