-- `mark_word` meets its contract: each turn takes the lowest set bit off the word and marks its pair, and what is left of the word
-- gives with what is marked what the whole word gives (`WordMarking`). The measure is the word that is left.
use Rattle.conditions.proofs.{TallyLaws.{word_fits}, MarkLaws.{word_pair, word_end}}
use Rattle.hearing.proofs.one_sided.mark_word.Goals as goal

pub overflow_add-n : goal.overflow_add-n
overflow_add-n c =
    word_fits _ _ c.loop-rest.rest c.loop-rest.invariant.0 c.loop-rest-test.true c.loop-rest.invariant.1.tally
    c.mark_pair.result

pub loop-rest-preserved : goal.loop-rest-preserved
loop-rest-preserved c = word_pair _ _ c.loop-rest.rest c.loop-rest.invariant c.loop-rest-test.true c.mark_pair.ensures

pub returns : goal.returns
returns c = word_end _ _ c.loop-rest.rest c.loop-rest.invariant c.loop-rest-test.false
