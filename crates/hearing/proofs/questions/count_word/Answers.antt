-- `count_word` meets its contract: each turn takes the lowest set bit off the word and counts its radio, and what is left of the
-- word comes with what is counted to what the whole word comes to (`WordCounting`). The measure is the word that is left.
use Rattle.conditions.{specs.Hearing.{hears}, proofs.TallyLaws.{word_fits, word_counting_turn, word_counting_end}}
use Rattle.hearing.proofs.questions.count_word.Goals as goal

pub overflow_add-n : goal.overflow_add-n
overflow_add-n c = word_fits _ _ c.loop-rest.rest c.loop-rest.invariant.0 c.loop-rest-test.true c.loop-rest.invariant.1 c.is_marked.result

pub loop-rest-preserved : goal.loop-rest-preserved
unfolding hears
loop-rest-preserved c = word_counting_turn _ _ c.loop-rest.rest c.loop-rest.invariant c.loop-rest-test.true c.is_marked.ensures

pub returns : goal.returns
returns c = word_counting_end _ _ c.loop-rest.rest c.loop-rest.invariant c.loop-rest-test.false
