-- `count_word` meets its contract: each turn takes the lowest set bit off the word and counts its radio, and what is left of the
-- word comes with what is counted to what the whole word comes to (`WordCounting`). The measure is the word that is left.
use Rattle.conditions.{specs.Hearing.{hears}, proofs.TallyLaws.{WordCounting}}
use Rattle.hearing.proofs.questions.count_word.Given as goal

abbrev pub invariant-loop-rest : goal.invariant-loop-rest
invariant-loop-rest l = WordCounting (hears l.heard l.a) l.first l.word l.rest l.n

abbrev pub decreases-loop-rest : goal.decreases-loop-rest
decreases-loop-rest l = l.rest
