-- `mark_word` meets its contract: each turn takes the lowest set bit off the word and marks its pair, and what is left of the word
-- gives with what is marked what the whole word gives (`WordMarking`). The measure is the word that is left.
use Rattle.conditions.proofs.{MarkLaws.{WordMarking}}
use Rattle.hearing.proofs.one_sided.mark_word.Given as goal

abbrev pub invariant-loop-rest : goal.invariant-loop-rest
invariant-loop-rest l = WordMarking l.heard l.a l.first l.word l.initial.one_sided l.rest l.n l.one_sided

abbrev pub decreases-loop-rest : goal.decreases-loop-rest
decreases-loop-rest l = l.rest
