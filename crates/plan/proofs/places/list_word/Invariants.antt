-- `places::list_word` meets its contract: each turn takes the lowest set bit off the word, and what is left of its set bits gives what all
-- of them give (`WordEntries`). The measure is the word that is left.
use Rattle.plan.proofs.EntryLists.{WordEntries}
use Rattle.plan.proofs.places.list_word.Given as goal

abbrev pub invariant-loop-rest : goal.invariant-loop-rest
invariant-loop-rest l = WordEntries l.k l.first l.tail l.at l.initial.list l.word l.rest l.n l.list

abbrev pub decreases-loop-rest : goal.decreases-loop-rest
decreases-loop-rest l = l.rest
