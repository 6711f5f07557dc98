-- `list_above` meets its contract: each turn takes the lowest set bit off the word, and what is left of the radios above a gives with
-- the ones written what all of them give (`AboveListing`). The measure is the word that is left.
use Rattle.conditions.proofs.WantLaws.{AboveListing}
use Rattle.hearing.proofs.wanted.list_above.Given as goal

abbrev pub invariant-loop-rest : goal.invariant-loop-rest
invariant-loop-rest l = AboveListing l.a l.first l.word l.count l.initial.list l.rest l.n l.list

abbrev pub decreases-loop-rest : goal.decreases-loop-rest
decreases-loop-rest l = l.rest
