-- `rows::list_bits` meets its contract: each turn takes the lowest set bit off the word, and what is left of the word's set
-- bits gives what all of them give (`WordListing`). The measure is the word that is left.
use Rattle.rows.proofs.{Listing.{WordListing}}
use Rattle.rows.proofs.list_bits.Given as goal

abbrev pub invariant-loop-rest : goal.invariant-loop-rest
invariant-loop-rest l = WordListing l.first l.word l.count l.initial.list l.rest l.n l.list

abbrev pub decreases-loop-rest : goal.decreases-loop-rest
decreases-loop-rest l = l.rest
