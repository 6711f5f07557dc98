-- `RadioSet::list` meets its contract: what is listed so far and what is left from word k on give what the whole set gives
-- (`SetListing`). The measure is the words that are left.
use Rattle.rows.proofs.{SetLaws.{SetListing}}
use Rattle.rows.proofs.sets.RadioSet.list.Given as goal

abbrev pub invariant-loop-k : goal.invariant-loop-k
invariant-loop-k l = SetListing l.self-inside.words l.initial.list l.n l.k l.list
