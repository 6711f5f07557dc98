-- `places::list_entries` meets its contract: what is listed so far and the places from word k on give what the whole set gives
-- (`SetEntries`).
use Rattle.plan.proofs.EntryLists.{SetEntries}
use Rattle.plan.proofs.places.list_entries.Given as goal

abbrev pub invariant-loop-k : goal.invariant-loop-k
invariant-loop-k l = SetEntries l.set l.first l.tail l.taken l.initial.list l.at l.k l.list
