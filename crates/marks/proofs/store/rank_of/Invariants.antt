-- `store::rank_of` meets its contract: the names passed stand before the given one, so what is left decides.
use Rattle.marks.proofs.StoreLoops.{Ranking}
use Rattle.marks.proofs.store.rank_of.Given as goal

abbrev pub invariant-loop-i : goal.invariant-loop-i
invariant-loop-i l = Ranking l.store l.name l.i
