-- `store::count_used` meets its contract: the places passed are used, so what is left decides.
use Rattle.marks.proofs.StoreLoops.{Counting}
use Rattle.marks.proofs.store.count_used.Given as goal

abbrev pub invariant-loop-i : goal.invariant-loop-i
invariant-loop-i l = Counting l.store l.i
