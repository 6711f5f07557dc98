-- `store::is_store` meets its contract: the used places passed are marks in rising order, so what is left decides.
use Rattle.marks.proofs.StoreLoops.{TestingMarks}
use Rattle.marks.proofs.store.is_store.Given as goal

abbrev pub invariant-loop-i : goal.invariant-loop-i
invariant-loop-i l = TestingMarks l.n l.store l.i
