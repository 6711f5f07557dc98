-- `zeros::join_zeros` meets its contract: the bytes passed are joined, and joined they are zero exactly if all are.
use Rattle.marks.proofs.{Left.{Joining}}
use Rattle.marks.proofs.zeros.join_zeros.Given as goal

abbrev pub invariant-loop-d : goal.invariant-loop-d
invariant-loop-d l = Joining l.bytes l.joined l.d-index
