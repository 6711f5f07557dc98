-- `put_spaces` meets its contract: the spaces that are left take the page where all of them do (`Spaces`).
use Rattle.sheet.proofs.{PutLaws.{Spaces}}
use Rattle.sheet.proofs.put_spaces.Given as goal

abbrev pub invariant-loop-i : goal.invariant-loop-i
invariant-loop-i l = Spaces l.initial.page l.at l.count l.page l.i
