-- `put_sheet` meets its contract: the lines that are left take the page where all of them do (`Lines`).
use Rattle.sheet.proofs.{PutLaws.{Lines}}
use Rattle.sheet.proofs.put_sheet.Given as goal

abbrev pub invariant-loop-i : goal.invariant-loop-i
invariant-loop-i l = Lines l.numbers l.initial.page l.page l.i
