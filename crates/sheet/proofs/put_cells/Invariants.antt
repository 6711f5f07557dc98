-- `put_cells` meets its contract: the cells that are left take the page where all of them do (`Cells`).
use Rattle.sheet.proofs.{PutLaws.{Cells}}
use Rattle.sheet.proofs.put_cells.Given as goal

abbrev pub invariant-loop-i : goal.invariant-loop-i
invariant-loop-i l = Cells l.initial.page l.at l.numbers l.v l.k l.page l.i
