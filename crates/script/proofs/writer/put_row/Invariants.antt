-- `put_row` meets its contract: the lines that are left take the buffer where all of them do, and fit (`Ends`).
use Rattle.text.{specs.Print.{buffer_at}}
use Rattle.script.proofs.{PutLaws.{Ends}}
use Rattle.script.proofs.writer.put_row.Given as goal

abbrev pub invariant-loop-b : goal.invariant-loop-b
invariant-loop-b l = Ends l.a l.list (buffer_at l.initial.buffer l.at) (buffer_at l.buffer l.place) l.b-index
