-- `text::put_fields` meets its contract: the fields of the numbers so far are put.
use Rattle.text.specs.Print.{buffer_at}
use Rattle.text.proofs.PrintLaws.{Fields}
use Rattle.text.proofs.put_fields.Given as goal

abbrev pub invariant-loop-x : goal.invariant-loop-x
invariant-loop-x g l = Fields g.T.Field.number l.list (buffer_at l.initial.buffer l.at) (buffer_at l.buffer l.place) l.x-index
