-- `put_links` meets its contract: the rows that are left take the buffer where all of them do, and fit (`Rows`).
use Rattle.text.{specs.Print.{buffer_at}}
use Rattle.script.proofs.{PutLaws.{Rows}}
use Rattle.script.proofs.writer.put_links.Given as goal

abbrev pub invariant-loop-a : goal.invariant-loop-a
invariant-loop-a l = Rows l.n l.links (buffer_at l.initial.buffer l.at) (buffer_at l.buffer l.place) l.a
