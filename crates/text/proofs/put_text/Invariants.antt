-- `text::put_text` meets its contract: the bytes that are left take the buffer where the whole text takes the lent one.
--
use Rattle.std.specs.Prelude.{◌≤◌}
use Rattle.lists.{specs.Kit.{length, drop}}
use Rattle.text.specs.Print.{buffer_at}
use Rattle.text.proofs.PrintLaws.{Putting}
use Rattle.text.proofs.put_text.Given as goal

abbrev pub invariant-loop-x : goal.invariant-loop-x
invariant-loop-x l = (l.x-index ≤ length l.text) × Putting (buffer_at l.initial.buffer l.at) l.text (buffer_at l.buffer l.place) (drop l.x-index l.text)
