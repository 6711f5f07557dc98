-- `shift::move_down` meets its contract: the bytes before i stand one place lower.
use Rattle.marks.proofs.{Moving.{MovingDown}}
use Rattle.marks.proofs.shift.move_down.Given as goal

abbrev pub invariant-loop-i : goal.invariant-loop-i
invariant-loop-i l = MovingDown l.initial.kept l.kept l.from l.to l.i
