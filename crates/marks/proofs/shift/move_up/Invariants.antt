-- `shift::move_up` meets its contract: the bytes from i on stand one place higher.
use Rattle.marks.proofs.{Moving.{MovingUp}}
use Rattle.marks.proofs.shift.move_up.Given as goal

abbrev pub invariant-loop-i : goal.invariant-loop-i
invariant-loop-i l = MovingUp l.initial.kept l.kept l.from l.to l.i
