-- `first_end` meets its contract: none of the bytes looked at is a line feed.
use Rattle.site_program.proofs.FirstLaws.{Looked}
use Rattle.site_program.proofs.course.first_end.Given as goal

abbrev pub invariant-loop-i : goal.invariant-loop-i
invariant-loop-i l = Looked l.most l.i l.front
