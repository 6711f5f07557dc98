-- `rise::rises_whole` meets its contract: the radios passed do not fit, so the others decide (`StretchPassing`). The measure is the places
-- that are left.
use Rattle.plan.specs.Turns.{stays_linked}
use Rattle.plan.proofs.{StretchLoops.{StretchPassing}}
use Rattle.plan.proofs.rise.rises_whole.Given as goal

abbrev pub invariant-loop-i : goal.invariant-loop-i
invariant-loop-i l = StretchPassing (stays_linked l.rise.a l.rise.b l.rise.most l.not_lower) l.order l.fn.at.start l.fn.at.size l.i
