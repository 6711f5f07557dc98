-- `turn::mark_fitting` meets its contract: the places from p on give what all places give (`FittingFrom`). The measure is the
-- places that are left.
use Rattle.plan.proofs.TurnLoops.{FittingFrom}
use Rattle.plan.proofs.turn.mark_fitting.Given as goal

abbrev pub invariant-loop-p : goal.invariant-loop-p
invariant-loop-p l = FittingFrom l.order l.counters l.most l.fn.at.start l.fn.at.size l.initial.fits l.p l.fits
