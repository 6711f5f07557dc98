-- `peel::peel` meets its contract: the entries written so far are taken by the peel, counters and fitting places tell of what is
-- left, which the set has (`MaskedFrom`). The measure is the radios of the level that are not taken.
use Rattle.std.specs.Prelude.{◌-◌}
use Rattle.plan.specs.Places.{level_size}
use Rattle.plan.proofs.PeelLoop.{MaskedFrom}
use Rattle.plan.proofs.peel.peel.Given as goal

abbrev pub invariant-loop-p : goal.invariant-loop-p
invariant-loop-p l = MaskedFrom l.call.up l.call.a l.call.b l.call.level l.call.most l.t.links.now l.t.numbers.now l.t.order.now l.places
    l.left l.counters l.fits l.list l.taken

abbrev pub decreases-loop-p : goal.decreases-loop-p
decreases-loop-p l = level_size l.t.numbers.now l.call.level - l.taken
