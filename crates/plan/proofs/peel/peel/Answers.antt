-- `peel::peel` meets its contract: the entries written so far are taken by the peel, counters and fitting places tell of what is
-- left, which the set has (`MaskedFrom`). The measure is the radios of the level that are not taken.
use Rattle.lists.specs.Kit.{arith}
use Rattle.plan.proofs.PeelLoop.{masked_none, peel_below, peel_room, peel_few, peel_row, masked_releasable, masked_turn, peel_end}
use Rattle.plan.proofs.peel.peel.Goals as goal

pub loop-p-init : goal.loop-p-init
loop-p-init c = rw c.full-left.ensures (masked_none c.requires _ (omega arith))

pub bounds-t-p : goal.bounds-t-p
bounds-t-p c = peel_below c.requires c.loop-p.invariant.0 c.in-Some.ensures

pub bounds-list-taken : goal.bounds-list-taken
bounds-list-taken c = omega (arith, peel_few c.requires c.loop-p.invariant.0 c.in-Some.ensures)

pub overflow_add-taken : goal.overflow_add-taken
overflow_add-taken c = omega (arith, peel_few c.requires c.loop-p.invariant.0 c.in-Some.ensures)

pub take_left-requires : goal.take_left-requires
take_left-requires c = (
  peel_row c.requires c.loop-p.invariant.0 c.in-Some.ensures,
  masked_releasable c.requires c.loop-p.invariant.0 c.in-Some.ensures c.loop-p.invariant.1,
)

pub loop-p-smaller : goal.loop-p-smaller
loop-p-smaller c = omega (arith, peel_room c.requires c.loop-p.invariant.0 c.in-Some.ensures)

pub loop-p-preserved : goal.loop-p-preserved
loop-p-preserved c =
    masked_turn c.requires c.loop-p.invariant.0 c.in-Some.ensures c.loop-p.invariant.1 _ _ _ c.take_out.ensures.left
    c.take_left.ensures.counted c.take_left.ensures.marked

pub returns : goal.returns
returns c = peel_end c.requires c.loop-p.invariant.0 c.in_default.ensures
