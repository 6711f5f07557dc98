-- `fall::plan_down` meets its contract: each call's facts are handed to the next; the mathematics is in `proofs.FallPlan`.
use Rattle.lists.specs.Kit.{arith}
use Rattle.plan.proofs.{WalkPlan.{planned_as}, PlanCall.{plan_level, plan_stuck, plan_done}, PlanLevel.{a_below, b_below}, FallPlan.{fall_release, fall_peel, fall_unmoved}}
use Rattle.plan.proofs.fall.plan_down.Goals as goal

pub call_at-call-requires : goal.call_at-call-requires
call_at-call-requires c = plan_level c.requires

pub overflow_cast-a : goal.overflow_cast-a
overflow_cast-a c = omega (arith, a_below c.requires, c.requires.small)

pub overflow_cast-b : goal.overflow_cast-b
overflow_cast-b c = omega (arith, b_below c.requires, c.requires.small)

pub release-requires : goal.release-requires
release-requires c = rw c.both.ensures (fall_release c.requires c.call_at-call.ensures)

pub peel-taken-requires : goal.peel-taken-requires
peel-taken-requires c =
    fall_peel c.requires c.call_at-call.ensures _ _ (rw c.both.ensures at c.release.ensures.counted)
    (rw (c.both.ensures, c.empty-fits.ensures) at c.release.ensures.marked)

pub returns-then-taken-eq0 : goal.returns-then-taken-eq0
returns-then-taken-eq0 c =
    planned_as c.unmoved.ensures
    (fall_unmoved c.requires c.call_at-call.ensures _ _ _
    c.peel-taken.ensures (omega arith) c.if-taken-eq0.true)

pub list_stuck-requires : goal.list_stuck-requires
list_stuck-requires c =
    plan_stuck c.requires c.call_at-call.ensures
    c.stretch_of-at.ensures _ _ _ c.peel-taken.ensures

pub returns : goal.returns
returns c =
    plan_done c.requires c.call_at-call.ensures c.stretch_of-at.ensures _ _ _ _
    c.peel-taken.ensures (omega arith) c.list_stuck.ensures
