-- `peel::plan_peel` meets its contract: each call's facts are handed to the next; the mathematics is in `proofs.PlanCall`.
use Rattle.lists.specs.Kit.{arith}
use Rattle.plan.proofs.{PlanCall.{plan_level, plan_begin, plan_peel, plan_stuck, plan_done}}
use Rattle.plan.proofs.peel.plan_peel.Goals as goal

pub call_at-call-requires : goal.call_at-call-requires
call_at-call-requires c = plan_level c.requires

pub begin-requires : goal.begin-requires
begin-requires c =
    plan_begin c.requires c.call_at-call.ensures
    c.stretch_of-at.ensures

pub peel-taken-requires : goal.peel-taken-requires
peel-taken-requires c =
    plan_peel c.requires c.call_at-call.ensures
    c.stretch_of-at.ensures _ _ (c.begin.ensures.counted, rw c.empty-fits.ensures at c.begin.ensures.marked)

pub list_stuck-requires : goal.list_stuck-requires
list_stuck-requires c =
    plan_stuck c.requires
    c.call_at-call.ensures
    c.stretch_of-at.ensures _ _ _ c.peel-taken.ensures

pub returns : goal.returns
returns c =
    plan_done c.requires c.call_at-call.ensures c.stretch_of-at.ensures _ _ _ _
    c.peel-taken.ensures (omega arith) c.list_stuck.ensures
