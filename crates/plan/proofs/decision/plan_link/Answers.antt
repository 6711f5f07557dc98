-- `decision::plan_link` meets its contract: up and down, a plan of the call.
use Rattle.plan.proofs.{CallLaws.{ready_as, planned_for}}
use Rattle.plan.proofs.decision.plan_link.Goals as goal

pub plan_up-requires : goal.plan_up-requires
plan_up-requires c = ready_as c.if-up.true c.requires

pub returns-then-up : goal.returns-then-up
returns-then-up c = planned_for c.if-up.true c.plan_up.ensures

pub plan_down-requires : goal.plan_down-requires
plan_down-requires c = ready_as c.if-up.false c.requires

pub returns : goal.returns
returns c = planned_for c.if-up.false c.plan_down.ensures
