-- `step::change` meets its contract: the counters are a copy of the not-lower counts, so the plan can be made, and the changed radios have
-- room.
use Rattle.lists.specs.Kit.{arith}
use Rattle.links.proofs.{StepLaws.{step_small, step_plan, step_fits, step_changed}}
use Rattle.links.proofs.step.change.Goals as goal

pub overflow_cast-t : goal.overflow_cast-t
overflow_cast-t c = omega (arith, step_small c.requires)

pub plan_link-plan-requires : goal.plan_link-plan-requires
plan_link-plan-requires c = step_plan c.requires

pub apply-made-requires : goal.apply-made-requires
apply-made-requires c = step_fits c.requires _ _ _ _ c.plan_link-plan.ensures

pub returns : goal.returns
returns c =
    step_changed c.requires _ _ _ _ c.plan_link-plan.ensures c.args.changed.now (omega arith) _ _ _ c.apply-made.ensures
