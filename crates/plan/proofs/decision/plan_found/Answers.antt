-- `decision::plan_found` meets its contract: what the questions leave is what a plan is made from; what the check found has an entry for
-- every radio.
use Rattle.lists.specs.Kit.{refl, arith}
use Rattle.plan.proofs.CallLaws.{plan_ready}
use Rattle.plan.proofs.decision.plan_found.Goals as goal

pub plan_link-requires : goal.plan_link-requires
plan_link-requires c = plan_ready _ _ _ _ _ c.requires.0 c.args.stretch.now _ _ _ c.requires.1 refl _ refl c.requires.2 (omega arith) (omega arith)
