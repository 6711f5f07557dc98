-- `words::lower_one` meets its contract, branch by branch.
use Rattle.plan.proofs.{WordLaws.{lowered_due, lowered_only}}
use Rattle.plan.proofs.wide_steps.lower_one.Goals as goal

pub returns-then-counters-v : goal.returns-then-counters-v
returns-then-counters-v c =
    lowered_due _ _ _ _ _ c.requires.2 c.requires.4 c.requires.3 _ c.if-counters-v.true c.put_in.ensures.joined c.put_in.ensures.long

pub returns-else-counters-v : goal.returns-else-counters-v
returns-else-counters-v c = lowered_only _ _ _ _ _ c.requires.2 c.requires.4 c.if-counters-v.false
