-- `turn::count_end` meets its contract: each branch stores what `end_counted` names.
use Rattle.lists.specs.Kit.{eq-eqb, ne_eqb}
use Rattle.plan.specs.Turns.{end_counted}
use Rattle.plan.proofs.turn.count_end.Goals as goal

pub returns-then-up : goal.returns-then-up
unfolding end_counted
returns-then-up c = rw (eq-eqb _ _ c.if-numbers-v.true, c.if-up.true)

pub returns-else-up : goal.returns-else-up
unfolding end_counted
returns-else-up c = rw (eq-eqb _ _ c.if-numbers-v.true, c.if-up.false)

pub returns-else-numbers-v : goal.returns-else-numbers-v
unfolding end_counted
returns-else-numbers-v c = rw (ne_eqb _ _ c.if-numbers-v.false)
