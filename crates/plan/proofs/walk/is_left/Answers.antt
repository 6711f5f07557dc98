-- `walk::is_left` meets its contract: each branch answers what `is_left` names.
use Rattle.lists.specs.Kit.{eq-eqb, ne_eqb, lt-ltb, le-ltb}
use Rattle.plan.specs.Walks.{is_left}
use Rattle.plan.proofs.walk.is_left.Goals as goal

pub returns-then-spot-w : goal.returns-then-spot-w
unfolding is_left
returns-then-spot-w c = rw (ne_eqb _ _ c.if-spot-w.true)

pub returns-then-spot-w-2 : goal.returns-then-spot-w-2
unfolding is_left
returns-then-spot-w-2 c = rw (eq-eqb _ _ c.if-spot-w.false, lt-ltb _ _ c.if-spot-w-2.true)

pub returns : goal.returns
unfolding is_left
returns c = rw (eq-eqb _ _ c.if-spot-w.false, le-ltb _ _ c.if-spot-w-2.false)
