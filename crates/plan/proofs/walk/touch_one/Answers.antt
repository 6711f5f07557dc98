-- `walk::touch_one` meets its contract: each branch leaves what `place_touched` names.
use Rattle.lists.specs.Kit.{◌∙◌, inl, inr}
use Rattle.plan.proofs.{WalkLoops.{touched_put, touched_not}}
use Rattle.plan.proofs.walk.touch_one.Goals as goal

pub returns-then-spot-w-2 : goal.returns-then-spot-w-2
returns-then-spot-w-2 c = c.put_in.ensures.joined ∙ touched_put _ _ _ _ _ _ c.if-spot-w.true c.if-spot-w-2.true

pub returns-else-spot-w-2 : goal.returns-else-spot-w-2
returns-else-spot-w-2 c = touched_not _ _ _ _ _ _ (inr (c.if-spot-w.true, c.if-spot-w-2.false))

pub returns-else-spot-w : goal.returns-else-spot-w
returns-else-spot-w c = touched_not _ _ _ _ _ _ (inl c.if-spot-w.false)
