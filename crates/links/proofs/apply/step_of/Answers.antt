-- `apply::step_of` meets its contract: a count of 0, a way up, or a way down.
use Rattle.links.proofs.{ChangeLaws.{counted_step_none, counted_step_up, counted_step_down}}
use Rattle.links.proofs.apply.step_of.Goals as goal

pub returns-then-count-eq0 : goal.returns-then-count-eq0
returns-then-count-eq0 c = counted_step_none _ _ c.if-count-eq0.true

pub returns-then-up : goal.returns-then-up
returns-then-up c = counted_step_up _ _ c.if-count-eq0.false c.if-up.true

pub returns : goal.returns
returns c = counted_step_down _ _ c.if-count-eq0.false c.if-up.false
