-- `places::next` meets its contract: each branch answers what `next_turn` names.
use Rattle.plan.proofs.{PlaceLaws.{turn_none, turn_back, turn_end, turn_ahead}}
use Rattle.plan.proofs.places.next.Goals as goal

pub returns-then-at : goal.returns-then-at
returns-then-at c = turn_none _ _ _ _ _ c.if-at.true

pub returns-then-p-part : goal.returns-then-p-part
returns-then-p-part c = turn_back _ _ _ _ _ _ c.if-at.false c.lowest-p.ensures c.if-p-part.true

pub returns-then-part-at : goal.returns-then-part-at
returns-then-part-at c = turn_end _ _ _ _ _ _ c.if-at.false c.lowest-p.ensures c.if-p-part.false c.if-part-at.true

pub returns : goal.returns
returns c = turn_ahead _ _ _ _ _ _ c.if-at.false c.lowest-p.ensures c.if-p-part.false c.if-part-at.false _ c.least.ensures
