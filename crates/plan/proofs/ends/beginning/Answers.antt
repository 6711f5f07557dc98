-- `ends::beginning` meets its contract: each branch answers what `beginning_end` names.
use Rattle.plan.proofs.{PlaceLaws.{begins_lower, begins_higher, begins_earlier, begins_later}}
use Rattle.plan.proofs.ends.beginning.Goals as goal

pub returns-then-x-y : goal.returns-then-x-y
returns-then-x-y c = begins_lower _ _ _ _ _ _ c.number_of-x.ensures c.number_of-y.ensures c.if-x-y.true

pub returns-then-y-x : goal.returns-then-y-x
returns-then-y-x c = begins_higher _ _ _ _ _ _ c.number_of-x.ensures c.number_of-y.ensures c.if-y-x.true

pub returns-then-entry_of : goal.returns-then-entry_of
returns-then-entry_of c =
    begins_earlier _ _ _ _ _ _ c.number_of-x.ensures c.number_of-y.ensures _ _ c.entry_of.ensures c.entry_of-2.ensures
    c.if-x-y.false c.if-y-x.false c.if-entry_of.true

pub returns : goal.returns
returns c =
    begins_later _ _ _ _ _ _ c.number_of-x.ensures c.number_of-y.ensures _ _ c.entry_of.ensures c.entry_of-2.ensures
    c.if-x-y.false c.if-y-x.false c.if-entry_of.false
