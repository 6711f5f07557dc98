-- `ends::leads` meets its contract: each branch answers what `stands_first` names.
use Rattle.lists.specs.Kit.{eq-eqb, ne_eqb}
use Rattle.plan.specs.Places.{stands_first}
use Rattle.plan.proofs.ends.leads.Goals as goal

pub returns-then-first-eq0 : goal.returns-then-first-eq0
unfolding stands_first
returns-then-first-eq0 c = rw (eq-eqb _ _ c.if-first-eq0.true)

pub returns : goal.returns
unfolding stands_first
returns c = rw (c.number_of.ensures, ne_eqb _ _ c.if-first-eq0.false, c.entry_of-v.ensures)
