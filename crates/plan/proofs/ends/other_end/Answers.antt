-- `ends::other_end` meets its contract: each branch answers what `other_end` names.
use Rattle.lists.specs.Kit.{eq-eqb, ne_eqb}
use Rattle.plan.specs.Places.{other_end}
use Rattle.plan.proofs.ends.other_end.Goals as goal

pub returns-then-v-a : goal.returns-then-v-a
unfolding other_end
returns-then-v-a c = rw (eq-eqb _ _ c.if-v-a.true)

pub returns-then-v-b : goal.returns-then-v-b
unfolding other_end
returns-then-v-b c = rw (ne_eqb _ _ c.if-v-a.false, eq-eqb _ _ c.if-v-b.true)

pub returns : goal.returns
unfolding other_end
returns c = rw (ne_eqb _ _ c.if-v-a.false, ne_eqb _ _ c.if-v-b.false)
