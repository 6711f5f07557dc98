-- `tries::counter_of` meets its contract: each return is a case of `counter_start`.
use Rattle.lift.proofs.{TryLaws.{start_past, start_other, start_own}}
use Rattle.lift.proofs.tries.counter_of.Goals as goal

pub returns-then-numbers-v : goal.returns-then-numbers-v
returns-then-numbers-v c = start_past _ _ _ _ c.if-numbers-v.true

pub returns-then-numbers-v-2 : goal.returns-then-numbers-v-2
returns-then-numbers-v-2 c = start_other _ _ _ _ c.if-numbers-v.false c.if-numbers-v-2.true

pub returns : goal.returns
returns c = start_own _ _ _ _ c.if-numbers-v.false c.if-numbers-v-2.false
