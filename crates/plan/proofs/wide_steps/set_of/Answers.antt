-- `words::set_of` meets its contract: the radios before place i are in the set (`Setting`).
use Rattle.plan.proofs.{WordLaws.{setting_none, setting_turn}}
use Rattle.plan.proofs.wide_steps.set_of.Goals as goal

pub loop-v-init : goal.loop-v-init
loop-v-init c = rw c.empty-set.ensures (setting_none _)

pub loop-v-preserved : goal.loop-v-preserved
loop-v-preserved c = setting_turn _ c.loop-v.v-index _ _ c.loop-v-test.true c.put_in.ensures.joined c.loop-v.invariant
