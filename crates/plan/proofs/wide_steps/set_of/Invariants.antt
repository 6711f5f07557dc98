-- `words::set_of` meets its contract: the radios before place i are in the set (`Setting`).
use Rattle.plan.proofs.{WordLaws.{Setting}}
use Rattle.plan.proofs.wide_steps.set_of.Given as goal

abbrev pub invariant-loop-v : goal.invariant-loop-v
invariant-loop-v l = Setting l.list l.v-index l.set
