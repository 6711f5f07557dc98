-- `ends::number_of` meets its contract: past the end an entry counts as 0.
use Rattle.lists.specs.Kit.{sym, List·getD-eq-default}
use Rattle.plan.proofs.ends.number_of.Goals as goal

pub returns : goal.returns
returns c = sym (List·getD-eq-default c.args.numbers.now 0 c.if-v-numbers.false)
