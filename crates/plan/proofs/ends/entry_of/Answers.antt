-- `ends::entry_of` meets its contract: past the end an entry counts as 0.
use Rattle.lists.specs.Kit.{sym, List·getD-eq-default}
use Rattle.plan.proofs.ends.entry_of.Goals as goal

pub returns : goal.returns
returns c = sym (List·getD-eq-default c.args.list.now 0 c.if-p-list.false)
