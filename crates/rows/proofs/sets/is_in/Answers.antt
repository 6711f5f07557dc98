-- `sets::is_in` meets its contract: the shifted and masked word is the digit that `in_set` names; past the words both are false.
use Rattle.lists.specs.Kit.{sym}
use Rattle.rows.proofs.{SetLaws.{in_set_shift, in_set_past}}
use Rattle.rows.proofs.sets.is_in.Goals as goal

pub returns-then-at-set : goal.returns-then-at-set
returns-then-at-set c = in_set_shift _ _

pub returns-else-at-set : goal.returns-else-at-set
returns-else-at-set c = sym (in_set_past _ _ c.if-at-set.false)
