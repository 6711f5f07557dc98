-- `rows::is_marked` meets its contract: the shifted and masked byte is the digit that `marked` names; past the table both are false.
use Rattle.lists.specs.Kit.{sym}
use Rattle.rows.proofs.{MaskLaws.{marked_shift, marked_past}}
use Rattle.rows.proofs.is_marked.Goals as goal

pub returns-then-at-links : goal.returns-then-at-links
returns-then-at-links c = marked_shift _ _ _

pub returns-else-at-links : goal.returns-else-at-links
returns-else-at-links c = sym (marked_past _ _ _ c.if-at-links.false)
