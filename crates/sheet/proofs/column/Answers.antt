-- `column` meets its contract: its branches are the cases of `digit_column`.
use Rattle.lists.specs.Kit.{sym, ◌∙◌}
use Rattle.sheet.proofs.{PutLaws.{column_space, column_digit}}
use Rattle.sheet.proofs.column.Goals as goal

pub returns-then-x-p : goal.returns-then-x-p
returns-then-x-p c = sym (column_space _ _ c.if-x-p.true)

pub returns : goal.returns
returns c = c.last_digit.ensures ∙ sym (column_digit _ _ c.if-x-p.false)
