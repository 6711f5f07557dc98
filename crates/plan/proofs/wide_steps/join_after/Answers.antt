-- `words::join_after` meets its contract: the row as it stands, and at an end of the link the other end's bit.
use Rattle.plan.proofs.{WordLaws.{joined_row, joined_end}}
use Rattle.plan.proofs.wide_steps.join_after.Goals as goal

pub returns-then-w-v : goal.returns-then-w-v
returns-then-w-v c =
    joined_end c.requires.1 _ _ c.join_row.ensures _ c.other_end-w.ensures c.if-w-v.true _ c.put_in.ensures.joined

pub returns-else-w-v : goal.returns-else-w-v
returns-else-w-v c = joined_row c.requires.1 _ _ c.join_row.ensures _ c.other_end-w.ensures c.if-w-v.false
