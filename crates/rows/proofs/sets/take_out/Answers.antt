-- `sets::take_out` meets its contract: `&` with the complement of the radio's bit clears it; past the words nothing changes.
use Rattle.lists.specs.Kit.{sym, arith}
use Rattle.rows.proofs.{SetLaws.{take_out_mask, take_out_past}}
use Rattle.rows.proofs.sets.take_out.Goals as goal

pub returns-then-at-set : goal.returns-then-at-set
returns-then-at-set c = take_out_mask _ c.args.v (omega arith)

pub returns-else-at-set : goal.returns-else-at-set
returns-else-at-set c = sym (take_out_past _ _ c.if-at-set.false)
