-- `sets::put_in` meets its contract: `|` with the radio's bit sets it; past the words nothing changes.
use Rattle.lists.specs.Kit.{sym}
use Rattle.rows.proofs.{SetLaws.{put_in_mask, put_in_past}}
use Rattle.rows.proofs.sets.put_in.Goals as goal

pub returns-then-at-set : goal.returns-then-at-set
returns-then-at-set c = put_in_mask _ c.args.v

pub returns-else-at-set : goal.returns-else-at-set
returns-else-at-set c = sym (put_in_past _ _ c.if-at-set.false)
