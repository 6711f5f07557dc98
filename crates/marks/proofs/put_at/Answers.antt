-- `put_at` meets its contract: the mark is put through its own part of the store.
use Rattle.marks.proofs.{Placed.{placed_at}}
use Rattle.marks.proofs.put_at.Goals as goal

pub returns : goal.returns
returns c = placed_at c.args.kept.now c.args.i _ _ (c.put_mark.ensures)
