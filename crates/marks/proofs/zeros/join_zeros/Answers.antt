-- `zeros::join_zeros` meets its contract: the bytes passed are joined, and joined they are zero exactly if all are.
use Rattle.marks.proofs.{Left.{joining_turn, joining_end}}
use Rattle.marks.proofs.zeros.join_zeros.Goals as goal

pub loop-d-preserved : goal.loop-d-preserved
loop-d-preserved c = joining_turn _ c.loop-d.joined c.loop-d.d-index c.loop-d.invariant c.loop-d-test.true

pub returns : goal.returns
returns c = joining_end _ c.loop-d.joined c.loop-d.d-index c.loop-d.invariant c.loop-d-test.false
