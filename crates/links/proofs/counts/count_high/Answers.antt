-- `counts::count_high` meets its contract: what is counted so far and what the listed radios from place i on come to is the whole
-- count.
use Rattle.lists.{specs.Kit.{arith}, proofs.Loops.{counted_turn, counted_end}}
use Rattle.links.proofs.counts.count_high.Goals as goal

pub loop-b-preserved : goal.loop-b-preserved
loop-b-preserved c = counted_turn _ _ c.loop-b.high c.loop-b.b-index c.loop-b-test.true c.loop-b.invariant

pub returns : goal.returns
returns c = counted_end _ _ c.loop-b.high c.loop-b.b-index (omega arith) c.loop-b.invariant
