-- `walk::count_left` meets its contract: what is counted so far and what the listed radios from there on come to is the whole count.
use Rattle.lists.{specs.Kit.{arith}, proofs.Loops.{counted_turn, counted_end}}
use Rattle.plan.proofs.{WalkLoops.{near_known}}
use Rattle.plan.proofs.walk.count_left.Goals as goal

pub is_left-requires : goal.is_left-requires
is_left-requires c = near_known _ _ _ _ c.loop-w.w-index c.loop-w-test.true c.requires.1

pub loop-w-preserved : goal.loop-w-preserved
loop-w-preserved c =
    (omega arith, rw c.is_left.ensures (counted_turn _ _ c.loop-w.n c.loop-w.w-index c.loop-w-test.true c.loop-w.invariant.1))

pub returns : goal.returns
returns c = counted_end _ _ c.loop-w.n c.loop-w.w-index (omega (arith, c.loop-w.invariant.0, c.loop-w-test.false)) c.loop-w.invariant.1
