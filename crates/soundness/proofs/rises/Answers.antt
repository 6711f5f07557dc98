-- `soundness::rises` meets its contract: what is left of the order, from the last number on, rises exactly when all of it does.
-- The measure is what is left of the order.
use Rattle.lists.specs.Kit.{sym, arith}
use Rattle.soundness.proofs.CheckLoops.{rising_none, rising_turn, rising_falls, rising_end}
use Rattle.soundness.proofs.rises.Goals as goal

pub loop-i-init : goal.loop-i-init
loop-i-init c = rising_none

pub bounds-order-i : goal.bounds-order-i
bounds-order-i c = omega (arith, c.type_inv.order c.loop-i.i)

pub bounds-numbers-v : goal.bounds-numbers-v
bounds-numbers-v c = c.requires c.loop-i.i (omega arith)

pub returns-then-x-last : goal.returns-then-x-last
returns-then-x-last c = sym (rising_falls c.loop-i.last c.loop-i.i (omega arith) (omega arith) c.loop-i.invariant)

pub loop-i-preserved : goal.loop-i-preserved
loop-i-preserved c = rising_turn c.loop-i.last c.loop-i.i (omega arith) (omega arith) c.loop-i.invariant

pub returns : goal.returns
returns c = sym (rising_end c.loop-i.last c.loop-i.i (omega arith) c.loop-i.invariant)
