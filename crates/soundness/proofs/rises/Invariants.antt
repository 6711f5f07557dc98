-- `soundness::rises` meets its contract: what is left of the order, from the last number on, rises exactly when all of it does.
-- The measure is what is left of the order.
use Rattle.mesh.specs.Sound.{number_in}
use Rattle.soundness.proofs.CheckLoops.{RisingSoFar}
use Rattle.soundness.proofs.rises.Given as goal

abbrev pub invariant-loop-i : goal.invariant-loop-i
invariant-loop-i l = RisingSoFar (number_in l.numbers) l.order l.last l.i
