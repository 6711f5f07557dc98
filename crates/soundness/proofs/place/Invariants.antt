-- `soundness::place` meets its contract: the entries passed have their places and no other radio has one, so a radio that has a
-- place stood there before. The measure is what is left of the order.
use Rattle.lists.specs.Kit.{length}
use Rattle.soundness.proofs.CheckLoops.{PlacingSoFar}
use Rattle.soundness.proofs.place.Given as goal

abbrev pub invariant-loop-i : goal.invariant-loop-i
invariant-loop-i l = PlacingSoFar l.order (length l.initial.places) l.places l.i
