-- `soundness::places_of` meets its contract: the order is placed where there is room for it.
use Rattle.lists.specs.Kit.{arith}
use Rattle.soundness.proofs.{CheckLoops.{places_none, places_some}}
use Rattle.soundness.proofs.places_of.Goals as goal

pub returns-then-order : goal.returns-then-order
returns-then-order c = places_none _ _ (omega arith)

pub returns-then-places-order : goal.returns-then-places-order
returns-then-places-order c = places_none _ _ (omega arith)

pub returns : goal.returns
returns c = places_some _ _ _ _ (omega arith) c.place.ensures
