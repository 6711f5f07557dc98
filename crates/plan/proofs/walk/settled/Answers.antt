-- `walk::settled` meets its contract: where nothing is held, what counts for the first of the part are its later neighbours.
use Rattle.lists.specs.Kit.{refl}
use Rattle.mesh.specs.Limits.{max_radios, max_neighbours}
use Rattle.plan.proofs.{WalkTurns.{near_ready}, WalkMade.{listed_known}, WalkSteps.{first_below, settled_is}}
use Rattle.plan.proofs.walk.settled.Goals as goal

pub neighbours_after-k-requires : goal.neighbours_after-k-requires
neighbours_after-k-requires c = near_ready c.requires.1 _ (first_below c.requires.1) max_neighbours refl

pub count_left-requires : goal.count_left-requires
count_left-requires c =
    listed_known c.requires.1 _ _ _ max_radios (first_below c.requires.1) c.requires.1.small c.neighbours_after-k.ensures
    c.neighbours_after-k.auto.near

pub returns : goal.returns
returns c =
    settled_is c.requires.1 _ _ _
    c.neighbours_after-k.ensures c.count_left.ensures
