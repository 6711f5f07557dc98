-- `put_neighbours` meets its contract: the neighbours of the radios before place i are in the set (`NeighboursPutting`).
use Rattle.staircase.proofs.LevelRows.{neighbours_putting_none, neighbours_putting_turn, neighbours_putting_end}
use Rattle.staircase.proofs.put_neighbours.Goals as goal

pub loop-v-init : goal.loop-v-init
loop-v-init c = neighbours_putting_none _ _ _

pub loop-v-preserved : goal.loop-v-preserved
loop-v-preserved c =
    neighbours_putting_turn c.args.links.now c.args.list.now c.args.set.now c.loop-v.v-index c.loop-v.set _
    c.loop-v-test.true c.join_row.ensures c.loop-v.invariant

pub returns : goal.returns
returns c = neighbours_putting_end _ _ _ c.loop-v.v-index _ c.loop-v-test.false c.loop-v.invariant
