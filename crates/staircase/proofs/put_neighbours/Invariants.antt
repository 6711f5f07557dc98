-- `put_neighbours` meets its contract: the neighbours of the radios before place i are in the set (`NeighboursPutting`).
use Rattle.staircase.proofs.LevelRows.{NeighboursPutting}
use Rattle.staircase.proofs.put_neighbours.Given as goal

abbrev pub invariant-loop-v : goal.invariant-loop-v
invariant-loop-v l = NeighboursPutting l.links l.list l.initial.set l.v-index l.set
