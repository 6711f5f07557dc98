-- `radios_in` meets its contract: the radios before place i are in the set (`RadiosPutting`).
use Rattle.staircase.proofs.LevelRows.{RadiosPutting}
use Rattle.staircase.proofs.radios_in.Given as goal

abbrev pub invariant-loop-v : goal.invariant-loop-v
invariant-loop-v l = RadiosPutting l.list l.v-index l.set
