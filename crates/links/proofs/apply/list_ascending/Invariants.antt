-- `apply::list_ascending` meets its contract: what is left of the list brings the set to what the whole list brings it to.
use Rattle.lists.{specs.Kit.{replicate}, proofs.Loops.{Folding}}
use Rattle.rows.specs.Sets.{put_in}
use Rattle.links.proofs.apply.list_ascending.Given as goal

abbrev pub invariant-loop-v : goal.invariant-loop-v
invariant-loop-v l = Folding put_in l.list (replicate 8 0) l.set l.v-index
