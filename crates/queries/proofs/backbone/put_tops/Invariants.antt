-- `put_tops` meets its contract: what is left of the list gives what all of it gives (`Folding`).
use Rattle.lists.proofs.Loops.{Folding}
use Rattle.queries.specs.Parts.{top_put}
use Rattle.queries.proofs.backbone.put_tops.Given as goal

abbrev pub invariant-loop-v : goal.invariant-loop-v
invariant-loop-v l = Folding (top_put l.numbers l.top) l.list l.initial.set l.set l.v-index
