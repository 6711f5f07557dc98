-- `greatest_of` meets its contract: what is left of the list and the greatest so far give the greatest (`Folding`).
use Rattle.lists.proofs.Loops.{Folding}
use Rattle.queries.proofs.{PartLaws.{greatest_with}}
use Rattle.queries.proofs.backbone.greatest_of.Given as goal

abbrev pub invariant-loop-v : goal.invariant-loop-v
invariant-loop-v l = Folding (greatest_with l.numbers) l.list 0 l.top l.v-index
