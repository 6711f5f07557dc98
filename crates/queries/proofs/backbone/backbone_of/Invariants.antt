-- `backbone_of` meets its contract: the parts of the radios below v are taken, and the set has their backbone (`Parting`).
use Rattle.queries.proofs.{PartLaws.{Parting}}
use Rattle.queries.proofs.backbone.backbone_of.Given as goal

abbrev pub invariant-loop-v : goal.invariant-loop-v
invariant-loop-v l = Parting l.links l.numbers l.initial.rest l.initial.queue l.initial.set l.v l.rest l.queue l.set
