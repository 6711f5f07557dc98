-- `counts::join_all` meets its contract: what is left of the list brings the set to what the whole list brings it to (`Joining`).
use Rattle.links.proofs.{CountLaws.{Joining}}
use Rattle.links.proofs.counts.join_all.Given as goal

abbrev pub invariant-loop-v : goal.invariant-loop-v
invariant-loop-v l = Joining l.links l.list l.initial.set l.v-index l.set
