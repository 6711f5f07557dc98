-- `step::put_places` meets its contract: what is left of the places brings the table to what all of them bring it to.
use Rattle.lists.{specs.Kit.{get_or, set}, specs.Lists.{range}, proofs.Loops.{Folding}}
use Rattle.links.proofs.step.put_places.Given as goal

abbrev pub invariant-loop-i : goal.invariant-loop-i
invariant-loop-i l = Folding (λ p now. set now (get_or l.order p 0) p) (range l.start l.size) l.initial.places l.places l.i
