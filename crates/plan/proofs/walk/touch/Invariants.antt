-- `walk::touch` meets its contract: the listed radios that are left give what all of them give.
use Rattle.lists.proofs.Loops.{Folding}
use Rattle.plan.specs.Walks.{place_touched}
use Rattle.plan.proofs.walk.touch.Given as goal

abbrev pub invariant-loop-w : goal.invariant-loop-w
invariant-loop-w l = Folding (place_touched l.spot.level l.spot.place l.spot.numbers.now l.spot.places.now) l.near l.initial.due l.due l.w-index
