-- `stuck::list_stuck` meets its contract: the entries listed so far and the ones from place i of the stretch on are all that
-- pass (`StretchListed`). The measure is the places that are left.
use Rattle.lists.specs.Kit.{ltb, get_or}
use Rattle.plan.proofs.StretchLoops.{StretchListed}
use Rattle.plan.proofs.stuck.list_stuck.Given as goal

abbrev pub invariant-loop-i : goal.invariant-loop-i
invariant-loop-i l = StretchListed (λ v. ltb l.most (get_or l.counters v 0)) l.order l.fn.at.start l.fn.at.size l.taken l.initial.list l.list l.end l.i
