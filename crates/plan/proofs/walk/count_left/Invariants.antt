-- `walk::count_left` meets its contract: what is counted so far and what the listed radios from there on come to is the whole count.
use Rattle.std.specs.Prelude.{◌≤◌}
use Rattle.lists.{specs.Kit.{length}, proofs.Loops.{CountedFrom}}
use Rattle.plan.specs.Walks.{is_left}
use Rattle.plan.proofs.walk.count_left.Given as goal

abbrev pub invariant-loop-w : goal.invariant-loop-w
invariant-loop-w l =
    (l.w-index ≤ length l.near) × CountedFrom (is_left l.spot.level l.spot.place l.spot.numbers.now l.spot.places.now l.held) l.near l.n l.w-index
