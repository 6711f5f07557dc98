-- `stretch::count_part` meets its contract: what is counted so far and what the numbers that are left come to is the whole count.
use Rattle.std.specs.Prelude.{◌≤◌}
use Rattle.lists.{specs.Kit.{ltb, eqb, length}, proofs.Loops.{CountedFrom}}
use Rattle.plan.proofs.stretch.count_part.Given as goal

abbrev pub invariant-loop-x : goal.invariant-loop-x
invariant-loop-x l = (l.x-index ≤ length l.part) × CountedFrom (λ x. ltb x l.level) l.part l.below l.x-index
    × CountedFrom (λ x. eqb x l.level) l.part l.equal l.x-index
