-- `stretch::stretch_of` meets its contract: what is counted so far and what the numbers from place i on come to is the whole
-- count. The measure is the numbers that are left.
use Rattle.std.specs.Prelude.{◌-◌, ◌≤◌}
use Rattle.lists.{specs.Kit.{ltb, eqb, length}, proofs.Loops.{CountedFrom}}
use Rattle.plan.proofs.stretch.stretch_of.Given as goal

abbrev pub invariant-loop-i : goal.invariant-loop-i
invariant-loop-i l = (l.i ≤ length l.numbers) × CountedFrom (λ x. ltb x l.level) l.numbers l.start l.i × CountedFrom (λ x. eqb x l.level) l.numbers l.size l.i

abbrev pub decreases-loop-i : goal.decreases-loop-i
decreases-loop-i l = length l.numbers - l.i
