-- `steps::step_numbers` meets its contract: what is left of the list steps the numbers to what the whole list steps them to.
-- The measure is what is left of the list. A signed local is its bits, so that the invariant reads the step by `to_z`.
use Rattle.lists.{specs.Kit.{take}, proofs.Loops.{Folding}}
use Rattle.tables.specs.Steps.{step_at}
use Rattle.tables.proofs.steps.step_numbers.Given as goal

abbrev pub invariant-loop-i : goal.invariant-loop-i
invariant-loop-i l = Folding (λ v now. step_at v l.step now) (take l.k l.changed) l.initial.numbers l.numbers l.i
