-- `steps::step_numbers` meets its contract: what is left of the list steps the numbers to what the whole list steps them to.
-- The measure is what is left of the list. A signed local is its bits, so that the invariant reads the step by `to_z`.
use Rattle.lists.{specs.Kit.{ap, ◌∙◌, arith, ℤ, take, length-take, get_or-take}, proofs.Loops.{folding_none, folding_turn, folding_end}}
use mir.{Facts.{to_z-of_z}}
use Rattle.tables.specs.Steps.{all_stepped}
use Rattle.tables.proofs.steps.step_numbers.Goals as goal

pub loop-i-init : goal.loop-i-init
loop-i-init c = folding_none _ _ _

pub bounds-changed-i : goal.bounds-changed-i
bounds-changed-i c = omega (arith, c.type_inv.changed c.loop-i.i)

pub loop-i-preserved : goal.loop-i-preserved
loop-i-preserved c =
    rw c.step_at.ensures
    (folding_turn _ (take c.args.k c.args.changed.now) _ _ _ c.loop-i.i c.loop-i.invariant (omega (arith, length-take c.args.k c.args.changed.now))
    (rw (get_or-take c.args.k c.args.changed.now c.loop-i.i 0 (omega arith))))

pub returns : goal.returns
unfolding all_stepped
returns c =
    let list = take c.args.k c.args.changed.now in
    folding_end _ list _ _ _ c.loop-i.invariant (omega (arith, length-take c.args.k c.args.changed.now))
    ∙ ap (λ (z : ℤ). all_stepped list z c.args.numbers.now) (to_z-of_z c.ranges.step)
