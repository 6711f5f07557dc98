-- `stretch::count_part` meets its contract: what is counted so far and what the numbers that are left come to is the whole count.
use Rattle.std.specs.Prelude.{◌≡◌, ◌<◌}
use Rattle.lists.{specs.Kit.{arith, ltb, eqb, length, get_or}, proofs.Loops.{counted_turn, counted_end}}
use Rattle.plan.proofs.{LevelCounts.{counted_byte}}
use Rattle.plan.proofs.stretch.count_part.Goals as goal

pub loop-x-init : goal.loop-x-init
loop-x-init c = (omega arith, (omega arith, omega arith), (omega arith, omega arith))

pub overflow_add-below : goal.overflow_add-below
overflow_add-below c =
    counted_byte c.loop-x.below c.loop-x.x-index (ltb (get_or c.args.part.now c.loop-x.x-index 0) c.args.level)
    c.loop-x.invariant.1.0
    (omega (arith, c.requires, c.loop-x-test.true))

pub overflow_add-equal : goal.overflow_add-equal
overflow_add-equal c =
    counted_byte c.loop-x.equal c.loop-x.x-index (eqb (get_or c.args.part.now c.loop-x.x-index 0) c.args.level)
    c.loop-x.invariant.2.0
    (omega (arith, c.requires, c.loop-x-test.true))

pub loop-x-preserved : goal.loop-x-preserved
loop-x-preserved c =
    let l : c.loop-x.x-index < length c.args.part.now = c.loop-x-test.true in
    (omega arith, counted_turn _ _ c.loop-x.below c.loop-x.x-index l c.loop-x.invariant.1, counted_turn _ _ c.loop-x.equal c.loop-x.x-index l c.loop-x.invariant.2)

pub returns : goal.returns
returns c =
    let all : c.loop-x.x-index ≡ length c.args.part.now = omega (arith, c.loop-x.invariant.0, c.loop-x-test.false) in
    record { started = counted_end _ _ c.loop-x.below _ all c.loop-x.invariant.1; sized = counted_end _ _ c.loop-x.equal _ all c.loop-x.invariant.2 }
