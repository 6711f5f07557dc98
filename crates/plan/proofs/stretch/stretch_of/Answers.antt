-- `stretch::stretch_of` meets its contract: what is counted so far and what the numbers from place i on come to is the whole
-- count. The measure is the numbers that are left.
use Rattle.std.specs.Prelude.{◌≡◌, ◌+◌, ◌-◌}
use Rattle.lists.{specs.Kit.{arith, length, drop, length-take}, proofs.Loops.{counted_end}}
use Rattle.plan.proofs.{LevelCounts.{counted_part}}
use Rattle.plan.proofs.stretch.stretch_of.Goals as goal

pub loop-i-init : goal.loop-i-init
loop-i-init c = (omega arith, (omega arith, omega arith), (omega arith, omega arith))

pub slice_bounds-count_part-end : goal.slice_bounds-count_part-end
slice_bounds-count_part-end c = omega (arith, c.least.ensures, c.loop-i.invariant.0)

pub count_part-found-requires : goal.count_part-found-requires
count_part-found-requires c =
    omega (arith, length-take (c.loop-i.i + c.least.result - c.loop-i.i) (drop c.loop-i.i c.args.numbers.now), c.least.ensures)

pub loop-i-smaller : goal.loop-i-smaller
loop-i-smaller c = omega (arith, c.least.ensures, c.loop-i-test.true)

pub loop-i-preserved : goal.loop-i-preserved
loop-i-preserved c =
    let e : c.loop-i.i + c.least.result - c.loop-i.i ≡ c.least.result = omega arith in (
      omega (arith, c.least.ensures, c.loop-i.invariant.0),
      counted_part _ _ c.loop-i.start c.loop-i.i c.least.result _ c.loop-i.invariant.1 (rw e at c.count_part-found.ensures.started),
      counted_part _ _ c.loop-i.size c.loop-i.i c.least.result _ c.loop-i.invariant.2 (rw e at c.count_part-found.ensures.sized),
    )

pub returns : goal.returns
returns c =
    let all : c.loop-i.i ≡ length c.args.numbers.now = omega (arith, c.loop-i.invariant.0, c.loop-i-test.false) in
    (counted_end _ _ c.loop-i.start _ all c.loop-i.invariant.1, counted_end _ _ c.loop-i.size _ all c.loop-i.invariant.2)
