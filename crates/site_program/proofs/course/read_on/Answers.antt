-- `read_on` meets its contract: the reads so far went on, and what they brought is taken.
use Rattle.lists.specs.Kit.{refl, arith}
use Rattle.site_program.proofs.CourseLaws.{on_none, on_read, on_more, on_out, once_room}
use Rattle.site_program.proofs.course.read_on.Goals as goal

pub loop-init : goal.loop-init
loop-init g c = (refl, refl, refl, refl, on_none _ _ _)

pub returns-in_default : goal.returns-in_default
returns-in_default g c = on_read _ _ _ _ _ _ c.loop.invariant.4 (once_room c.loop.invariant.0 c.turn-done.ensures)

pub returns-then-is_some : goal.returns-then-is_some
returns-then-is_some g c = on_read _ _ _ _ _ _ c.loop.invariant.4 (once_room c.loop.invariant.0 c.turn-done.ensures)

pub loop-preserved : goal.loop-preserved
loop-preserved g c = (
  omega (arith, c.turn-done.auto.line, c.loop.invariant.0),
  omega (arith, c.turn-done.auto.links, c.loop.invariant.1),
  omega (arith, c.turn-done.auto.numbers, c.loop.invariant.2),
  omega (arith, c.turn-done.auto.order, c.loop.invariant.3),
  on_more _ _ _ _ _ _ c.loop.invariant.4 (once_room c.loop.invariant.0 c.turn-done.ensures) c.in-GoesOn.is,
)

pub returns : goal.returns
returns g c = on_out _ _ _ _ _ c.loop.invariant.4
