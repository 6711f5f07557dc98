-- `take_chunk` meets its contract: what is left of the chunk takes the run where the whole takes it.
use Rattle.lists.specs.Kit.{refl, ◌∙◌, arith}
use Rattle.site_program.proofs.{CourseLaws.{taken_next, taken_end, taken_room}}
use Rattle.site_program.proofs.course.take_chunk.Goals as goal

pub loop-byte-init : goal.loop-byte-init
loop-byte-init c = (refl, refl, refl, refl, refl)

pub loop-byte-preserved : goal.loop-byte-preserved
loop-byte-preserved c = (
  omega (arith, c.loop-byte.invariant.0),
  omega (arith, c.loop-byte.invariant.1),
  omega (arith, c.loop-byte.invariant.2),
  omega (arith, c.loop-byte.invariant.3),
  taken_next _ _ _ _ _ _ _ _ c.loop-byte-test.true refl c.loop-byte.invariant.4 (c.take_byte-s.ensures ∙ taken_room _ _ _ _ _ c.loop-byte.invariant.0),
)

pub returns : goal.returns
returns c = taken_end _ _ _ _ _ _ c.loop-byte-test.false c.loop-byte.invariant.4
