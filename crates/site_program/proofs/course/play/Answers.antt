-- `play` meets its contract: the site is cleared, the front is taken, the rest is read, and the end is told.
use Rattle.lists.specs.Kit.{refl, arith, replicate}
use Rattle.mesh.specs.Tables.{tables}
use Rattle.site_program.proofs.CourseLaws.{plays, front_rest}
use Rattle.site_program.proofs.course.play.Goals as goal

pub returns : goal.returns
returns g c =
    plays c.args.n c.first_end-from.result _ _ c.args.state _ c.args.front.now _ (replicate 17 0) _
    (tables c.args.links.now c.args.numbers.now c.args.order.now) _ _ _ c.take_chunk-course.result c.read_rest-last.result _
    c.first_end-from.ensures.end refl (omega (arith, c.take_chunk-course.auto)) c.clear.ensures c.fault_of.ensures
    (front_rest c.first_end-from.result c.args.front.now) c.take_chunk-course.ensures c.read_rest-last.ensures c.ended.ensures
