-- `read_on` meets its contract: the reads so far went on, and what they brought is taken.
use Rattle.std.specs.Prelude.{◌≡◌}
use Rattle.lists.specs.Kit.{length}
use Rattle.mesh.specs.Tables.{tables}
use Rattle.site_program.specs.Course.{spot}
use Rattle.site_program.proofs.CourseLaws.{OnTo}
use Rattle.site_program.proofs.course.read_on.Given as goal

abbrev pub invariant-loop : goal.invariant-loop
invariant-loop g l =
    (length l.line ≡ length l.initial.line) × (length l.links ≡ length l.initial.links) × (length l.numbers ≡ length l.initial.numbers)
    × (length l.order ≡ length l.initial.order)
    × OnTo (length l.initial.line) l.n (spot (tables l.initial.links l.initial.numbers l.initial.order) l.initial.line l.initial.s)
    (spot (tables l.links l.numbers l.order) l.line l.s)
