-- `closed` meets its contract: by what is wrong, and what the run holds.
use Rattle.lists.specs.Kit.{sym, ◌∙◌}
use Rattle.site_program.proofs.{CourseLaws.{closed_fault, closed_whole, closed_open}}
use Rattle.site_program.proofs.course.closed.Goals as goal

pub returns-then-is_some : goal.returns-then-is_some
returns-then-is_some c = closed_fault c.args.s (sym c.is_some.ensures ∙ c.if-is_some.true)

pub returns-then-s-eq0 : goal.returns-then-s-eq0
returns-then-s-eq0 c = closed_whole c.args.s (sym c.is_some.ensures ∙ c.if-is_some.false) c.if-s-eq0.true

pub returns : goal.returns
returns c = closed_open c.args.s (sym c.is_some.ensures ∙ c.if-is_some.false) c.if-s-eq0.false
