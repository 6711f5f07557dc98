-- `read_rest` meets its contract: no read is wanted, or all are.
use Rattle.site_program.proofs.{CourseLaws.{rest_none, rest_on}}
use Rattle.site_program.proofs.course.read_rest.Goals as goal

pub returns-in_default : goal.returns-in_default
returns-in_default g c = rest_none _ _ _ _

pub returns-then-is_some : goal.returns-then-is_some
returns-then-is_some g c = rest_none _ _ _ _

pub returns : goal.returns
returns g c = rest_on _ _ _ _ _ _ c.read_on.ensures
