-- `call` meets its contract: what is wrong, and the tables of the link call.
use Rattle.lists.specs.Kit.{refl}
use Rattle.site_program.proofs.{CourseLaws.{called_is}}
use Rattle.site_program.proofs.course.call.Goals as goal

pub returns : goal.returns
returns c = called_is c.args.up _ _ _ _ _ _ c.link.result _ _ refl c.link.ensures c.fault_of.ensures
