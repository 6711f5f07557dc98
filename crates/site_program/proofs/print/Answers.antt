-- `print` meets its contract: a refused call goes wrong, and a text is printed.
use Rattle.lists.specs.Kit.{refl}
use Rattle.site_program.proofs.{StatusLaws.{prints_wrong, prints_right}}
use Rattle.site_program.proofs.print.Goals as goal

pub returns-in-Ok : goal.returns-in-Ok
returns-in-Ok g c = prints_right _ _ _ _ _ _ _ _ c.in-Ok.ensures.said refl c.print.ensures

pub returns-in-Err : goal.returns-in-Err
returns-in-Err g c = prints_wrong _ _ _ _ _ c.say_call.ensures
