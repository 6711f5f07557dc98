-- `run_on` meets its contract: a site that is not read has no answer.
use Rattle.lists.specs.Kit.{rules}
use Rattle.site_program.proofs.{StatusLaws.{answers_unread, answers_right}}
use Rattle.site_program.proofs.run_on.Goals as goal

pub returns-then-status-ne0 : goal.returns-then-status-ne0
returns-then-status-ne0 g c = search (rules, answers_unread)

pub returns : goal.returns
returns g c = search (rules, answers_right)
