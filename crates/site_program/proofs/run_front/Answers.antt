-- `run_front` meets its contract: what goes wrong before the site is read has status 1.
use Rattle.lists.specs.Kit.{rules}
use Rattle.site_program.proofs.{StatusLaws.{answers_wrong}}
use Rattle.site_program.proofs.run_front.Goals as goal

pub returns-then-front-eq0 : goal.returns-then-front-eq0
returns-then-front-eq0 g c = search (rules, answers_wrong)

pub returns-in-None : goal.returns-in-None
returns-in-None g c = answers_wrong _ _ _ _ _ c.say_line.ensures
