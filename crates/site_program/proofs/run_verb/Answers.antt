-- `run_verb` meets its contract: by the verb, and by the numbers after it.
use Rattle.lists.specs.Kit.{rules}
use Rattle.site_program.proofs.{StatusLaws.{status_wrong, status_page, status_answered}}
use Rattle.site_program.proofs.run_verb.Goals as goal

pub returns-in-Unknown : goal.returns-in-Unknown
returns-in-Unknown g c = search (rules, status_wrong)

pub returns-in-Help : goal.returns-in-Help
returns-in-Help g c = search (rules, status_page)

pub returns-in-Some : goal.returns-in-Some
returns-in-Some g c = status_answered _ _ _ _ _ _ _ _ c.verb_of-verb.ensures c.takes.ensures c.in-Some.ensures c.run_input.ensures

pub returns-in-None : goal.returns-in-None
returns-in-None g c = status_wrong _ _ _ _ _ c.say_words.ensures
