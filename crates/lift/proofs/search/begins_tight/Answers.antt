-- `search::begins_tight` meets its contract: the test picks the end that stands first.
use Rattle.lists.specs.Kit.{rules}
use Rattle.lift.proofs.{OrderLaws.{first_second, first_own}}
use Rattle.lift.proofs.search.begins_tight.Goals as goal

pub returns-then-places-c : goal.returns-then-places-c
returns-then-places-c c = search (rules, first_second)

pub returns : goal.returns
returns c = search (rules, first_own)
