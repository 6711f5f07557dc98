-- `search::is_free` meets its contract: its two tests in turn.
use Rattle.lists.specs.Kit.{rules}
use Rattle.lift.proofs.{SearchLaws.{free_low, free_room}}
use Rattle.lift.proofs.search.is_free.Goals as goal

pub returns-then-t-v : goal.returns-then-t-v
returns-then-t-v c = search (rules, free_low)

pub returns : goal.returns
returns c = search (rules, free_room)
