-- `tries::is_ruled_out` meets its contract: each return is a case of `ruled_out`.
use Rattle.lists.specs.Kit.{rules}
use Rattle.lift.proofs.{TryLaws.{ruled_above, ruled_left, ruled_taken}}
use Rattle.lift.proofs.tries.is_ruled_out.Goals as goal

pub returns-then-level-numbers : goal.returns-then-level-numbers
returns-then-level-numbers c = search (rules, ruled_above)

pub returns-then-x-lt-GONE : goal.returns-then-x-lt-GONE
returns-then-x-lt-GONE c = search (rules, ruled_left)

pub returns : goal.returns
returns c = search (rules, ruled_taken)
