-- `places::lowest` meets its contract: the first of the set's places, where there is one.
use Rattle.lists.specs.Kit.{sym}
use Rattle.lists.specs.Lists.{head_or}
use Rattle.rows.proofs.FirstLaws.{first_none, first_some}
use Rattle.plan.proofs.places.lowest.Goals as goal

pub returns-in-Some : goal.returns-in-Some
returns-in-Some c = sym (first_some _ _ c.in-Some.ensures).1

pub returns-in-None : goal.returns-in-None
unfolding head_or
returns-in-None c = rw (first_none _ c.in-None.ensures)
