-- `search::higher_end` meets its contract: of a's pairs only untried ones can lift r, and the peel goes on with them (`Settling`). The measure is
-- the untried radios.
use Rattle.lists.specs.{Kit.{get_or}, Lists.{count, range}}
use Rattle.mesh.specs.{Limits.{max_radios}}
use Rattle.rows.specs.Sets.{in_set}
use Rattle.lift.specs.Tries.{Trying, Settling}
use Rattle.lift.proofs.search.higher_end.Given as goal

abbrev pub invariant-loop-b : goal.invariant-loop-b
invariant-loop-b l = Trying l.t.links.now l.r l.a l.untried × Settling l.t.links.now (get_or l.t.numbers.now l.r 0) l.a l.r l.untried l.base.counters

abbrev pub decreases-loop-b : goal.decreases-loop-b
decreases-loop-b l = count (in_set l.untried) (range 0 max_radios)
