-- `search::first_pair` meets its contract: no pair whose lower radio is below a lifts r.
use Rattle.std.specs.Prelude.{◌≤◌}
use Rattle.lists.specs.Kit.{length}
use Rattle.lifting.{specs.Search.{NoneBelow}}
use Rattle.lift.specs.Peels.{graph_of}
use Rattle.lift.proofs.search.first_pair.Given as goal

abbrev pub invariant-loop-a : goal.invariant-loop-a
invariant-loop-a l = NoneBelow (graph_of l.t.links.now) l.r l.a × (l.a ≤ length l.t.numbers.now)
