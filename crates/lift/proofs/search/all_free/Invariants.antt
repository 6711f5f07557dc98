-- `search::all_free` meets its contract: of the radios below v, the set has those that may be ends (`Has`).
use Rattle.std.specs.Prelude.{◌≤◌}
use Rattle.lists.specs.Kit.{length}
use Rattle.lift.specs.{Peels.{Has}, Search.{is_free}}
use Rattle.lift.proofs.search.all_free.Given as goal

abbrev pub invariant-loop-v : goal.invariant-loop-v
invariant-loop-v l = Has l.v (is_free l.level l.t.links.now l.t.numbers.now) l.free × (l.v ≤ length l.t.numbers.now)
