-- `search::all_tight` meets its contract: of the radios below v, the set has those that a pair may begin at (`Has`).
use Rattle.std.specs.Prelude.{◌≡◌, ◌≤◌}
use Rattle.lists.specs.Kit.{length, get_or}
use Rattle.lift.specs.{Peels.{Has}, Search.{is_tight}}
use Rattle.lift.proofs.search.all_tight.Given as goal

abbrev pub invariant-loop-v : goal.invariant-loop-v
invariant-loop-v l = Has l.v (is_tight (get_or l.t.numbers.now l.r 0) l.r l.t.links.now l.t.numbers.now l.places) l.tight × (l.v ≤ length l.t.numbers.now) × (l.level ≡ get_or l.t.numbers.now l.r 0)
