-- `tries::start` meets its contract: the counters of the radios below v stand.
use Rattle.std.specs.Prelude.{ℕ, ◌≡◌, ◌<◌}
use Rattle.lists.specs.Kit.{get_or, length}
use Rattle.mesh.specs.Limits.{max_radios}
use Rattle.lift.specs.Tries.{counter_start}
use Rattle.lift.proofs.tries.start.Given as goal

abbrev pub invariant-loop-v : goal.invariant-loop-v
invariant-loop-v l = (length l.counters ≡ max_radios) × ((w : ℕ) → w < l.v → get_or l.counters w 255 ≡ counter_start l.level l.numbers l.not_lower w)
