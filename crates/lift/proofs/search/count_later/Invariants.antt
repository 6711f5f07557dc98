-- `search::count_later` meets its contract: of the first radios so many stand later (`LaterCounting`).
use Rattle.lift.proofs.{OrderLaws.{LaterCounting}}
use Rattle.lift.proofs.search.count_later.Given as goal

abbrev pub invariant-loop-v : goal.invariant-loop-v
invariant-loop-v l = LaterCounting l.place l.places l.near l.v-index l.count
