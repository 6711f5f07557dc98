-- `search::count_later` meets its contract: of the first radios so many stand later (`LaterCounting`).
use Rattle.lists.specs.Kit.{refl}
use Rattle.lift.proofs.{OrderLaws.{later_turn, later_end}}
use Rattle.lift.proofs.search.count_later.Goals as goal

pub loop-v-preserved : goal.loop-v-preserved
loop-v-preserved c = later_turn _ _ _ c.loop-v.v-index _ _ c.loop-v-test.true refl c.loop-v.invariant

pub returns : goal.returns
returns c = later_end _ _ _ c.loop-v.v-index _ c.loop-v-test.false c.loop-v.invariant
