-- `turn::release` meets its contract: the listed radios that are left give what all of them give (`ListReleasing`).
use Rattle.lists.specs.Kit.{refl}
use Rattle.plan.proofs.TurnLoops.{list_next, list_turn, list_end}
use Rattle.plan.proofs.turn.release.Goals as goal

pub release_one-requires : goal.release_one-requires
release_one-requires c = list_next _ _ _ _ _ _ _ c.loop-v.v-index _ _ _ c.loop-v-test.true refl c.loop-v.invariant

pub loop-v-preserved : goal.loop-v-preserved
loop-v-preserved c =
    list_turn _ _ _ _ _ _ _ c.loop-v.v-index _ _ _ c.loop-v-test.true refl c.loop-v.invariant _ _ c.release_one.ensures.counted
    c.release_one.ensures.marked

pub returns : goal.returns
returns c =
    let both = list_end _ _ _ _ _ _ _ c.loop-v.v-index _ _ c.loop-v-test.false c.loop-v.invariant in record { counted = both.0; marked = both.1 }
