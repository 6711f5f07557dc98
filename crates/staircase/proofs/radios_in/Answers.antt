-- `radios_in` meets its contract: the radios before place i are in the set (`RadiosPutting`).
use Rattle.staircase.proofs.LevelRows.{radios_putting_turn}
use Rattle.staircase.proofs.radios_in.Goals as goal

pub loop-v-preserved : goal.loop-v-preserved
loop-v-preserved c =
    radios_putting_turn _ c.loop-v.v-index c.loop-v.set _ c.loop-v-test.true (c.requires c.loop-v.v-index c.loop-v-test.true)
    c.put_in.ensures.joined c.loop-v.invariant
