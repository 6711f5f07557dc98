-- `counts::join_all` meets its contract: what is left of the list brings the set to what the whole list brings it to (`Joining`).
use Rattle.lists.specs.Kit.{refl}
use Rattle.links.proofs.{CountLaws.{joining_turn, joining_end}}
use Rattle.links.proofs.counts.join_all.Goals as goal

pub loop-v-preserved : goal.loop-v-preserved
loop-v-preserved c =
    joining_turn _ _ _ c.loop-v.v-index _ _ _ c.loop-v-test.true refl c.join_around.ensures c.loop-v.invariant

pub returns : goal.returns
returns c = joining_end _ _ _ _ _ c.loop-v-test.false c.loop-v.invariant
