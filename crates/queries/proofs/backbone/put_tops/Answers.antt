-- `put_tops` meets its contract: what is left of the list gives what all of it gives (`Folding`).
use Rattle.lists.{proofs.Loops.{folding_turn, folding_end}}
use Rattle.queries.specs.Parts.{tops_put}
use Rattle.queries.proofs.backbone.put_tops.Goals as goal

pub loop-v-preserved : goal.loop-v-preserved
loop-v-preserved c =
    folding_turn _ c.args.list.now c.args.set.now c.loop-v.set _ c.loop-v.v-index c.loop-v.invariant c.loop-v-test.true
    c.put_top.ensures

pub returns : goal.returns
unfolding tops_put
returns c = folding_end _ c.args.list.now c.args.set.now _ c.loop-v.v-index c.loop-v.invariant c.loop-v-test.false
