-- `walk::touch` meets its contract: the listed radios that are left give what all of them give.
use Rattle.lists.{proofs.Loops.{folding_turn, folding_end}}
use Rattle.plan.specs.Walks.{places_touched}
use Rattle.plan.proofs.{WalkLoops.{near_known}}
use Rattle.plan.proofs.walk.touch.Goals as goal

pub touch_one-requires : goal.touch_one-requires
touch_one-requires c = let known = near_known _ _ _ _ c.loop-w.w-index c.loop-w-test.true c.requires in (known.0, known.1)

pub loop-w-preserved : goal.loop-w-preserved
loop-w-preserved c = folding_turn _ _ _ c.loop-w.due _ c.loop-w.w-index c.loop-w.invariant c.loop-w-test.true c.touch_one.ensures

pub returns : goal.returns
unfolding places_touched
returns c = folding_end _ _ _ _ c.loop-w.w-index c.loop-w.invariant c.loop-w-test.false
