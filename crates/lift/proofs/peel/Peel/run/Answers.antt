-- `Peel::run` meets its contract: before each turn it is not over (`PeelingOn`). The measure is the radios left.
use Rattle.lists.specs.{Kit.{sym, ◌∙◌}}
use Rattle.lift.proofs.PeelSteps.{peel_starts, peel_on, peel_done}
use Rattle.lift.proofs.peel.Peel.run.Goals as goal

pub loop-v-init : goal.loop-v-init
loop-v-init c = rw c.full-self.ensures (peel_starts _ _ _ _ _ _ _ _ c.all_due-self.ensures c.requires.1)

pub loop-v-preserved : goal.loop-v-preserved
loop-v-preserved c = peel_on _ _ _ _ _ _ _ _ _ c.take.ensures.state (sym c.is_over.ensures ∙ c.if-is_over.false)

pub returns : goal.returns
returns c = peel_done _ _ _ _ _ _ _ _ _ c.in_default.ensures c.loop-v.invariant
