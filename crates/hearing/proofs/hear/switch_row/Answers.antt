-- `hear::switch_row` meets its contract: what is left of the list gives what the whole list gives (`RowSwitching`).
use Rattle.hearing.proofs.HearLoops.{switching_turn, switching_end}
use Rattle.hearing.proofs.hear.switch_row.Goals as goal

pub step-requires : goal.step-requires
step-requires c = c.loop-b.invariant.prepared

pub loop-b-preserved : goal.loop-b-preserved
loop-b-preserved c = switching_turn c.loop-b.invariant c.loop-b-test.true _ _ _ _ c.step.ensures

pub returns : goal.returns
returns c = switching_end c.loop-b.invariant c.loop-b-test.false
