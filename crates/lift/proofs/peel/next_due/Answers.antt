-- `peel::next_due` meets its contract: a radio due that is not late, or else the lowest (`next_first`).
use Rattle.lift.proofs.{PeelSteps.{next_first}}
use Rattle.lift.proofs.peel.next_due.Goals as goal

pub returns : goal.returns
returns c = next_first _ _ c.first_common.ensures
