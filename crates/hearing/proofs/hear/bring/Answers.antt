-- `hear::bring` meets its contract: both phases are done, one after the other.
use Rattle.hearing.proofs.{HearCall.{both_brought}}
use Rattle.hearing.proofs.hear.bring.Goals as goal

pub returns : goal.returns
returns c = both_brought c.switch_rows.ensures c.switch_rows-2.ensures
