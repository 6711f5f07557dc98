-- `keeping::copy` meets its contract: the reads before the last went on, and the last is at the end.
use Rattle.player.proofs.StatusLaws.{copying_none, copying_more, copied}
use Rattle.player.proofs.keeping.copy.Goals as goal

pub loop-init : goal.loop-init
loop-init g c = copying_none

pub returns-in-End : goal.returns-in-End
returns-in-End g c = λ e h. copied c.in-End.ensures c.loop.invariant

pub loop-preserved : goal.loop-preserved
loop-preserved g c = copying_more c.in-GoesOn.ensures c.loop.invariant
