-- `reading::kept_fault` meets its contract: by whether the buffer was kept.
use Rattle.player.specs.Reading.{kept_fault}
use Rattle.player.proofs.reading.kept_fault.Goals as goal

pub returns-then-kept : goal.returns-then-kept
unfolding kept_fault
returns-then-kept c = rw c.if-kept.true

pub returns-else-kept : goal.returns-else-kept
unfolding kept_fault
returns-else-kept c = rw c.if-kept.false c.or.ensures
