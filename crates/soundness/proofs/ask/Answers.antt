-- `soundness::ask` meets its contract: the two local tables have room for every site.
use Rattle.soundness.proofs.ask.Goals as goal

pub returns : goal.returns
returns c = c.asked.ensures.number
