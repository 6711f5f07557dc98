-- `counts::join_around` meets its contract: a radio put in, and its row.
use Rattle.links.proofs.{CountLaws.{joined_around}}
use Rattle.links.proofs.counts.join_around.Goals as goal

pub returns : goal.returns
returns c = joined_around _ _ _ _ _ c.requires.0 c.requires.1 c.put_in.ensures.joined c.put_in.ensures.long c.join_row.ensures
