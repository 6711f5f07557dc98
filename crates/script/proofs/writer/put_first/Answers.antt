-- `put_first` meets its contract: the word, the number, the line feed.
use Rattle.script.proofs.{PutLaws.{first_put}}
use Rattle.script.proofs.writer.put_first.Goals as goal

pub returns : goal.returns
returns c = first_put _ c.put_text-number.ensures c.put_decimal-feed.ensures c.put_byte.ensures
