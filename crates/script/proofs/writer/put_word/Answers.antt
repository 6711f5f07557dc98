-- `put_word` meets its contract: the part of the buffer that is lent is as long as the word that is copied over it.
use Rattle.lists.specs.Kit.{arith}
use Rattle.script.proofs.{PutLaws.{word_put}}
use Rattle.script.proofs.writer.put_word.Goals as goal

pub returns : goal.returns
returns c = word_put c.args.buffer.now c.args.word.now _ c.args.at c.requires (omega arith) c.copy.ensures
