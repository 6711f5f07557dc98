-- `writer::put_word` meets its contract: two stores, one after the other.
use Rattle.lists.specs.Kit.{add-one}
use Rattle.mesh.specs.Image.{word}
use Rattle.image_writer.proofs.writer.put_word.Goals as goal

pub returns : goal.returns
unfolding word
returns c = rw add-one
