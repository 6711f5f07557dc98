-- `bytes::word_at` meets its contract.
use Rattle.lists.specs.Kit.{arith}
use Rattle.mesh.specs.Image.{word_at}
use Rattle.image.proofs.bytes.word_at.Goals as goal

pub returns : goal.returns
unfolding word_at
returns c = (omega arith, omega arith)
