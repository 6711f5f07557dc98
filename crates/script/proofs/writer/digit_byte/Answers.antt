-- `digit_byte` meets its contract by the definition.
use Rattle.lists.specs.Kit.{refl}
use Rattle.text.specs.Text.{digit_byte}
use Rattle.script.proofs.writer.digit_byte.Goals as goal

pub returns : goal.returns
unfolding digit_byte
returns c = refl
