-- `last_digit` meets its contract by the definition.
use Rattle.lists.specs.Kit.{refl}
use Rattle.text.specs.Text.{digit_byte}
use Rattle.sheet.proofs.last_digit.Goals as goal

pub returns : goal.returns
unfolding digit_byte
returns c = refl
