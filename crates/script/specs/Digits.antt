-- The digit that a byte is, for the code that reads numbers: `digits_on` (Lines.antt) reads them one by one. Definitions only.
use Rattle.std.specs.Prelude.{◌-◌, Option, Some, None}
use Rattle.lists.specs.Kit.{ℕ, cond}
use Rattle.text.specs.Text.{digit_byte}
use Rattle.script.specs.Lines.{is_digit}

unfoldable pub digit_of : (byte : ℕ) → Option ℕ
digit_of b = cond (is_digit b) (Some (b - digit_byte 0)) None
