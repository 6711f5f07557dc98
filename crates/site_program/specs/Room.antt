-- The buffer for a verb's text.
--   text_room   its bytes: the longest script
--   Held q      the number q does not say that the buffer is too short: for an image, a sheet or a script
-- Definitions only.
use Rattle.std.specs.Prelude.{◌≡◌}
use Rattle.lists.specs.Kit.{ℕ}
use Rattle.script.specs.Longest.{longest_script}

abbrev pub text_room : ℕ
text_room = longest_script

pub record Held (q : ℕ) : Type 0 where
  pub image : q ≡ 9 → ⊥
  pub page : q ≡ 12 → ⊥
  pub text : q ≡ 13 → ⊥
