-- The cells of the site sheet as code prints them (document 02, W-201).
--   column_at i c j    the place of column j of cell c of line i
--   digit_column p x   one column of a number: its digit that counts p
--   CellsFit ns       radios have at most three digits, and their numbers at most two
-- Definitions only.
use Rattle.std.specs.Prelude.{◌+◌, ◌*◌, ◌/◌, ◌%◌, ◌≤◌, ◌<◌}
use Rattle.lists.specs.Kit.{cond, List, ℕ, ltb, length}
use Rattle.mesh.specs.Sound.{number_in}
use Rattle.text.specs.Text.{space, digit_byte}
use Rattle.calls.specs.Sheet.{cell_width, line_bytes}

abbrev pub column_at : (i c j : ℕ) → ℕ
column_at i c j = line_bytes * i + (cell_width * c + j)

-- a space where x has no such digit
unfoldable pub digit_column : (p x : ℕ) → ℕ
digit_column p x = cond (ltb x p) space (digit_byte (x / p % 10))

pub record CellsFit (ns : List ℕ) : Type 0 where
  pub radios : length ns ≤ 1000
  pub two_digits : (v : ℕ) → v < length ns → number_in ns v < 100
