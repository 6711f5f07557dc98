-- Worked cells and sheets of document 02, W-201. That every row is right is `cells_right` and `sheets_right` in proofs/SheetCases.antt.
--   CellCase, SheetCase    a cell with its text; a sheet with its lines
--   cell_good, sheet_good    is the row right
--   cell_cases, sheet_cases  the tables
-- Definitions only.
use Rattle.std.specs.Prelude.{◌&&◌, ◌∷◌}
use Rattle.lists.specs.{Kit.{Bool, true, List, [], flat_map, ℕ}, Lists.{same}}
use Prim.Native.String.{String}
use Rattle.text.specs.Text.{bytes_of}
use Rattle.calls.specs.Sheet.{cell, sheet}

pub record CellCase : Type 0 where
  pub radio : ℕ
  pub number : ℕ
  pub text : String

abbrev pub prints : (radio number : ℕ) → String → CellCase
prints v x s = record { radio = v; number = x; text = s }

unfoldable pub cell_good : CellCase → Bool
cell_good c = same (cell c.radio c.number) (bytes_of c.text)

unfoldable pub cells_good : List CellCase → Bool
cells_good [] = true
cells_good (c ∷ cs) = cell_good c && cells_good cs

-- radio 7 with number 2 prints as two spaces, 7:, a space, 2, two spaces
unfoldable pub cell_cases : List CellCase
cell_cases =
    prints 7 2 "  7: 2  "
    ∷ prints 511 40 "511:40  "
    ∷ prints 0 0 "  0: 0  "
    ∷ prints 9 9 "  9: 9  "
    ∷ prints 10 10 " 10:10  "
    ∷ prints 99 5 " 99: 5  "
    ∷ prints 100 20 "100:20  "
    ∷ []

-- the numbers by radio, and the lines
pub record SheetCase : Type 0 where
  pub numbers : List ℕ
  pub lines : List String

unfoldable pub sheet_good : SheetCase → Bool
sheet_good c = same (sheet c.numbers) (flat_map bytes_of c.lines)

unfoldable pub sheets_good : List SheetCase → Bool
sheets_good [] = true
sheets_good (c ∷ cs) = sheet_good c && sheets_good cs

-- one radio; eight, which fill a line; nine, of which the last has a line to itself
unfoldable pub sheet_cases : List SheetCase
sheet_cases =
    record { numbers = 0 ∷ []; lines = "  0: 0                                                          \n" ∷ [] }
    ∷ record {
      numbers = 2 ∷ 2 ∷ 2 ∷ 0 ∷ 0 ∷ 0 ∷ 1 ∷ 1 ∷ [];
      lines = "  0: 2    1: 2    2: 2    3: 0    4: 0    5: 0    6: 1    7: 1  \n" ∷ [];
    }
    ∷ record {
      numbers = 2 ∷ 2 ∷ 2 ∷ 0 ∷ 0 ∷ 0 ∷ 0 ∷ 1 ∷ 1 ∷ [];
      lines = "  0: 2    1: 2    2: 2    3: 0    4: 0    5: 0    6: 0    7: 1  \n"
          ∷ "  8: 1                                                          \n"
          ∷ [];
    }
    ∷ []
