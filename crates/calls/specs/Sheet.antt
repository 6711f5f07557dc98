-- Document 02, W-201: the site sheet on a printed page, as bytes.
--   cell_width, line_cells   the columns of a cell, the cells of a line
--   line_width, line_bytes   the columns of a line; its bytes, with the line feed
--   right-aligned k xs       the text xs with spaces before it, in k columns
--   filled k xs              the text xs with spaces after it, in k columns
--   cell v x                 the cell of radio v with number x
--   cells ns v k             the cells of k radios from v on
--   sheet_line ns i          line i of the sheet of the numbers ns
--   sheet ns                 the sheet: all radios, ascending along the lines
--   sheet_lines n            how many lines n radios take
--   sheet_length n           the sheet's length in bytes
--   Columns n num bs         what stands in each column of the page bs
-- That the sheet has this length and these columns is `length_sheet` and `sheet_columns` in proofs/SheetLaws.antt. Definitions only.
use Rattle.std.specs.Prelude.{◌≡◌, ◌∷◌, ◌++◌, ◌+◌, ◌*◌, ◌-◌, ◌/◌, ◌≤◌, ◌<◌}
use Rattle.lists.specs.{Kit.{List, [], flat_map, ℕ, min, length, get_or, replicate}, Lists.{range}}
use Rattle.mesh.specs.Sound.{number_in}
use Rattle.text.specs.Text.{bytes_of, space, line_feed, decimal}

-- ---- the page

-- cells of 8 columns
abbrev pub cell_width : ℕ
cell_width = 8

-- 8 cells to a line
abbrev pub line_cells : ℕ
line_cells = 8

-- each line has 64 columns
abbrev pub line_width : ℕ
line_width = 64

-- and a line feed
abbrev pub line_bytes : ℕ
line_bytes = 65

unfoldable pub right_aligned : (columns : ℕ) → List ℕ → List ℕ
right_aligned k xs = replicate (k - length xs) space ++ xs

unfoldable pub filled : (columns : ℕ) → List ℕ → List ℕ
filled k xs = xs ++ replicate (k - length xs) space

-- radio number in 3 columns right-aligned, a colon, core number in 2 columns right-aligned, two spaces
unfoldable pub cell : (radio number : ℕ) → List ℕ
cell v x = right_aligned 3 (decimal v) ++ bytes_of ":" ++ right_aligned 2 (decimal x) ++ bytes_of "  "

unfoldable pub cells : (numbers : List ℕ) → (v k : ℕ) → List ℕ
cells ns v k = flat_map (λ w. cell w (number_in ns w)) (range v k)

-- the last line is filled with spaces
unfoldable pub sheet_line : (numbers : List ℕ) → (line : ℕ) → List ℕ
sheet_line ns i = filled line_width (cells ns (line_cells * i) (min line_cells (length ns - line_cells * i))) ++ (line_feed ∷ [])

unfoldable pub sheet_lines : (n : ℕ) → ℕ
sheet_lines n = (n + 7) / line_cells

unfoldable pub sheet : (numbers : List ℕ) → List ℕ
sheet ns = flat_map (sheet_line ns) (range 0 (sheet_lines (length ns)))

-- 65 bytes × lines
unfoldable pub sheet_length : (n : ℕ) → ℕ
sheet_length n = line_bytes * sheet_lines n

-- ---- its columns

-- a page of n radios, of which v has the number num v
pub record Columns (n : ℕ) (num : ℕ → ℕ) (bs : List ℕ) : Type 0 where
  -- cell c of line i is that of radio 8 i + c; its columns stand from 65 i + 8 c on
  pub cells :
      (i c j : ℕ) → c < line_cells → j < cell_width → (v : ℕ) → v ≡ line_cells * i + c → v < n →
      get_or bs (line_bytes * i + (cell_width * c + j)) 0 ≡ get_or (cell v (num v)) j 0
  -- after the last radio the line has spaces
  pub spaces :
      (i c j : ℕ) → i < sheet_lines n → c < line_cells → j < cell_width → n ≤ line_cells * i + c → get_or bs (line_bytes * i + (cell_width * c + j)) 0 ≡ space
  -- and after its columns a line feed
  pub feeds : (i : ℕ) → i < sheet_lines n → get_or bs (line_bytes * i + line_width) 0 ≡ line_feed
