-- Document 01, an input of the replay program: its lines, and the site that it starts with.
--   lines_of input            the lines, each with its line feed; the last may have none
--   front input, rest input   the first line, and what follows it
--   radios_of s               the radios of the site that a first line names, 0 where it is no first line
--   cleared n                 a cleared site
-- Definitions only.
use Rattle.std.specs.Prelude.{◌∷◌, ◌*◌}
use Rattle.lists.specs.{Kit.{cond, List, [], ℕ, eqb, leb, replicate}, Lists.{range}}
use Rattle.mesh.specs.{Limits.{max_radios, row_bytes}, Tables.{Tables, tables}}
use Rattle.text.specs.Text.{line_feed}
use Rattle.script.specs.{Lines.{line_of}, declared.lines.Line.{Line}, declared.lines.Line.TheVariants.{Radios, Up, Down, Bad}}

-- ---- lines

-- the byte before the first of the lines
unfoldable pub glue : (byte : ℕ) → List (List ℕ) → List (List ℕ)
glue b [] = (b ∷ []) ∷ []
glue b (l ∷ ls) = (b ∷ l) ∷ ls

-- the input split after each line feed
unfoldable pub lines_of : List ℕ → List (List ℕ)
lines_of [] = []
lines_of (b ∷ bs) =
    let ls = lines_of bs in
    cond (eqb b line_feed) ((b ∷ []) ∷ ls) (glue b ls)

-- the first line, its line feed included
unfoldable pub front : List ℕ → List ℕ
front [] = []
front (b ∷ bs) = b ∷ cond (eqb b line_feed) [] (front bs)

-- what follows the first line
unfoldable pub rest : List ℕ → List ℕ
rest [] = []
rest (b ∷ bs) = cond (eqb b line_feed) bs (rest bs)

-- ---- the site

-- a site has 1 to 512 radios
unfoldable pub site_of : Line → ℕ
site_of (Radios n) = cond (leb n max_radios) n 0
site_of (Up a b) = 0
site_of (Down a b) = 0
site_of Bad = 0

-- the radios of the site that a first line names, 0 where it is no first line
unfoldable pub radios_of : List ℕ → ℕ
radios_of s = site_of (line_of s)

-- a cleared site
unfoldable pub cleared : (n : ℕ) → Tables
cleared n = tables (replicate (row_bytes * n) 0) (replicate n 0) (range 0 n)
