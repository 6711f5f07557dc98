-- Document 02, W-203: the event text of the replay program that rebuilds a site, as bytes.
--   radios_text n        the text of line 1
--   up_text a b          the text of a link call that takes a link up
--   up_line l            the line that takes the link l up, lower radio first
--   script_of g          the script: line 1, then one `up` line for each link of the graph, in its order
--   script_length g      the script's length in bytes
-- The links of a graph stand ascending, by lower and then higher radio. Crate script parses these texts. Definitions only.
use Rattle.std.specs.Prelude.{◌∷◌, ◌++◌}
use Rattle.lists.specs.Kit.{List, [], flat_map, ℕ, length}
use Rattle.mesh.specs.Graph.{Link, Graph}
use Rattle.text.specs.Text.{bytes_of, decimal, printed_line}

-- ---- lines of the replay program

abbrev pub radios_text : (n : ℕ) → List ℕ
radios_text n = printed_line (bytes_of "radios") (decimal n ∷ [])

abbrev pub up_text : (a b : ℕ) → List ℕ
up_text a b = printed_line (bytes_of "up") (decimal a ∷ decimal b ∷ [])

-- ---- the script

unfoldable pub up_line : Link → List ℕ
up_line l = up_text l.low l.high

unfoldable pub script_of : Graph → List ℕ
script_of g = radios_text g.n ++ flat_map up_line g.links

-- to be had beforehand, and the length written
unfoldable pub script_length : Graph → ℕ
script_length g = length (script_of g)
