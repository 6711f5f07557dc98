-- Worked cases of the staircase tree, as one table: a site, and the kept links in their order. That every row is right is
-- `staircase_cases` in proofs/Cases.antt. Definitions only.
use Rattle.std.specs.Prelude.{◌&&◌, ◌∷◌}
use Rattle.lists.specs.{Kit.{Bool, true, List, [], ℕ}, Lists.{same}}
use Rattle.mesh.specs.{Graph.{Link, link_of, graph}, Staircase.{staircase, link_entries}}

pub record Case : Type 0 where
  pub n : ℕ
  pub links : List Link
  pub kept : List Link

abbrev pub case : (n : ℕ) → (links kept : List Link) → Case
case n ls ks = record { n = n; links = ls; kept = ks }

unfoldable pub right : Case → Bool
right c = same (link_entries (staircase (graph c.n c.links))) (link_entries c.kept)

unfoldable pub all_right : List Case → Bool
all_right [] = true
all_right (c ∷ cs) = right c && all_right cs

-- one radio, and radios without links: nothing is kept
unfoldable pub alone : Case
alone = case 1 [] []

unfoldable pub unlinked : Case
unlinked = case 3 [] []

-- M3: two triangles, each without its last link
unfoldable pub m3 : Case
m3 = case 6 (link_of 0 1 ∷ link_of 0 2 ∷ link_of 1 2 ∷ link_of 3 4 ∷ link_of 3 5 ∷ link_of 4 5 ∷ [])
    (link_of 0 1 ∷ link_of 0 2 ∷ link_of 3 4 ∷ link_of 3 5 ∷ [])

-- M4: the link between them is kept in its place
unfoldable pub m4 : Case
m4 = case 6 (link_of 0 1 ∷ link_of 0 2 ∷ link_of 1 2 ∷ link_of 2 3 ∷ link_of 3 4 ∷ link_of 3 5 ∷ link_of 4 5 ∷ [])
    (link_of 0 1 ∷ link_of 0 2 ∷ link_of 2 3 ∷ link_of 3 4 ∷ link_of 3 5 ∷ [])

-- M5: the link of radio 6 has weight 1 and comes last
unfoldable pub m5 : Case
m5 = case 7 (link_of 0 1 ∷ link_of 0 2 ∷ link_of 0 6 ∷ link_of 1 2 ∷ link_of 2 3 ∷ link_of 3 4 ∷ link_of 3 5 ∷ link_of 4 5 ∷ [])
    (link_of 0 1 ∷ link_of 0 2 ∷ link_of 2 3 ∷ link_of 3 4 ∷ link_of 3 5 ∷ link_of 0 6 ∷ [])

-- a ring in which the order of equal weights decides: by higher radio first it would keep 0-2, 1-2, 0-3
unfoldable pub ring : Case
ring = case 4 (link_of 0 2 ∷ link_of 0 3 ∷ link_of 1 2 ∷ link_of 1 3 ∷ []) (link_of 0 2 ∷ link_of 0 3 ∷ link_of 1 2 ∷ [])

-- by the larger number 0-1 would come first: radio 0 hangs on a triangle
unfoldable pub hanging : Case
hanging = case 4 (link_of 0 1 ∷ link_of 1 2 ∷ link_of 1 3 ∷ link_of 2 3 ∷ []) (link_of 1 2 ∷ link_of 1 3 ∷ link_of 0 1 ∷ [])

unfoldable pub cases : List Case
cases = alone ∷ unlinked ∷ m3 ∷ m4 ∷ m5 ∷ ring ∷ hanging ∷ []
