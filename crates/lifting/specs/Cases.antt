-- Worked cases of one link that lifts a radio, as one table: a site, a radio, and the first pair that lifts it or none. That every row is
-- right is `lift_cases` in proofs/Cases.antt. Definitions only.
use Rattle.std.specs.Prelude.{◌&&◌, ◌∷◌}
use Rattle.lists.specs.Kit.{Bool, true, false, List, [], ℕ}
use Rattle.mesh.specs.Graph.{Link, link_of, same_link, graph}
use Rattle.calls.specs.Lift.{lifting}

pub record Case : Type 0 where
  pub n : ℕ
  pub links : List Link
  pub radio : ℕ
  pub first : List Link

-- the pair, or no pair
abbrev pub case : (n : ℕ) → (links : List Link) → (radio : ℕ) → (first : List Link) → Case
case n ls v f = record { n = n; links = ls; radio = v; first = f }

unfoldable pub same_first : (lifting first : List Link) → Bool
same_first [] [] = true
same_first [] (m ∷ ms) = false
same_first (l ∷ ls) [] = false
same_first (l ∷ ls) (m ∷ ms) = same_link l m

unfoldable pub right : Case → Bool
right c = same_first (lifting (graph c.n c.links) c.radio) c.first

unfoldable pub all_right : List Case → Bool
all_right [] = true
all_right (c ∷ cs) = right c && all_right cs

-- no links: the pair 0-1 comes before, and raises only others
unfoldable pub unlinked : Case
unlinked = case 3 [] 2 (link_of 0 2 ∷ [])

-- the ends of a path, for the radio between them
unfoldable pub path : Case
path = case 3 (link_of 0 1 ∷ link_of 1 2 ∷ []) 1 (link_of 0 2 ∷ [])

-- every link is up
unfoldable pub triangle : Case
triangle = case 3 (link_of 0 1 ∷ link_of 0 2 ∷ link_of 1 2 ∷ []) 0 []

unfoldable pub alone : Case
alone = case 1 [] 0 []

-- a triangle with a tail: the last radio of the tail, and the one before it
unfoldable pub tail : List Link
tail = link_of 0 1 ∷ link_of 0 2 ∷ link_of 1 2 ∷ link_of 2 3 ∷ link_of 3 4 ∷ []

unfoldable pub tail_end : Case
tail_end = case 5 tail 4 (link_of 0 4 ∷ [])

unfoldable pub tail_middle : Case
tail_middle = case 5 tail 3 (link_of 0 3 ∷ [])

-- two triangles: one link more makes no group of three
unfoldable pub two_triangles : Case
two_triangles = case 6 (link_of 0 1 ∷ link_of 0 2 ∷ link_of 1 2 ∷ link_of 3 4 ∷ link_of 3 5 ∷ link_of 4 5 ∷ []) 0 []

-- a ring of four with one diagonal: the other one
unfoldable pub ring : Case
ring = case 4 (link_of 0 1 ∷ link_of 0 2 ∷ link_of 0 3 ∷ link_of 1 2 ∷ link_of 2 3 ∷ []) 0 (link_of 1 3 ∷ [])

unfoldable pub cases : List Case
cases = unlinked ∷ path ∷ triangle ∷ alone ∷ tail_end ∷ tail_middle ∷ two_triangles ∷ ring ∷ []
