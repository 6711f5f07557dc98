-- Radios and links.
--   Link                     a link, its lower radio first
--   Graph                    n radios, numbered 0 to n - 1, and their links; a site's order is no part of it
--   InLinks l ls            l is one of the links ls
--   linked g a b             is there a link between a and b
--   neighbours_among f v xs  how many radios of xs are neighbours of v, where f tells neighbours
--   neighbours_in g v s      how many neighbours v has in the set s
--   degree g v               how many neighbours v has
--   relinked up a b g        the graph with the link between a and b taken up or down
--   Allowed most up a b g    questions 4 to 7 of a link call got yes, where `most` bounds the neighbours of a radio
--   proper, ascending        links as an image lists them: lower radio first, radios below n, by lower and then higher
-- Laws are in proofs/GraphLaws.antt. Definitions only.
use Rattle.std.specs.Prelude.{◌≡◌, ◌⊎◌, ◌&&◌, ◌||◌, ◌∷◌, ◌<◌}
use Rattle.lists.specs.{Kit.{Bool, true, not, cond, List, [], ℕ, ltb, eqb}, Lists.{range, count, member}}

-- an unordered pair of radios, the lower one first
pub record Link : Type 0 where
  pub low : ℕ
  pub high : ℕ

abbrev pub link_of : (low high : ℕ) → Link
link_of a b = record { low = a; high = b }

-- document 01: n radios, numbered 0 to n - 1, and the links between them
pub record Graph : Type 0 where
  pub n : ℕ
  pub links : List Link

abbrev pub graph : (n : ℕ) → List Link → Graph
graph n ls = record { n = n; links = ls }

-- the radios of a graph, ascending
unfoldable pub radios : Graph → List ℕ
radios g = range 0 g.n

-- the link m is one of a list
abbrev pub InLinks : Link → List Link → Type 0
InLinks m [] = ⊥
InLinks m (l ∷ ls) = (l ≡ m) ⊎ InLinks m ls

-- ---- neighbours

-- the other ends of the links of a
unfoldable pub other_ends : (a : ℕ) → List Link → List ℕ
other_ends a [] = []
other_ends a (l ∷ ls) =
    let rest = other_ends a ls in cond (eqb l.low a) (l.high ∷ rest) (cond (eqb l.high a) (l.low ∷ rest) rest)

-- document 01: is b a neighbour of a?
unfoldable pub linked : Graph → (a b : ℕ) → Bool
linked g a = let ends = other_ends a g.links in λ b. member b ends

-- how many of a list are neighbours of v
unfoldable pub neighbours_among : (neighbour : ℕ → ℕ → Bool) → (v : ℕ) → List ℕ → ℕ
neighbours_among f v xs = let near = f v in count near xs

-- how many neighbours v has inside a set
unfoldable pub neighbours_in : Graph → (v : ℕ) → (set : ℕ → Bool) → ℕ
neighbours_in g v s = let near = linked g v in count (λ b. near b && s b) (radios g)

-- document 01: how many neighbours a radio has
unfoldable pub degree : Graph → (v : ℕ) → ℕ
degree g v = neighbours_among (linked g) v (radios g)

-- ---- one link more or less

-- the pair of two radios, whichever is named first
unfoldable pub link : (a b : ℕ) → Link
link a b = cond (ltb a b) (record { low = a; high = b }) (record { low = b; high = a })

-- document 01: ascending by lower, then higher
unfoldable pub link_before : Link → Link → Bool
link_before l m = ltb l.low m.low || (eqb l.low m.low && ltb l.high m.high)

unfoldable pub same_link : Link → Link → Bool
same_link l m = eqb l.low m.low && eqb l.high m.high

-- the links with one more, at its place
unfoldable pub with_link : Link → List Link → List Link
with_link l [] = l ∷ []
with_link l (m ∷ ms) = let rest = with_link l ms in cond (link_before l m) (l ∷ m ∷ ms) (m ∷ rest)

-- the links without one
unfoldable pub without_link : Link → List Link → List Link
without_link l [] = []
without_link l (m ∷ ms) = let rest = without_link l ms in cond (same_link m l) ms (m ∷ rest)

-- document 01: an up adds its pair, a down strikes it
unfoldable pub new_links : (up : Bool) → (a b : ℕ) → List Link → List Link
new_links u a b ls = cond u (with_link (link a b) ls) (without_link (link a b) ls)

-- the graph after the link between a and b went up or down
unfoldable pub relinked : (up : Bool) → (a b : ℕ) → Graph → Graph
relinked u a b g = graph g.n (new_links u a b g.links)

-- document 01: questions 4 to 7 of a link call get yes, where `most` bounds the neighbours of a radio
pub record Allowed (most : ℕ) (up : Bool) (a b : ℕ) (g : Graph) : Type 0 where
  pub a_radio : a < g.n
  pub b_radio : b < g.n
  pub differ : a ≡ b → ⊥
  pub state : linked g a b ≡ not up
  pub room : up ≡ true → (degree g a < most) × (degree g b < most)

-- ---- links as an image lists them

-- document 01, blocks of kind 2: lower radio then higher; both are radios
unfoldable pub proper : (n : ℕ) → List Link → Bool
proper n [] = true
proper n (l ∷ ls) = (ltb l.low l.high && ltb l.high n) && proper n ls

-- document 01, blocks of kind 2: ascending by lower, then higher
unfoldable pub ascending : List Link → Bool
ascending [] = true
ascending (l ∷ []) = true
ascending (l ∷ m ∷ ls) = link_before l m && ascending (m ∷ ls)
