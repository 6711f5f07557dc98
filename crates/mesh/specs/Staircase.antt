-- The staircase tree (document 02, W-209, following document 004): the fewest links that show how strongly radios hang together.
--   weight g l           the smaller of its ends' numbers
--   falling wt top ls    the links of ls by weight falling from top, links of one weight in the order of ls
--   Joined n ks a b      the links ks lead from a to b;  `joined` is the test
--   keep n ks ls         the links of ls taken in turn: one is kept when its ends are not yet joined by kept ones
--   staircase g          the kept links, in the order in which they are taken
--   link_entries ks      the links as a table of 16-bit entries lists them: lower radio, higher radio
--   Acyclic n fs         no link of fs joins two radios that its other links join
--   Spanning g fs        fs is a spanning forest: links of the graph, acyclic, joining whatever the graph joins
--   weighs wt fs         the sum of the weights
--   heavy wt w ls        the links of weight w or more
--   Way ls a b qs        a way from a to b over links of ls; qs are its links, the last one first
--   Once qs              no link stands twice in qs
--   OnceWay ls a b      a way from a to b that uses no link twice
--   least wt qs          the least weight along the way qs (0 where it has no link)
--   InTurn wt ks        weights fall along ks; among equal ones the lower radio rises, and then the higher one
--   StaircaseTree g ks  what the kept links are shown to be
-- That `staircase` is such a tree is `staircase_tree` in crate forests. Definitions only.
use Rattle.std.specs.Prelude.{◌≡◌, ◌⊎◌, ◌↔◌, ◌&&◌, ◌||◌, ◌∷◌, ◌++◌, ◌+◌, ◌≤◌, ◌<◌}
use Rattle.lists.specs.{Kit.{Bool, true, cond, List, [], ℕ, zero, suc, min, ltb, leb, eqb, length}}
use Rattle.lists.specs.{Lists.{member}}
use Rattle.mesh.specs.{Graph.{Link, Graph, graph, InLinks, link_before}, Cores.{number, numbers}, Connected.{Reachable, InCore, reached, greatest}}

-- ---- weights

-- "a link's weight is the smaller of its ends' numbers"
unfoldable pub weight : Graph → Link → ℕ
weight g = let num = number g in λ l. min (num l.low) (num l.high)

-- the links that pass a test, in their order
unfoldable pub filter_links : (Link → Bool) → List Link → List Link
filter_links f [] = []
filter_links f (l ∷ ls) = let rest = filter_links f ls in cond (f l) (l ∷ rest) rest

-- the links of one weight
abbrev pub of_weight : (weight : Link → ℕ) → (w : ℕ) → List Link → List Link
of_weight wt w ls = filter_links (λ l. eqb (wt l) w) ls

-- "Take links by weight falling, then lower radio, then higher radio rising": links of a graph stand ascending
unfoldable pub falling : (weight : Link → ℕ) → (top : ℕ) → List Link → List Link
falling wt zero ls = of_weight wt 0 ls
falling wt (suc w) ls = of_weight wt (suc w) ls ++ falling wt w ls

-- ---- the kept links

abbrev pub anyone : ℕ → Bool
anyone v = true

-- the links ks join a and b
abbrev pub Joined : (n : ℕ) → List Link → (a b : ℕ) → Type 0
Joined n ks a b = Reachable (graph n ks) anyone a b

-- the same, worked out
unfoldable pub joined : (n : ℕ) → List Link → (a b : ℕ) → Bool
joined n ks a b = member b (reached n (graph n ks) anyone (a ∷ []))

-- "and keep a link when its ends are not yet joined by kept ones"
unfoldable pub keep : (n : ℕ) → (kept : List Link) → List Link → List Link
keep n ks [] = ks
keep n ks (l ∷ ls) = let now = cond (joined n ks l.low l.high) ks (ks ++ (l ∷ [])) in keep n now ls

-- the kept links, in the order in which they are taken
unfoldable pub staircase : Graph → List Link
staircase g = let wt = weight g in keep g.n [] (falling wt (greatest (numbers g)) g.links)

-- "List the kept links in that order, lower radio first"
unfoldable pub link_entries : List Link → List ℕ
link_entries [] = []
link_entries (l ∷ ls) = l.low ∷ l.high ∷ link_entries ls

-- ---- spanning forests

-- no link of fs joins two radios that its other links join
abbrev pub Acyclic : (n : ℕ) → List Link → Type 0
Acyclic n fs = (ps qs : List Link) (l : Link) → fs ≡ ps ++ (l ∷ qs) → Joined n (ps ++ qs) l.low l.high → ⊥

-- a spanning forest: links of the graph, acyclic, joining whatever the graph joins
pub record Spanning (g : Graph) (fs : List Link) : Type 0 where
  pub of_graph : (l : Link) → InLinks l fs → InLinks l g.links
  pub acyclic : Acyclic g.n fs
  pub spans : (a b : ℕ) → Joined g.n g.links a b → Joined g.n fs a b

-- the sum of the weights
unfoldable pub weighs : (weight : Link → ℕ) → List Link → ℕ
weighs wt [] = 0
weighs wt (l ∷ ls) = wt l + weighs wt ls

-- the links of weight w or more
abbrev pub heavy : (weight : Link → ℕ) → (w : ℕ) → List Link → List Link
heavy wt w ls = filter_links (λ l. leb w (wt l)) ls

-- ---- ways

-- v and w are the ends of l, in either order
abbrev pub Between : Link → (v w : ℕ) → Type 0
Between l v w = ((v ≡ l.low) × (w ≡ l.high)) ⊎ ((v ≡ l.high) × (w ≡ l.low))

-- a way from a over links of ls; its links, the last one first
pub data Way (ls : List Link) (a : ℕ) : ℕ → List Link → Type 0 where
  stay : Way ls a a []
  along : {v w : ℕ} {qs : List Link} {l : Link} → Way ls a v qs → InLinks l ls → Between l v w → Way ls a w (l ∷ qs)

-- no link stands twice
abbrev pub Once : List Link → Type 0
Once [] = Unit {0}
Once (l ∷ ls) = (InLinks l ls → ⊥) × Once ls

-- a way from a to b that uses no link twice
pub record OnceWay (ls : List Link) (a b : ℕ) : Type 0 where
  pub links : List Link
  pub way : Way ls a b links
  pub once : Once links

-- the least weight along a way; 0 where it has no link
unfoldable pub least : (weight : Link → ℕ) → List Link → ℕ
least wt [] = 0
least wt (l ∷ []) = wt l
least wt (l ∷ m ∷ ls) = min (wt l) (least wt (m ∷ ls))

-- ---- the order of the list

-- l is taken before m
unfoldable pub goes_before : (weight : Link → ℕ) → (l m : Link) → Bool
goes_before wt l m = ltb (wt m) (wt l) || (eqb (wt l) (wt m) && link_before l m)

-- each link is taken before all later ones
abbrev pub InTurn : (weight : Link → ℕ) → List Link → Type 0
InTurn wt [] = Unit {0}
InTurn wt (l ∷ ls) = ((m : Link) → InLinks m ls → goes_before wt l m ≡ true) × InTurn wt ls

-- ---- what is shown

pub record StaircaseTree (g : Graph) (ks : List Link) : Type 0 where
  pub spanning : Spanning g ks
  -- no other spanning forest weighs more
  pub heaviest : (fs : List Link) → Spanning g fs → weighs (weight g) fs ≤ weighs (weight g) ks
  -- joined radios have a way over kept links that uses none twice
  pub way : (a b : ℕ) → Joined g.n g.links a b → OnceWay ks a b
  -- and its least weight is the greatest that any way between them has
  pub widest :
      (a b : ℕ) → a < g.n → (a ≡ b → ⊥) → (ps qs : List Link) → Way g.links a b ps → Way ks a b qs → Once qs →
      least (weight g) ps ≤ least (weight g) qs
  -- kept links of weight k or more join two radios exactly when they share a connected core at level k
  pub core : (a b k : ℕ) → a < g.n → k ≤ number g a → Joined g.n (heavy (weight g) k ks) a b ↔ InCore g a k b
  -- the list's order, and fewer links than radios
  pub in_turn : InTurn (weight g) ks
  pub fewer : length ks < g.n
