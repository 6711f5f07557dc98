-- A level peeled with one radio kept, in a table of counters: how pairs with that radio are found not to lift a radio, or to lift it. g is
-- the graph as it is, without any link more; k is the level: its radios have number k, the radios above have more.
-- The table `counters`, by radio: below 128, the radio is of the level and left, and this many of its neighbours stay; 128 and more, it was
-- taken when so many of its neighbours stayed; 255, it is not of the level.
--   left cs v             v is of the level and not taken
--   stays g k cs v        v is above the level, or left
--   PairGroup g k a c s  with the link a-c up, s would give each member k + 1 neighbours inside it; it has both ends
--   Taken g v cs ds       the counters when v is taken
--   Peeling g k a cs      radios were taken of whose neighbours at most k stayed, and a was not
-- Laws are in proofs/Peeling.antt. Definitions only.
use Rattle.std.specs.Prelude.{◌≡◌, ◌&&◌, ◌||◌, ◌+◌, ◌≤◌, ◌<◌}
use Rattle.lists.specs.Kit.{Bool, true, false, List, ℕ, suc, ltb, get_or}
use Rattle.mesh.specs.{Limits.{max_neighbours}, Graph.{Graph, linked, neighbours_in}, Cores.{number}}

unfoldable pub left : (counters : List ℕ) → (v : ℕ) → Bool
left cs v = ltb (get_or cs v 255) 128

unfoldable pub stays : Graph → (k : ℕ) → (counters : List ℕ) → (v : ℕ) → Bool
stays g k cs v = ltb k (number g v) || left cs v

pub record PairGroup (g : Graph) (k a c : ℕ) (s : ℕ → Bool) : Type 0 where
  pub radio : (x : ℕ) → s x ≡ true → x < g.n
  pub high : (x : ℕ) → s x ≡ true → k ≤ number g x
  pub low_end : s a ≡ true
  pub high_end : s c ≡ true
  pub ends : (x : ℕ) → s x ≡ true → k ≤ neighbours_in g x s
  pub others : (x : ℕ) → s x ≡ true → (x ≡ a → ⊥) → (x ≡ c → ⊥) → suc k ≤ neighbours_in g x s

-- neighbours that are left have one less
pub record Taken (g : Graph) (v : ℕ) (cs ds : List ℕ) : Type 0 where
  pub own : get_or ds v 255 ≡ 128 + get_or cs v 255
  pub near : (w : ℕ) → (w ≡ v → ⊥) → left cs w ≡ true → linked g v w ≡ true → suc (get_or ds w 255) ≡ get_or cs w 255
  pub far : (w : ℕ) → (w ≡ v → ⊥) → (left cs w && linked g v w) ≡ false → get_or ds w 255 ≡ get_or cs w 255

-- `avoided`: of a pair with a whose other end stays, a group has none of the taken radios; `few`: a pair has no group whose other end was
-- taken with fewer than k neighbours
pub record Peeling (g : Graph) (k a : ℕ) (cs : List ℕ) : Type 0 where
  pub level : (v : ℕ) → left cs v ≡ true → (v < g.n) × (number g v ≡ k)
  pub counted : (v : ℕ) → left cs v ≡ true → get_or cs v 255 ≡ neighbours_in g v (stays g k cs)
  pub avoided : (c : ℕ) (s : ℕ → Bool) → PairGroup g k a c s → stays g k cs c ≡ true → (x : ℕ) → s x ≡ true → stays g k cs x ≡ true
  pub few : (c : ℕ) (s : ℕ → Bool) → PairGroup g k a c s → 128 ≤ get_or cs c 255 → get_or cs c 255 < 128 + k → ⊥
  pub small : (v : ℕ) → left cs v ≡ true → get_or cs v 255 ≤ max_neighbours
  pub lower_end : stays g k cs a ≡ true
