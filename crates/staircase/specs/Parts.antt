-- Parts, the radios that kept links join, as parents: a radio's parent is one of its part and no higher; the lowest is its own parent.
--   Parents ps       no parent is higher than its radio
--   root k ps v      where k steps from radio to parent lead from v
--   roots ps         of each radio the lowest of its part: its label
--   Rooted           the root of v was searched, and ways to roots may be shorter
-- Definitions only.
use Rattle.std.specs.Prelude.{◌≡◌, ◌≤◌}
use Rattle.lists.specs.{Kit.{List, map, ℕ, zero, suc, length, get_or}, Lists.{range}}

abbrev pub Parents : List ℕ → Type 0
Parents ps = (v : ℕ) → get_or ps v 0 ≤ v

unfoldable pub root : (steps : ℕ) → (parents : List ℕ) → (v : ℕ) → ℕ
root zero ps v = v
root (suc k) ps v = root k ps (get_or ps v 0)

-- no way to a root has more steps than there are radios
unfoldable pub roots : (parents : List ℕ) → List ℕ
roots ps = map (root (length ps) ps) (range 0 (length ps))

-- ps before, qs after; r was found
pub record Rooted (ps : List ℕ) (v : ℕ) (qs : List ℕ) (r : ℕ) : Type 0 where
  pub parents : Parents qs
  pub same : roots qs ≡ roots ps
  pub found : r ≡ get_or (roots ps) v 0
