-- The staircase tree as it grows in three places: a label for each radio, the lent table, a count.
--   relabelled lo hi x   the label x, or lo where it is hi
--   grown_one l s        the link l taken: kept where the labels of its ends differ
--   grown_all ls s       the links ls taken in turn
--   table_weight ns l    the weight of a link by the numbers table
--   levels_falling       the links by weight falling down to 1: every link of a sound site weighs something
-- That the definition keeps the same links is `shows_all` (proofs/Shows.antt), that it takes links in the same turn is `levels_all`
-- (proofs/Levels.antt). Definitions only.
use Rattle.std.specs.Prelude.{◌∷◌, ◌++◌, ◌+◌, ◌*◌}
use Rattle.lists.specs.Kit.{cond, List, [], map, ℕ, zero, suc, min, max, eqb, get_or, set}
use Rattle.mesh.specs.{Graph.{Link}, Sound.{number_in}, Staircase.{of_weight}}

pub record Growing : Type 0 where
  pub labels : List ℕ
  pub table : List ℕ
  pub count : ℕ

abbrev pub growing : (labels table : List ℕ) → (count : ℕ) → Growing
growing ls t c = record { labels = ls; table = t; count = c }

-- ---- one link taken

unfoldable pub relabelled : (lo hi x : ℕ) → ℕ
relabelled lo hi x = cond (eqb x hi) lo x

-- the link a-b kept; x and y are the labels of its ends
unfoldable pub joined_up : (a b x y : ℕ) → Growing → Growing
joined_up a b x y s =
    growing (map (relabelled (min x y) (max x y)) s.labels) (set (set s.table (2 * s.count) a) (2 * s.count + 1) b) (s.count + 1)

unfoldable pub grown_one : Link → Growing → Growing
grown_one l s =
    let x = get_or s.labels l.low 0 in
    let y = get_or s.labels l.high 0 in cond {A = Growing} (eqb x y) s (joined_up l.low l.high x y s)

unfoldable pub grown_all : List Link → Growing → Growing
grown_all [] s = s
grown_all (l ∷ ls) s = grown_all ls (grown_one l s)

-- ---- levels

abbrev pub table_weight : (numbers : List ℕ) → Link → ℕ
table_weight ns l = min (number_in ns l.low) (number_in ns l.high)

unfoldable pub levels_falling : (weight : Link → ℕ) → (top : ℕ) → List Link → List Link
levels_falling wt zero ls = []
levels_falling wt (suc w) ls = of_weight wt (suc w) ls ++ levels_falling wt w ls
