-- What the loops of the staircase tree ask and pass over.
--   greatest_below w ns  the greatest number below w, 0 where there is none
--   most_taken           more than are taken on all levels together, whatever the tables hold
--   growth f             what grows: the labels of the radios of the forest f, its table and its count
--   Takeable f ls        what taking the links ls wants of them and of the forest f
--   Taken ls f e         the links ls were taken in turn: f is the forest before, e after
-- What grows is forests/specs/Growing.antt; that on sound tables it is the staircase tree is `staircase_table` in proofs/LevelLaws.antt.
-- Definitions only.
use Rattle.std.specs.Prelude.{◌≡◌, ◌+◌, ◌*◌, ◌≤◌, ◌<◌}
use Rattle.lists.specs.Kit.{cond, List, map, ℕ, ltb, length}
use Rattle.forests.specs.Growing.{Growing, growing, grown_all}
use Rattle.staircase.specs.{Parts.{roots}, declared.forest.Forest.{Forest}}
use Rattle.mesh.specs.{Limits.{max_radios}, Graph.{Link, InLinks}, Connected.{greatest}}

-- x where it is below w, else 0
unfoldable pub below : (w x : ℕ) → ℕ
below w x = cond (ltb x w) x 0

abbrev pub greatest_below : (w : ℕ) → (numbers : List ℕ) → ℕ
greatest_below w ns = greatest (map (below w) ns)

-- a number is a byte, and a row has at most as many links as there are radios
abbrev pub most_taken : ℕ
most_taken = 256 * (max_radios * max_radios)

-- ---- what is required

-- both ends are radios of the forest, and all of them may still be counted
pub record Takeable (f : Forest) (ls : List Link) : Type 0 where
  pub inside : (l : Link) → InLinks l ls → (l.low < length f.parents.now) × (l.high < length f.parents.now)
  pub few : f.count + length ls ≤ most_taken

-- ---- what is ensured

abbrev pub growth : Forest → Growing
growth f = growing (roots f.parents.now) f.table.now f.count

-- it is the same table after
pub record Taken (ls : List Link) (f e : Forest) : Type 0 where
  pub table : e.table.ghost_name ≡ f.table.ghost_name
  pub long : length e.parents.now ≡ length f.parents.now
  pub is : growth e ≡ grown_all ls (growth f)
