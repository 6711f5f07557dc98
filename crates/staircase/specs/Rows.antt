-- The rows of a level.
--   row_among ts s a       the links of a to radios above it that the set s has
--   level_row ts o s a     the same of the set s where a is in the set o, else of o
--   RowsWhole             listed rows that are rows of the table
--   RadiosPut, NeighboursPut   listed radios, and their neighbours, put into a set
--   LevelSets             the radios of a level, and these and the ones of higher levels, as sets
--   LevelRows             the rows of a level listed
--   Mutual n ts            n rows that are whole and mark each other
-- Definitions only.
use Rattle.std.specs.Prelude.{◌≡◌, ◌&&◌, ◌+◌, ◌*◌, ◌≤◌, ◌<◌}
use Rattle.lists.specs.{Kit.{Bool, true, cond, List, ℕ, ltb, eqb, length, get_or, take}, Lists.{range, filter, member}}
use Rattle.mesh.specs.{Limits.{max_radios, row_bytes}, Graph.{Link}, Tables.{marked}}
use Rattle.rows.specs.{Rows.{row_listed, neighbours_above}, Sets.{in_set}, Links.{links_to}}
use Rattle.floods.specs.Floods.{of_level}

unfoldable pub row_among : (links set : List ℕ) → (a : ℕ) → List Link
row_among ts s a = links_to a (filter (in_set s) (neighbours_above ts a))

-- own are the radios of the level, reach these and the ones of higher levels: a link of the level has an end of the level, and the other
-- one is not below it
unfoldable pub level_row : (links own reach : List ℕ) → (a : ℕ) → List Link
level_row ts own reach a = row_among ts (cond (in_set own a) reach own) a

-- the listed rows are rows of the table
abbrev pub RowsWhole : (links list : List ℕ) → Type 0
RowsWhole ts list = (i : ℕ) → i < length list → (get_or list i 0 < max_radios) × (row_bytes * get_or list i 0 + row_bytes ≤ length ts)

-- the set has the listed radios
pub record RadiosPut (list set : List ℕ) : Type 0 where
  pub own : (j : ℕ) → j < length list → in_set set (get_or list j 0) ≡ true

-- old is the set before
pub record NeighboursPut (ts list old set : List ℕ) : Type 0 where
  pub kept : (x : ℕ) → in_set old x ≡ true → in_set set x ≡ true
  pub near : (j x : ℕ) → j < length list → member x (row_listed ts (get_or list j 0)) ≡ true → in_set set x ≡ true

-- own are the radios with number k, reach the ones with number k or more
pub record LevelSets (ns : List ℕ) (k : ℕ) (own reach : List ℕ) : Type 0 where
  pub own_long : length own ≡ 8
  pub own_radios : (x : ℕ) → x < max_radios → in_set own x ≡ (ltb x (length ns) && eqb (get_or ns x 0) k)
  pub reach_radios : (x : ℕ) → x < max_radios → in_set reach x ≡ of_level ns k x

-- the first r entries of the list are the radios of reach that `rows` has: all of the level and all that are linked to one of them
pub record LevelRows (ts own reach : List ℕ) (r : ℕ) (list : List ℕ) : Type 0 where
  pub rows : ℕ → Bool
  pub fits : r ≤ length list
  pub listed : take r list ≡ filter (λ a. in_set reach a && rows a) (range 0 max_radios)
  pub own_row : (a : ℕ) → in_set own a ≡ true → rows a ≡ true
  pub near_row : (a b : ℕ) → in_set own b ≡ true → member a (row_listed ts b) ≡ true → rows a ≡ true

pub record Mutual (n : ℕ) (ts : List ℕ) : Type 0 where
  pub most : n ≤ max_radios
  pub whole : row_bytes * n ≤ length ts
  pub both : (a b : ℕ) → a < n → b < n → marked ts a b ≡ marked ts b a
