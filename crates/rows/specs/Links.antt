-- The links that a links table marks, in the order in which a graph lists them.
--   links_to a bs           the links of a to the radios bs
--   links_above ts a        the links of a to its neighbours above it
--   links_from n ts a p     the links of the rows from a to n - 1 without the first p
--   RowsListed             rows that fit a list
-- That these are the links of mesh's `graph_in` is `links_graph_in` in proofs/GraphLinks.antt. Definitions only.
use Rattle.std.specs.Prelude.{◌-◌, ◌≤◌, ◌<◌}
use Rattle.lists.specs.{Kit.{List, map, flat_map, ℕ, suc, min, length, drop}, Lists.{range}}
use Rattle.mesh.specs.{Limits.{max_radios, max_neighbours}, Graph.{Link, link_of}}
use Rattle.rows.specs.Rows.{neighbours_above}

abbrev pub links_to : (a : ℕ) → List ℕ → List Link
links_to a bs = map (link_of a) bs

unfoldable pub links_above : (links : List ℕ) → (a : ℕ) → List Link
links_above ts a = links_to a (neighbours_above ts a)

unfoldable pub links_from : (n : ℕ) → (links : List ℕ) → (a p : ℕ) → List Link
links_from n ts a p = drop p (flat_map (links_above ts) (range a (n - a)))

-- ---- what is required

-- at most as many rows as a site may have, each with at most `room` neighbours above its own radio, and no more than are listed
pub record RowsListed (n : ℕ) (links : List ℕ) (room : ℕ) : Type 0 where
  pub most : n ≤ max_radios
  pub few : (a : ℕ) → a < n → length (neighbours_above links a) ≤ min room (suc max_neighbours)
