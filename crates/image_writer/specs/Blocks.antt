-- The blocks of an image as the writer fills them in: what its functions require and come back with.
--   marked_graph                the graph of the links that the rows mark
--   Place at                    a place of a block where a link may stand, or the payload's end
--   LinksPut                   links put into a block from a place on, as many as were done, and what is left of them
--   Stopped                     nothing is left of a word, or the block is full
--   row_left, links_left        the links that a cursor leaves of its row, and of all rows
--   RowThere, RowsThere       the rows that are read
--   RowStopped                 nothing is left of a row, or the block is full
--   Going, NextLink            a cursor after a row, and after a block
--   LinksFilled                a block of links, filled in
--   LinksFit, AllLinksFilled what all blocks of links want, and come to
--   front_block                 a block before them
-- That these are the image is `image_filled` in proofs/BlockFilling.antt. Definitions only.
use Rattle.std.specs.Prelude.{◌≡◌, ◌⊎◌, ◌++◌, ◌+◌, ◌*◌, ◌-◌, ◌%◌, ◌^◌, ◌≤◌, ◌<◌}
use Rattle.lists.specs.{Kit.{List, [], flat_map, ℕ, zero, suc, min, length, take, drop, sets}, Lists.{range}}
use Rattle.mesh.specs.{Limits.{max_radios, row_bytes}, Graph.{Link, Graph, graph}, Image.{block_bytes, block_links, word, link_bytes, block, blocks_for}}
use Rattle.mesh.specs.{Image.{order_payload, links_payload}}
use Rattle.rows.specs.{Rows.{row_from, set_bits}, Links.{links_to, links_from}}

abbrev pub marked_graph : (n : ℕ) → (links : List ℕ) → Graph
marked_graph n ts = graph n (links_from n ts 0 0)

-- ---- links put into a block

abbrev pub Place : (at : ℕ) → Type 0
Place at = (at % 4 ≡ 0) × (at ≤ 508)

-- of the links ls, the first `done` stand in the block from `from` on, up to `at`
pub record LinksPut (ls : List Link) (from : ℕ) (old new : List ℕ) (at : ℕ) (left : List Link) : Type 0 where
  pub done : ℕ
  pub long : done ≤ length ls
  pub place : at ≡ from + 4 * done
  pub within : at ≤ 508
  pub is : new ≡ sets old from (flat_map link_bytes (take done ls))
  pub rest : left ≡ drop done ls

abbrev pub Stopped : (at rest : ℕ) → Type 0
Stopped at rest = (rest ≡ 0) ⊎ ((at ≡ 508) × (rest < 2 ^ 64))

-- ---- cursors

unfoldable pub row_left : (links : List ℕ) → (row k first rest : ℕ) → List Link
row_left ts a k first rest = links_to a (set_bits 64 first rest ++ row_from ts a (k + 1))

unfoldable pub links_left : (n : ℕ) → (links : List ℕ) → (row k first rest : ℕ) → List Link
links_left n ts a k first rest = row_left ts a k first rest ++ links_from n ts (a + 1) 0

-- nothing is left of the row, or the block is full
abbrev pub RowStopped : (links : List ℕ) → (at row k first rest : ℕ) → Type 0
RowStopped ts at a k first rest = ((rest ≡ 0) × (row_left ts a k first rest ≡ [])) ⊎ ((rest ≡ 0 → ⊥) × ((at ≡ 508) × (rest < 2 ^ 64)))

abbrev pub RowThere : (a : ℕ) → (links : List ℕ) → Type 0
RowThere a ts = (a < max_radios) × (row_bytes * a + row_bytes ≤ length ts)

abbrev pub RowsThere : (n : ℕ) → (links : List ℕ) → Type 0
RowsThere n ts = (n ≤ max_radios) × (row_bytes * n ≤ length ts)

pub record Going (row a k first : ℕ) : Type 0 where
  pub same : row ≡ a
  pub low : k < 8
  pub small : first ≤ max_radios

-- the block is full and a link is left, or none is
pub record NextLink (n : ℕ) (links : List ℕ) (at row k first rest : ℕ) : Type 0 where
  pub low : k < 8
  pub small : first ≤ max_radios
  pub either : ((row < n) × (rest ≡ 0 → ⊥) × ((at ≡ 508) × (rest < 2 ^ 64))) ⊎ ((n ≤ row) × (links_left n links row k first rest ≡ []))

-- ---- blocks filled in

pub record LinksFilled (index : ℕ) (ls : List Link) (new : List ℕ) (at : ℕ) (left : List Link) : Type 0 where
  pub is : new ≡ block 2 index (flat_map link_bytes (take block_links ls))
  pub place : at ≡ 4 + 4 * min block_links (length ls)
  pub rest : left ≡ drop block_links ls

pub record LinksFit (first n : ℕ) (links : List ℕ) (bytes : ℕ) : Type 0 where
  pub rows : RowsThere n links
  pub low : 1 ≤ first
  pub small : first ≤ 4
  pub few : length (links_from n links 0 0) ≤ 10240
  pub fits : block_bytes * (first + blocks_for (length (links_from n links 0 0)) block_links) ≤ bytes

-- block j of the ones from block `first` on
unfoldable pub links_block : (first : ℕ) → (ls : List Link) → (j : ℕ) → List ℕ
links_block first ls j = block 2 j (links_payload ls (j - first))

pub record AllLinksFilled (first : ℕ) (ls : List Link) (start new : List ℕ) (blocks count : ℕ) : Type 0 where
  pub ended : blocks ≡ first + blocks_for (length ls) block_links
  pub counted : count ≡ length ls
  pub long : length new ≡ length start
  pub is :
      new ≡ take (block_bytes * first) start ++ (flat_map (links_block first ls) (range first (blocks_for (length ls) block_links))
      ++ drop (block_bytes * (first + blocks_for (length ls) block_links)) start)

unfoldable pub front_block : (n m : ℕ) → (order : List ℕ) → (i : ℕ) → List ℕ
front_block n m order zero = block 0 0 (word n ++ word m)
front_block n m order (suc j) = block 1 (suc j) (order_payload order j)
