-- What a caller has after a call on named marks (property 2), in document 02's words. The proofs are in proofs/MarkCalls.antt.
--   StoreRight     a store of full length that keeps the rules
--   SetRight       after setting: the name's mark is the image of the tables
--   RemovedRight   after removing: the name is gone
--   SameMark       what the store has of a name is as it was, byte for byte
-- Definitions only.
use Rattle.std.specs.Prelude.{◌≡◌, ◌+◌}
use Rattle.lists.specs.Kit.{true, false, cond, List, ℕ, suc, length}
use Rattle.mesh.specs.{Tables.{Tables, graph_in}, Image.{image_of}, Marks.{store_bytes, is_store, StoreRules, marks_in, found}}
use Rattle.calls.specs.Marks.{is_marked, mark_image}

-- document 02, W-211
pub record StoreRight (n : ℕ) (store : List ℕ) : Type 0 where
  pub long : length store ≡ store_bytes
  pub good : is_store n store ≡ true
  pub rules : StoreRules n store

-- document 02, W-211: bs and cs are the store before and after
pub record SetRight (n : ℕ) (x : List ℕ) (t : Tables) (bs cs : List ℕ) : Type 0 where
  pub store : StoreRight n cs
  pub there : is_marked x cs ≡ true
  pub image : mark_image n x cs ≡ image_of (graph_in n t.links) t.order
  -- one name more, or as many where the name was there
  pub count : length (marks_in cs) + cond (is_marked x bs) 1 0 ≡ suc (length (marks_in bs))

-- document 02, W-211
pub record RemovedRight (n : ℕ) (x bs cs : List ℕ) : Type 0 where
  pub store : StoreRight n cs
  pub gone : is_marked x cs ≡ false
  -- one name less
  pub count : suc (length (marks_in cs)) ≡ length (marks_in bs)

-- document 02, W-211
pub record SameMark (y bs cs : List ℕ) : Type 0 where
  pub there : is_marked y cs ≡ is_marked y bs
  pub place : found y (marks_in cs) ≡ found y (marks_in bs)
