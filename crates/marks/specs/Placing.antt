-- A mark put into its place.
--   Markable n t x     the tables are sound ones of n radios whose image a place holds, and x is a name
--   mark_place n t x   the place of the name x and the image of the tables
--   put_place bs i p   the store bs with p as place i
-- Definitions only.
use Rattle.std.specs.Prelude.{◌≡◌, ◌++◌, ◌+◌, ◌*◌, ◌-◌}
use Rattle.lists.specs.Kit.{true, List, ℕ, take, drop}
use Rattle.mesh.specs.{Tables.{Tables, graph_in}, Sound.{sound}, Image.{image_of}, Marks.{name_bytes, place_bytes, is_name, place_of}}
use Rattle.calls.specs.{Questions.{lengths_of}, Chains.{write_refusal}}

pub record Markable (n : ℕ) (t : Tables) (x : List ℕ) : Type 0 where
  pub writable : write_refusal n (lengths_of t) (place_bytes - name_bytes) (sound n t) (graph_in n t.links) ≡ 0
  pub name : is_name x ≡ true

unfoldable pub mark_place : (n : ℕ) → Tables → (name : List ℕ) → List ℕ
mark_place n t x = place_of x (image_of (graph_in n t.links) t.order)

unfoldable pub put_place : (store : List ℕ) → (i : ℕ) → (place : List ℕ) → List ℕ
put_place bs i p = take (place_bytes * i) bs ++ (p ++ drop (place_bytes * i + place_bytes) bs)
