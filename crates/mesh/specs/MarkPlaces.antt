-- Where a mark stands in its store, and places of a store moved: what the calls on marks work with.
--   rank x ps              how many places of the front have names that stand before x: where x stands or is to stand
--   heads x ps             the first of the places has the name x
--   moved_up, moved_down   bytes of a store moved one place up or down
-- Laws are in proofs/Marks/. Definitions only.
use Rattle.std.specs.Prelude.{◌∷◌, ◌++◌, ◌+◌, ◌-◌}
use Rattle.lists.specs.{Kit.{Bool, false, cond, List, [], ℕ, suc, take, drop}, Lists.{same}}
use Rattle.mesh.specs.Marks.{place_bytes, before, name_in}

-- ---- where a name stands

-- by their order: how many stand before x, as far as they do without a break
unfoldable pub rank : (name : List ℕ) → List (List ℕ) → ℕ
rank x [] = 0
rank x (p ∷ ps) = let rest = rank x ps in cond (before (name_in p) x) (suc rest) 0

unfoldable pub heads : (name : List ℕ) → List (List ℕ) → Bool
heads x [] = false
heads x (p ∷ ps) = same (name_in p) x

-- ---- bytes moved within the store

-- what stood from `from` on, to before `to`, stands one place higher; the place at `from` keeps its content
unfoldable pub moved_up : (store : List ℕ) → (from to : ℕ) → List ℕ
moved_up bs from to = take (from + place_bytes) bs ++ (take (to - from) (drop from bs) ++ drop (to + place_bytes) bs)

-- what stood from `from` on, to before `to`, stands one place lower; the place before `to` keeps its content
unfoldable pub moved_down : (store : List ℕ) → (from to : ℕ) → List ℕ
moved_down bs from to = take (from - place_bytes) bs ++ (take (to - from) (drop from bs) ++ drop (to - place_bytes) bs)
