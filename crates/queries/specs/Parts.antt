-- Connected parts, taken in turn. The backbone and the rest of the radios are sets of eight words.
--   part_greatest ns xs   the greatest number of the radios xs
--   top_put, tops_put     the set with a radio, or with each of some radios, that has number k
--   part_put ns xs s      the set with the radios of xs that have their greatest number, where that is not 0
--   PartTaken            the part of a radio: flooded, and its radios with the greatest number put into the set
--   PartVisited          a radio: its part is taken where it is among the rest, and else nothing changes
--   BackbonePut          a set that is the backbone, for sound tables
-- Definitions only.
use Rattle.std.specs.Prelude.{◌≡◌}
use Rattle.lists.specs.{Kit.{true, false, cond, List, map, ℕ, eqb, length, get_or, take}, Facts.{folded}}
use Rattle.mesh.specs.{Tables.{tables, graph_in}, Connected.{greatest, backbone}}
use Rattle.rows.specs.Sets.{in_set, put_in, members}
use Rattle.soundness.specs.Checks.{fits_sound}
use Rattle.floods.specs.Floods.{FloodDone}

-- ---- the radios of a part

unfoldable pub part_greatest : (numbers radios : List ℕ) → ℕ
part_greatest ns xs = greatest (map (λ w. get_or ns w 0) xs)

unfoldable pub top_put : (numbers : List ℕ) → (k w : ℕ) → (set : List ℕ) → List ℕ
top_put ns k w s = cond (eqb (get_or ns w 0) k) (put_in w s) s

unfoldable pub tops_put : (numbers : List ℕ) → (k : ℕ) → (radios set : List ℕ) → List ℕ
tops_put ns k xs s = folded (top_put ns k) xs s

unfoldable pub part_put : (numbers radios set : List ℕ) → List ℕ
part_put ns xs s = let top = part_greatest ns xs in cond (eqb top 0) s (tops_put ns top xs s)

-- ---- parts in turn

-- `rest` has the radios whose parts are not taken yet, t and u are it and the set after
pub record PartTaken (ts ns : List ℕ) (v : ℕ) (rest set t u : List ℕ) : Type 0 where
  pub came : ℕ
  pub queue_after : List ℕ
  pub flooded : FloodDone ts v rest came t queue_after
  pub put : u ≡ part_put ns (take came queue_after) set

pub record PartVisited (ts ns : List ℕ) (v : ℕ) (rest set t u : List ℕ) : Type 0 where
  pub taken : in_set rest v ≡ true → PartTaken ts ns v rest set t u
  pub passed : in_set rest v ≡ false → (t ≡ rest) × (u ≡ set)

unfoldable pub BackbonePut : (links numbers set : List ℕ) → Type 0
BackbonePut ts ns s =
    (order : List ℕ) → fits_sound (length ns) (tables ts ns order) ≡ true → members s ≡ backbone (graph_in (length ns) ts)
