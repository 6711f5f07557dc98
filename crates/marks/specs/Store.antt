-- The store as its loops pass over it.
--   last_name bs i    the name of the place before place i, nothing for the first
--   Counted bs k      how many places are used
--   Located bs x used rank there   how many places are used, how many names stand before x, and whether the next is x
--   SpotFound bs x r    so it is with the spot r, if one is found
-- Definitions only.
use Rattle.std.specs.Prelude.{Result, Ok, Err, ◌≡◌, ◌≤◌, ◌<◌}
use Rattle.lists.specs.Kit.{Bool, true, List, [], ℕ, zero, suc, length, drop}
use Rattle.calls.specs.declared.Refusal.{Refusal}
use Rattle.mesh.specs.{Marks.{places, store_bytes, name_at, marks_in}, MarkPlaces.{rank, heads}}
use Rattle.marks.specs.declared.store.Spot.{Spot}

unfoldable pub last_name : (store : List ℕ) → (i : ℕ) → List ℕ
last_name bs zero = []
last_name bs (suc j) = name_at bs j

-- k of the places of a store are used
pub record Counted (bs : List ℕ) (k : ℕ) : Type 0 where
  pub long : length bs ≡ store_bytes
  pub counted : k ≡ length (marks_in bs)
  pub few : k ≤ places

pub record Located (bs x : List ℕ) (used first : ℕ) (there : Bool) : Type 0 where
  pub long : length bs ≡ store_bytes
  pub few : used ≤ places
  pub low : first ≤ used
  pub less : there ≡ true → first < used
  pub counted : used ≡ length (marks_in bs)
  pub ranked : first ≡ rank x (marks_in bs)
  pub found : there ≡ heads x (drop (rank x (marks_in bs)) (marks_in bs))

abbrev pub SpotFound : (bs x : List ℕ) → Result Spot Refusal → Type 0
SpotFound bs x (Err r) = Unit {0}
SpotFound bs x (Ok s) = Located bs x s.used s.rank s.there
