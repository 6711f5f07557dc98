-- The turns of the peel, on the tables that they change: counters, one a radio, and the fitting places, a set of words.
--   end_counted up k ns v cs      the counters cs after the end v of the link got a neighbour or lost one, where v is of level k
--   ends_counted                  the same for both ends
--   counter_less ns k v cs        the counters after v lost a neighbour, where v is of level k
--   released ns k vs cs           the counters after each radio of vs did
--   place_marked ns ps k m v cs fs   the fitting places fs with the place of v, where v is of level k and its counter is m
--   places_released               the fitting places after each radio of vs lost a neighbour
--   places_fitting os cs m is fs  the fitting places fs with each of the places `is` whose radio has a counter of at most m
--   near_left ts v ws             the radios that row v of the links table ts marks and that are in the set ws, ascending
--   fits_linked a b m v c         v has at most m neighbours once the link a-b is up, where it has c without it
--   stays_linked a b m cs v       it has more, by the counters cs
--   Releasable                    listed radios that can lose a neighbour: no repeats, and counters of the level above 0
--   call_of                       a link call at its level, from its parts
--   BeginReady                   ends and places for the first turn
--   RowReady                     ends of the link a-b and their rows, and the row of v
--   NearReady                    the same, and room for the neighbours of v after the link a-b went up or down
--   ListsNeighbours ts v r xs    the first r entries of xs are the radios that row v of ts marks
-- Laws are in proofs/TurnLaws.antt. Definitions only.
use Rattle.std.specs.Prelude.{◌≡◌, ◌⊎◌, ◌&&◌, ◌||◌, ◌∷◌, ◌+◌, ◌*◌, ◌-◌, ◌≤◌, ◌<◌}
use Rattle.lists.specs.{Kit.{Bool, false, not, cond, List, [], ℕ, suc, min, leb, eqb, length, get_or}}
use Rattle.lists.specs.{Kit.{set, take}, Lists.{filter, In}, Facts.{Distinct}}
use Rattle.mesh.specs.{Limits.{max_radios, max_neighbours, row_bytes}, Tables.{put_link}}
use Rattle.rows.specs.{Rows.{neighbours_of}, Sets.{in_set}}
use Rattle.plan.specs.declared.turn.Call.{Call}
use Rattle.rows.specs.Sets.{put_in}

unfoldable pub end_counted : (up : Bool) → (k : ℕ) → (numbers : List ℕ) → (v : ℕ) → (counters : List ℕ) → List ℕ
end_counted up k ns v cs = cond (eqb (get_or ns v 0) k) (set cs v (cond up (get_or cs v 0 + 1) (get_or cs v 0 - 1))) cs

unfoldable pub ends_counted : (up : Bool) → (a b k : ℕ) → (numbers counters : List ℕ) → List ℕ
ends_counted up a b k ns cs = end_counted up k ns b (end_counted up k ns a cs)

unfoldable pub counter_less : (numbers : List ℕ) → (k v : ℕ) → (counters : List ℕ) → List ℕ
counter_less ns k v cs = cond (eqb (get_or ns v 0) k) (set cs v (get_or cs v 0 - 1)) cs

unfoldable pub released : (numbers : List ℕ) → (k : ℕ) → (near counters : List ℕ) → List ℕ
released ns k [] cs = cs
released ns k (v ∷ vs) cs = released ns k vs (counter_less ns k v cs)

unfoldable pub place_marked : (numbers places : List ℕ) → (k most v : ℕ) → (counters fits : List ℕ) → List ℕ
place_marked ns ps k m v cs fs = cond (eqb (get_or ns v 0) k && eqb (get_or cs v 0) m) (put_in (get_or ps v 0) fs) fs

unfoldable pub places_released : (numbers places : List ℕ) → (k most : ℕ) → (near counters fits : List ℕ) → List ℕ
places_released ns ps k m [] cs fs = fs
places_released ns ps k m (v ∷ vs) cs fs =
    let less = counter_less ns k v cs in places_released ns ps k m vs less (place_marked ns ps k m v less fs)

unfoldable pub places_fitting : (order counters : List ℕ) → (most : ℕ) → (places fits : List ℕ) → List ℕ
places_fitting os cs m [] fs = fs
places_fitting os cs m (i ∷ is) fs =
    places_fitting os cs m is (cond (leb (get_or cs (get_or os i 0) 0) m) (put_in i fs) fs)

unfoldable pub near_left : (links : List ℕ) → (v : ℕ) → (left : List ℕ) → List ℕ
near_left ts v ws = filter (in_set ws) (neighbours_of ts v)

unfoldable pub fits_linked : (a b most v count : ℕ) → Bool
fits_linked a b m v c = leb (c + cond (eqb v a || eqb v b) 1 0) m

unfoldable pub stays_linked : (a b most : ℕ) → (counters : List ℕ) → (v : ℕ) → Bool
stays_linked a b m cs v = not (fits_linked a b m v (get_or cs v 0))

pub record Releasable (numbers places : List ℕ) (k : ℕ) (near counters : List ℕ) : Type 0 where
  pub once : Distinct near
  pub known : (v : ℕ) → In v near → (v < length numbers) × (v < length places) × (v < length counters) × (v < max_radios)
  pub above_zero : (v : ℕ) → In v near → get_or numbers v 0 ≡ k → 1 ≤ get_or counters v 0

abbrev pub call_of : (up : Bool) → (a b level most : ℕ) → Call
call_of up a b level most = record { up = up; a = a; b = b; level = level; most = most }

pub record BeginReady (call : Call) (start size : ℕ) (numbers order counters : List ℕ) : Type 0 where
  pub differ : call.a ≡ call.b → ⊥
  pub known_a : (call.a < length numbers) × (call.a < max_radios)
  pub known_b : (call.b < length numbers) × (call.b < max_radios)
  pub above_zero : (v : ℕ) → (v ≡ call.a) ⊎ (v ≡ call.b) → call.up ≡ false → get_or numbers v 0 ≡ call.level → 1 ≤ get_or counters v 0
  pub small : (v : ℕ) → v < length numbers → get_or numbers v 0 ≡ call.level → get_or counters v 0 < 255
  pub fits : (start + size ≤ length order) × (start + size ≤ max_radios)
  pub radios : (p : ℕ) → p < length order → get_or order p 0 < max_radios

pub record RowReady (a b v : ℕ) (links : List ℕ) : Type 0 where
  pub differ : a ≡ b → ⊥
  pub radios : (a < max_radios) × (b < max_radios)
  pub rows : (row_bytes * a + row_bytes ≤ length links) × (row_bytes * b + row_bytes ≤ length links)
  pub row : row_bytes * v + row_bytes ≤ length links

pub record NearReady (up : Bool) (a b v : ℕ) (links : List ℕ) (near_room : ℕ) : Type 0 where
  pub ready : RowReady a b v links
  pub near_long : length (neighbours_of (put_link up a b links) v) ≤ min near_room (suc max_neighbours)

pub record ListsNeighbours (links : List ℕ) (v r : ℕ) (near : List ℕ) : Type 0 where
  pub counted : r ≡ length (neighbours_of links v)
  pub listed : take r near ≡ neighbours_of links v
