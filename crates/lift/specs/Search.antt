-- The search over pairs, by lower and then higher radio.
--   is_free            v may be an end of a pair that lifts a radio of level k: its number is not below, and it has room for a neighbour
--   SearchPlaces      the places of the radios in the order of sound tables
--   later_than         how many of some radios stand later than a place
--   place_in           where a radio stands, by the table of places
--   is_tight           v is of level k, has exactly k later neighbours and stands no later than r
--   may_lift           the pair a, c may lift a radio of level k, where a may be an end: its first end in the order is tight
--   HigherEnd         the lowest radio above a whose pair with a lifts r, or none
--   PairFound         the first pair that lifts r, or none
-- Definitions only.
use Rattle.std.specs.Prelude.{Option, None, Some, ◌≡◌, ◌&&◌, ◌/◌, ◌<◌}
use Rattle.lists.specs.{Kit.{Bool, true, false, not, List, [], ℕ, ltb, leb, eqb, length, get_or}, Lists.{count}}
use Rattle.mesh.specs.{Limits.{max_neighbours, row_bytes}, Graph.{link_of}, Tables.{tables, marked}}
use Rattle.calls.specs.Lift.{lifts, lifting, first_pair, is_lifted}
use Rattle.calls.specs.declared.Ends.{Ends}
use Rattle.rows.specs.{Rows.{neighbours_of, row_count}, Sets.{in_set}}
use Rattle.conditions.specs.Conditions.{Placed, later_count}
use Rattle.soundness.specs.Checks.{fits_sound}
use Rattle.lifting.specs.Tight.{first_end}
use Rattle.lift.specs.{Counters.{room_left}, Peels.{graph_of}}

unfoldable pub is_free : (k : ℕ) → (links numbers : List ℕ) → (v : ℕ) → Bool
is_free k ts ns v = leb k (get_or ns v 0) && room_left (row_count max_neighbours ts v)

-- the order is the one of the tables
pub record SearchPlaces (links numbers places : List ℕ) : Type 0 where
  pub order : List ℕ
  pub is_sound : fits_sound (length links / row_bytes) (tables links numbers order) ≡ true
  pub placed : Placed (length links / row_bytes) order places

-- how many of some radios stand later than a place
unfoldable pub later_than : (place : ℕ) → (places radios : List ℕ) → ℕ
later_than p ps xs = count (λ b. ltb p (get_or ps b 0)) xs

abbrev pub place_in : (places : List ℕ) → (v : ℕ) → ℕ
place_in ps v = get_or ps v 0

unfoldable pub is_tight : (k r : ℕ) → (links numbers places : List ℕ) → (v : ℕ) → Bool
is_tight k r ts ns ps v = eqb (get_or ns v 0) k && (leb (place_in ps v) (place_in ps r) && eqb (later_count ps v (neighbours_of ts v)) k)

unfoldable pub may_lift : (a : ℕ) → (links places free tight : List ℕ) → (c : ℕ) → Bool
may_lift a ts ps fs ks c = ltb a c && (in_set fs c && (in_set ks (first_end (place_in ps) a c) && not (marked ts a c)))

abbrev pub HigherEnd : (links : List ℕ) → (r a : ℕ) → Option ℕ → Type 0
HigherEnd links r a None = (c : ℕ) → a < c → c < (graph_of links).n → lifts (graph_of links) r (link_of a c) ≡ false
HigherEnd links r a (Some b) =
    (a < b) × (b < (graph_of links).n) × (lifts (graph_of links) r (link_of a b) ≡ true) ×
    ((c : ℕ) → a < c → c < b → lifts (graph_of links) r (link_of a c) ≡ false)

abbrev pub PairFound : (links : List ℕ) → (r : ℕ) → Option Ends → Type 0
PairFound links r None = lifting (graph_of links) r ≡ []
PairFound links r (Some e) = (is_lifted (lifting (graph_of links) r) ≡ true) × (first_pair (lifting (graph_of links) r) ≡ link_of e.low e.high)
