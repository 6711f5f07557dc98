-- A pair tried: what its functions do to the counters and to the set of untried radios.
--   SearchSite        sound tables and the not-lower counts that the check found
--   counter_start      the counter of v before the peel
--   Started            the counters before the peel
--   SearchNumbers     sound tables, for what reads no counts
--   ruled_out          the pair of a and c does not lift the radio: c had too few neighbours when it was taken, or the radio was taken and c not
--   RuledOut          the untried radios without the ones ruled out
--   Trying             untried are higher ends of candidates, and no other pair of a lifts r
--   Settling           counters that a peel with the untried radios held begins with
--   SettledAt         such a peel is done: the untried radios stay, and b is the lowest
--   Settled            what the peel with all untried radios held comes back with
--   Tried              what trying a pair comes back with
-- Definitions only.
use Rattle.std.specs.Prelude.{Option, None, Some, ◌≡◌, ◌&&◌, ◌/◌, ◌<◌}
use Rattle.lists.specs.{Kit.{Bool, true, false, not, cond, List, ℕ, ltb, leb, eqb, length, get_or}, Lists.{count, range}}
use Rattle.mesh.specs.{Limits.{max_radios, row_bytes}, Graph.{link_of, neighbours_in}, Cores.{number}, Tables.{tables}}
use Rattle.calls.specs.Lift.{lifts}
use Rattle.soundness.specs.Checks.{fits_sound}
use Rattle.lifting.specs.{Peeling.{stays}, Search.{candidate, Untried}}
use Rattle.rows.specs.Sets.{in_set}
use Rattle.lift.specs.{Counters.{rules_out}, Peels.{graph_of, Kept, Base}}

-- the order is the one of the tables
pub record SearchSite (links numbers not_lower : List ℕ) : Type 0 where
  pub order : List ℕ
  pub is_sound : fits_sound (length links / row_bytes) (tables links numbers order) ≡ true
  pub counted : (v : ℕ) → v < length numbers → get_or not_lower v 0 ≡ neighbours_in (graph_of links) v (λ w. leb (get_or numbers v 0) (get_or numbers w 0))

-- not_lower are counts that the check found
pub record SearchNumbers (links numbers : List ℕ) : Type 0 where
  pub not_lower : List ℕ
  pub site : SearchSite links numbers not_lower

unfoldable pub counter_start : (k : ℕ) → (numbers not_lower : List ℕ) → (v : ℕ) → ℕ
counter_start k ns hs v = cond (ltb v (length ns) && eqb (get_or ns v 0) k) (get_or hs v 0) 255

abbrev pub Started : (k : ℕ) → (numbers not_lower counters : List ℕ) → Type 0
Started k ns hs cs = (v : ℕ) → v < max_radios → get_or cs v 255 ≡ counter_start k ns hs v

-- `gone` is whether no pair whose other end stays lifts the radio
unfoldable pub ruled_out : (k : ℕ) → (gone : Bool) → (numbers counters : List ℕ) → (c : ℕ) → Bool
ruled_out k gone ns cs c = rules_out k gone (get_or ns c 0) (get_or cs c 255)

-- old before, new after
abbrev pub RuledOut : (k : ℕ) → (gone : Bool) → (numbers counters old new : List ℕ) → Type 0
RuledOut k gone ns cs old new = (c : ℕ) → c < max_radios → in_set new c ≡ (in_set old c && not (ltb c (length ns) && ruled_out k gone ns cs c))

pub record Trying (links : List ℕ) (r a : ℕ) (untried : List ℕ) : Type 0 where
  pub candidates :
      (c : ℕ) → c < max_radios → in_set untried c ≡ true →
      (a < c) × (c < (graph_of links).n) × (candidate (graph_of links) (number (graph_of links) r) a c ≡ true)
  pub rest : Untried (graph_of links) r a (in_set untried)

pub record Settling (links : List ℕ) (k a r : ℕ) (untried cs : List ℕ) : Type 0 where
  pub base : Base links k a r cs
  pub kept : Kept links untried k cs

pub record SettledAt (links : List ℕ) (k r a : ℕ) (untried cs : List ℕ) (b : ℕ) : Type 0 where
  pub trying : Trying links r a untried
  pub base : Base links k a r cs
  pub stay : (c : ℕ) → c < max_radios → in_set untried c ≡ true → stays (graph_of links) k cs c ≡ true
  pub small : b < max_radios
  pub there : in_set untried b ≡ true
  pub lowest : (c : ℕ) → c < b → in_set untried c ≡ false

-- none where no pair of a lifts r
abbrev pub Settled : (links : List ℕ) → (k r a : ℕ) → (untried cs : List ℕ) → Option ℕ → Type 0
Settled links k r a untried cs None = (c : ℕ) → a < c → c < (graph_of links).n → lifts (graph_of links) r (link_of a c) ≡ false
Settled links k r a untried cs (Some b) = SettledAt links k r a untried cs b

-- old before, new after
pub record Tried (links : List ℕ) (r a b : ℕ) (old new : List ℕ) (found : Bool) : Type 0 where
  pub does : found ≡ true → lifts (graph_of links) r (link_of a b) ≡ true
  pub next : found ≡ false → Trying links r a new
  pub still : found ≡ false → (c : ℕ) → c < max_radios → in_set new c ≡ true → in_set old c ≡ true
  pub fewer : found ≡ false → count (in_set new) (range 0 max_radios) < count (in_set old) (range 0 max_radios)
