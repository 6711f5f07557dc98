-- The peel of a level: what its functions do to the counters and to the set of radios that are due.
--   graph_of links     the graph that a links table marks, of as many radios as it has rows
--   SoundLinks        the links table of sound tables
--   is_due             v is to be taken: its counter is at most the level, it is not a, and if it is held the counter is below the level
--   Has                of the radios below n, a set has exactly those that pass a test
--   Due                a set has exactly the radios that are to be taken
--   Lowered            some radios, where they are left, have one less, and are due where they are then to be taken
--   gone_of            r is taken, or a has fewer neighbours that stay than the level: no pair of a whose other end stays lifts r
--   Kept               a held radio stays, or was taken with fewer neighbours than the level
--   EarlyDue          a radio that is due, if one is found
--   NextDue           the radio to take next, of a set of radios that are due: any, or none where there is none
--   PeelState         a peel on its way
--   Base               counters of a peel with r left and enough neighbours of a
--   PeelBegin         what a peel begins with
--   PeelEnd           what the peel comes back with
-- Definitions only.
use Rattle.std.specs.Prelude.{Option, None, Some, ◌≡◌, ◌⊎◌, ◌&&◌, ◌||◌, ◌+◌, ◌-◌, ◌/◌, ◌≤◌, ◌<◌}
use Rattle.lists.specs.{Kit.{Bool, true, false, not, cond, List, ℕ, ltb, leb, eqb, length, get_or}, Lists.{member}}
use Rattle.mesh.specs.{Limits.{max_radios, row_bytes}, Graph.{Graph}, Tables.{tables, graph_in}}
use Rattle.rows.specs.Sets.{in_set}
use Rattle.soundness.specs.Checks.{fits_sound}
use Rattle.lifting.specs.Peeling.{left, stays, Peeling}

abbrev pub graph_of : (links : List ℕ) → Graph
graph_of ts = graph_in (length ts / row_bytes) ts

-- numbers and order are the ones of the tables
pub record SoundLinks (links : List ℕ) : Type 0 where
  pub numbers : List ℕ
  pub order : List ℕ
  pub is_sound : fits_sound (length links / row_bytes) (tables links numbers order) ≡ true

unfoldable pub is_due : (k a : ℕ) → (held counters : List ℕ) → (v : ℕ) → Bool
is_due k a held cs v = leb (get_or cs v 255) k && (not (eqb v a) && (ltb (get_or cs v 255) k || not (in_set held v)))

abbrev pub Has : (n : ℕ) → (test : ℕ → Bool) → (set : List ℕ) → Type 0
Has n f set = (v : ℕ) → v < max_radios → in_set set v ≡ (ltb v n && f v)

abbrev pub Due : (k a : ℕ) → (held counters due : List ℕ) → Type 0
Due k a held cs due = (v : ℕ) → v < max_radios → in_set due v ≡ is_due k a held cs v

-- cs and due are counters and set before, ds and new after; xs are the radios
pub record Lowered (k a : ℕ) (held xs cs due ds new : List ℕ) : Type 0 where
  pub long : length ds ≡ length cs
  pub counter_after : (w : ℕ) → get_or ds w 255 ≡ cond (left cs w && member w xs) (get_or cs w 255 - 1) (get_or cs w 255)
  pub due_after : (w : ℕ) → w < max_radios → in_set new w ≡ (in_set due w || ((left cs w && member w xs) && is_due k a held ds w))

unfoldable pub gone_of : (k a r : ℕ) → (counters : List ℕ) → Bool
gone_of k a r cs = not (left cs r) || ltb (get_or cs a 255) k

abbrev pub Kept : (links held : List ℕ) → (k : ℕ) → (counters : List ℕ) → Type 0
Kept links held k cs =
    (w : ℕ) → w < max_radios → in_set held w ≡ true →
    (stays (graph_of links) k cs w ≡ true) ⊎ ((128 ≤ get_or cs w 255) × (get_or cs w 255 < 128 + k))

abbrev pub EarlyDue : (due : List ℕ) → Option ℕ → Type 0
EarlyDue due None = Unit {0}
EarlyDue due (Some v) = (v < max_radios) × (in_set due v ≡ true)

abbrev pub NextDue : (due : List ℕ) → Option ℕ → Type 0
NextDue due None = (w : ℕ) → w < max_radios → in_set due w ≡ false
NextDue due (Some v) = (v < max_radios) × (in_set due v ≡ true)

-- stay is a set that has every radio that is left
pub record PeelState (links held : List ℕ) (k a : ℕ) (stay cs due : List ℕ) : Type 0 where
  pub peeling : Peeling (graph_of links) k a cs
  pub low : k < 128
  pub long : length cs ≡ max_radios
  pub due_is : Due k a held cs due
  pub kept : Kept links held k cs
  pub stay_has : (w : ℕ) → left cs w ≡ true → in_set stay w ≡ true

pub record Base (links : List ℕ) (k a r : ℕ) (cs : List ℕ) : Type 0 where
  pub peeling : Peeling (graph_of links) k a cs
  pub low : k < 128
  pub long : length cs ≡ max_radios
  pub there : left cs r ≡ true
  pub fits : k ≤ get_or cs a 255

-- b is the radio whose end ends the peel
pub record PeelBegin (links held : List ℕ) (k a r b : ℕ) (cs : List ℕ) : Type 0 where
  pub base : Base links k a r cs
  pub kept : Kept links held k cs
  pub stop_there : left cs b ≡ true

-- `whole` is whether none is due: then what is left, but for a, has at least k neighbours that stay, and more where it is not held
pub record PeelEnd (links held : List ℕ) (k a r b : ℕ) (cs : List ℕ) (whole : Bool) : Type 0 where
  pub peeling : Peeling (graph_of links) k a cs
  pub long : length cs ≡ max_radios
  pub kept : Kept links held k cs
  pub base : whole ≡ true → Base links k a r cs
  pub stop_left : whole ≡ true → left cs b ≡ true
  pub held_fit : whole ≡ true → (w : ℕ) → left cs w ≡ true → (w ≡ a → ⊥) → k ≤ get_or cs w 255
  pub full : whole ≡ true → (w : ℕ) → left cs w ≡ true → (w ≡ a → ⊥) → in_set held w ≡ false → k < get_or cs w 255
  pub ended : whole ≡ false → (gone_of k a r cs ≡ true) ⊎ (left cs b ≡ false)
