-- The soundness check, row by row.
--   ends_mark                each of some radios marks a too
--   HighestWords            the highest word of each word of a row
--   Tally                    what is counted of some ends of a row
--   SoundRadio, EndsRoom, WalkRoom, RowsRoom   what private functions of src/lib.rt want of the tables that they read
--   Placing, PlacesFound, Tallied, Walked, EndsCounted, LaterCounted, RowChecked, RowsChecked, Held, Asked
--                            what the functions of src/lib.rt come back with
--   nowhere                  a place that no entry of an order has
--   Sizes                    questions 1 and 2 get yes, and the lent tables of places and not-lower counts are long enough
--   fits_sound               questions 1 to 3 get yes
--   SoundSite               what sound tables say of the graph that they mark
-- The conditions on a row that they speak of are in crate row_conditions. Definitions only.
use Rattle.std.specs.Prelude.{◌≡◌, ◌&&◌, ◌+◌, ◌*◌, ◌%◌, ◌≤◌, ◌<◌}
use Rattle.lists.specs.{Kit.{Bool, true, List, [], ℕ, min, leb, length, get_or}, Lists.{range, all, head_or}}
use Rattle.mesh.specs.{Limits.{max_radios, max_neighbours, row_bytes}, Orders.{each_once, later_in, nobody}, Tables.{Tables, marked, graph_in}, Graph.{linked}}
use Rattle.mesh.specs.{Cores.{numbers}, Sound.{symmetric, irreflexive, within, few, sound}}
use Rattle.calls.specs.Questions.{Lengths, lengths_of, size_good, site_lengths, site_refusal}
use Rattle.std.specs.Prelude.{Option, None, Some}
use Rattle.soundness.specs.declared.{Walk.{Walk}, Ends.{Ends}}
use Rattle.rows.specs.Rows.{neighbours_of}
use Rattle.conditions.specs.Conditions.{Placed, NotLower, later_count, first_key, high_count, ends_good, row_good, highest_word}

unfoldable pub ends_mark : (links : List ℕ) → (a : ℕ) → (radios : List ℕ) → Bool
ends_mark ts a xs = all (λ b. marked ts b a) xs

-- questions 1 to 3 get yes of links, numbers and order
unfoldable pub fits_sound : (n : ℕ) → Tables → Bool
fits_sound n t = size_good n && (site_lengths n (lengths_of t) && sound n t)

-- ---- what the functions of the check come back with

-- a place that no entry of an order has
abbrev pub nowhere : ℕ
nowhere = 65535

-- whether each radio stands once in the order, and then the places
pub record Placing (order before after : List ℕ) (r : Bool) : Type 0 where
  pub answer : r ≡ each_once (length order) order
  pub placed : r ≡ true → Placed (length order) order after
  pub long : length after ≡ length before

-- whether there is room for the order and each radio stands once in it, and then the places
pub record PlacesFound (order before after : List ℕ) (r : Bool) : Type 0 where
  pub answer : r ≡ (leb (length order) (min max_radios (length before)) && each_once (length order) order)
  pub placed : r ≡ true → Placed (length order) order after

-- the highest words of a site of n radios, one for each word of a row
pub record HighestWords (n : ℕ) (words : List ℕ) : Type 0 where
  pub at : (k : ℕ) → k < 8 → get_or words k 0 ≡ highest_word n (64 * k)

-- what is counted of some ends of a row: how many, how many later, how many not below, and the key of the first later one
pub record Tally : Type 0 where
  pub count : ℕ
  pub later : ℕ
  pub high : ℕ
  pub key : ℕ

abbrev pub tally : (count later high key : ℕ) → Tally
tally c l h k = record { count = c; later = l; high = h; key = k }

-- the ends `left` counted to t come to what the ends `whole` counted to s come to
pub record Tallied (numbers places : List ℕ) (a : ℕ) (s : Tally) (whole left : List ℕ) (t : Tally) : Type 0 where
  pub count_is : t.count + length left ≡ s.count + length whole
  pub later_is : t.later + later_count places a left ≡ s.later + later_count places a whole
  pub high_is : t.high + high_count numbers a left ≡ s.high + high_count numbers a whole
  pub first_is : min t.key (first_key places a left) ≡ min s.key (first_key places a whole)
  pub few_later : t.later ≤ t.count
  pub few_high : t.high ≤ t.count
  pub few_key : t.key ≤ 4294967295

-- what a walk over a word comes back with: where an end does not mark its radio, nothing
abbrev pub walk_tally : Option Walk → Tally
walk_tally None = tally 0 0 0 0
walk_tally (Some w) = tally w.count w.later w.high w.key

-- and the walk over a row
abbrev pub ends_later : Option Ends → ℕ
ends_later None = 0
ends_later (Some e) = e.later

abbrev pub ends_high : Option Ends → ℕ
ends_high None = 0
ends_high (Some e) = e.high

abbrev pub ends_first : Option Ends → ℕ
ends_first None = 0
ends_first (Some e) = e.first

abbrev pub byte_or_zero : Option ℕ → ℕ
byte_or_zero None = 0
byte_or_zero (Some x) = x

-- whether the radios xs mark a, and then what they and s come to
pub record Walked (links numbers places : List ℕ) (a : ℕ) (s : Tally) (xs : List ℕ) (good : Bool) (t : Tally) : Type 0 where
  pub answer : good ≡ ends_mark links a xs
  pub tallied : good ≡ true → Tallied numbers places a s xs [] t

-- whether row a marks no more radios than it may and they are good ends, and then how many are later and the first of them, and how many are not below
pub record EndsCounted (n : ℕ) (links numbers places : List ℕ) (a : ℕ) (good : Bool) (later high first : ℕ) : Type 0 where
  pub answer : good ≡ (leb (length (neighbours_of links a)) max_neighbours && ends_good n links a (neighbours_of links a))
  pub later_is : good ≡ true → later ≡ later_count places a (neighbours_of links a)
  pub first_is : good ≡ true → first ≡ first_key places a (neighbours_of links a) % 65536
  pub high_is : good ≡ true → high ≡ high_count numbers a (neighbours_of links a)

-- sound tables and a radio of theirs
pub record SoundRadio (n v : ℕ) (t : Tables) : Type 0 where
  pub is_sound : fits_sound n t ≡ true
  pub radio : v < n

-- how many neighbours of v stand after it in the order, and the first of them
pub record LaterCounted (n v : ℕ) (t : Tables) (later first : ℕ) : Type 0 where
  pub later_is : later ≡ length (later_in (linked (graph_in n t.links)) v t.order)
  pub first_is : first ≡ head_or nobody (later_in (linked (graph_in n t.links)) v t.order)

-- what counting the ends of a row wants of the lengths of the tables it reads
pub record EndsRoom (a links numbers places : ℕ) : Type 0 where
  pub linked : links ≡ row_bytes * numbers
  pub placed : numbers ≤ places
  pub radio : a < numbers
  pub small : numbers ≤ max_radios

-- what counting the ends of a word wants of its first radio and of what is counted before
pub record WalkRoom (first : ℕ) (t : Tally) : Type 0 where
  pub start : first ≤ max_radios
  pub few : t.count ≤ max_neighbours
  pub few_later : t.later ≤ t.count
  pub few_high : t.high ≤ t.count
  pub few_key : t.key ≤ 4294967295

-- what checking rows wants of the lengths of the tables that it reads
pub record RowsRoom (n links numbers places : ℕ) : Type 0 where
  pub linked : links ≡ row_bytes * n
  pub numbered : numbers ≡ n
  pub placed : n ≤ places
  pub small : n ≤ max_radios

-- whether row a is good, and then the high count of a
pub record RowChecked (n : ℕ) (links numbers places : List ℕ) (a : ℕ) (good : Bool) (high : ℕ) : Type 0 where
  pub answer : good ≡ row_good max_neighbours n links numbers places a
  pub high_is : good ≡ true → high ≡ high_count numbers a (neighbours_of links a)

-- whether all rows are good, and then the high counts
pub record RowsChecked (n : ℕ) (links numbers places before after : List ℕ) (r : Bool) : Type 0 where
  pub answer : r ≡ all (row_good max_neighbours n links numbers places) (range 0 n)
  pub counts : r ≡ true → NotLower n links numbers after
  pub long : length after ≡ length before

-- ---- questions 1 to 3

-- questions 1 and 2 got yes, and the tables of places and of not-lower counts, p and h entries long, have one for each radio
pub record Sizes (n : ℕ) (l : Lengths) (p h : ℕ) : Type 0 where
  pub small : n ≤ max_radios
  pub linked : l.links ≡ row_bytes * n
  pub numbered : l.numbers ≡ n
  pub ordered : l.order ≡ n
  pub places : n ≤ p
  pub counts : n ≤ h

-- whether the tables are sound, and then the places and the not-lower counts
pub record Held (n : ℕ) (t : Tables) (places not_lower : List ℕ) (r : Bool) : Type 0 where
  pub answer : r ≡ sound n t
  pub placed : r ≡ true → Placed n t.order places
  pub counts : r ≡ true → NotLower n t.links t.numbers not_lower

-- the number of questions 1 to 3, and at 0 the places and the not-lower counts
pub record Asked (n : ℕ) (t : Tables) (others : Bool) (places not_lower : List ℕ) (q : ℕ) : Type 0 where
  pub number : q ≡ site_refusal n (lengths_of t) others (sound n t) 0
  pub placed : q ≡ 0 → Placed n t.order places
  pub counts : q ≡ 0 → NotLower n t.links t.numbers not_lower

-- ---- sound tables

pub record SoundSite (n : ℕ) (t : Tables) : Type 0 where
  pub small : n ≤ max_radios
  pub links_long : length t.links ≡ row_bytes * n
  pub numbers_long : length t.numbers ≡ n
  pub symmetric : symmetric n t.links ≡ true
  pub irreflexive : irreflexive n t.links ≡ true
  pub within : within n t.links ≡ true
  pub few : few max_neighbours n t.links ≡ true
  pub numbers : t.numbers ≡ numbers (graph_in n t.links)
