-- A link taken up or down on tables that are known to be sound: what the check finds is kept from link to link.
--   Prepared         questions 1 to 3 get yes of the tables, and places and not-lower counts of every radio are at hand
--   StepReady       the same, and questions 4 to 7 of a link get yes
--   ChangedBy       the tables that the link leaves, the radios that it changed, and the part of the order outside of which nothing moved
--   places_put       the places of the radios that stand at some places of the order, put into the table of places
--   Carried          the tables that it leaves, prepared again
--   Stepped          the number of questions 4 to 7, and the tables after them, prepared again
--   around ts v      the radio v and its neighbours
--   all_around       some radios and their neighbours
--   Joined           a set with some radios put in
--   touched          both ends, the changed radios and their neighbours, ascending: the radios whose not_lower count may differ
--   recounted        the not-lower counts, some radios counted anew
--   RowsKnown       rows that can be counted
-- Laws are in proofs/CountLaws.antt and proofs/StepLaws.antt. Definitions only.
use Rattle.std.specs.Prelude.{◌≡◌, ◌⊎◌, ◌||◌, ◌∷◌, ◌++◌, ◌+◌, ◌*◌, ◌≤◌, ◌<◌}
use Rattle.lists.specs.{Kit.{Bool, true, List, [], ℕ, eqb, length, get_or, set, take}, Facts.{folded}}
use Rattle.lists.specs.{Lists.{range, filter, member, In}}
use Rattle.mesh.specs.{Limits.{max_radios, max_neighbours, row_bytes}, Levels.{changed}, Tables.{Tables, graph_in}}
use Rattle.calls.specs.{Questions.{ends_refusal}, Switches.{switch, switched}}
use Rattle.rows.specs.{Rows.{neighbours_of}, Sets.{in_set}}
use Rattle.conditions.specs.Conditions.{Placed, NotLower, high_count}
use Rattle.soundness.specs.Checks.{fits_sound}

-- ---- one link

-- places and not_lower have room for as many radios as a site may have
pub record Prepared (n : ℕ) (t : Tables) (places not_lower : List ℕ) : Type 0 where
  pub good : fits_sound n t ≡ true
  pub places_length : length places ≡ max_radios
  pub not_lower_length : length not_lower ≡ max_radios
  pub placed : Placed n t.order places
  pub counted : NotLower n t.links t.numbers not_lower

pub record StepReady (up : Bool) (n a b : ℕ) (t : Tables) (places not_lower : List ℕ) : Type 0 where
  pub prepared : Prepared n t places not_lower
  pub asked : ends_refusal max_neighbours up n a b (graph_in n t.links) ≡ 0

-- t and v are the tables before and after; the first `count` entries of `list` are the changed radios, and the order is another at most at
-- `size` places from `start` on
pub record ChangedBy (up : Bool) (n a b : ℕ) (t v : Tables) (count : ℕ) (list : List ℕ) (start size : ℕ) : Type 0 where
  pub tables : v ≡ switched n (switch up a b) t
  pub counted : count ≡ length (changed up a b (graph_in n t.links))
  pub listed : take count list ≡ changed up a b (graph_in n t.links)
  pub part_fits : start + size ≤ n
  pub unmoved : (p : ℕ) → (p < start) ⊎ (start + size ≤ p) → get_or v.order p 0 ≡ get_or t.order p 0

unfoldable pub places_put : (order spots places : List ℕ) → List ℕ
places_put os is ps = folded (λ p now. set now (get_or os p 0) p) is ps

pub record Carried (up : Bool) (n a b : ℕ) (t v : Tables) (places not_lower : List ℕ) : Type 0 where
  pub tables : v ≡ switched n (switch up a b) t
  pub prepared : Prepared n v places not_lower

-- refused, every table keeps its content
pub record Stepped (up : Bool) (n a b : ℕ) (t : Tables) (r : ℕ) (v : Tables) (places not_lower : List ℕ) : Type 0 where
  pub number : r ≡ ends_refusal max_neighbours up n a b (graph_in n t.links)
  pub done : r ≡ 0 → v ≡ switched n (switch up a b) t
  pub refused : (r ≡ 0 → ⊥) → v ≡ t
  pub prepared : Prepared n v places not_lower

-- ---- not-lower counts

abbrev pub around : (links : List ℕ) → (v : ℕ) → List ℕ
around ts v = v ∷ neighbours_of ts v

unfoldable pub all_around : (links radios : List ℕ) → List ℕ
all_around ts [] = []
all_around ts (v ∷ vs) = around ts v ++ all_around ts vs

-- ws before, us after
pub record Joined (radios ws us : List ℕ) : Type 0 where
  pub has : (w : ℕ) → in_set us w ≡ (in_set ws w || member w radios)

unfoldable pub touched : (a b : ℕ) → (changed links : List ℕ) → List ℕ
touched a b cs ts = filter (λ w. eqb b w || (eqb a w || member w (all_around ts cs))) (range 0 max_radios)

unfoldable pub recounted : (links numbers radios not_lower : List ℕ) → List ℕ
recounted ts ns vs hs = folded (λ v now. set now v (high_count ns v (neighbours_of ts v))) vs hs

-- rows of n radios, each with as many neighbours as a radio may have, and all of them radios
pub record RowsKnown (n : ℕ) (links numbers : List ℕ) : Type 0 where
  pub small : n ≤ max_radios
  pub links_length : length links ≡ row_bytes * n
  pub numbers_length : length numbers ≡ n
  pub few : (v : ℕ) → v < n → length (neighbours_of links v) ≤ max_neighbours
  pub radios : (v w : ℕ) → v < n → In w (neighbours_of links v) → w < n
