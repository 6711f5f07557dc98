-- The walk of a link going up, on the tables that it is lent and changes: the order from the beginning end's place on, the candidates (one
-- byte a radio, 1 for a candidate) and their places, a set of words, their counters, and the places due, a set of words too.
--   is_left k p ns ps hs w       w counts for a radio at place p of level k: it is above, stands later in the level, or is a candidate
--   is_later k p ns ps w         w stands in level k, later than place p
--   place_touched k p ns ps w ds   the places due ds with the place of w, where w stands later
--   places_touched               the same for each of the listed radios
--   Begins                       where a link going up begins: its lower end's level, and the place of the beginning end
--   Known                        listed radios that have an entry in tables of these lengths
--   rise_of, part_of             a link going up, and the part that is walked, from their numbers
--   WalkSite                    what the walk is made from
--   candidates                   the candidates, their counters, the places due, the candidates' places
--   WalkState                   so many radios are taken, how far the front is, and what is written so far
--   Sited, Reaches               what the walk is made from, and a state of it, by the code's structs
--   WalkDone                    what the walk comes back with
-- Laws are in proofs/WalkLoops.antt, proofs/WalkTables.antt and proofs/WalkTurns.antt. Definitions only.
use Rattle.std.specs.Prelude.{◌≡◌, ◌⊎◌, ◌&&◌, ◌||◌, ◌++◌, ◌+◌, ◌*◌, ◌-◌, ◌≤◌, ◌<◌}
use Rattle.lists.specs.{Kit.{Bool, true, false, cond, List, [], ℕ, min, ltb, eqb, length, get_or, take}}
use Rattle.lists.specs.{Kit.{drop}, Facts.{folded, Distinct}, Lists.{In}}
use Rattle.mesh.specs.{Limits.{max_radios, max_neighbours, row_bytes}, Tables.{marked, put_link}, Peel.{Peels}}
use Rattle.rows.specs.Rows.{neighbours_of}
use Rattle.walks.specs.Walk.{FewFront, Walking}
use Rattle.plan.specs.{Places.{beginning_end, MarkedPlaces}, Peels.{linked_after}, declared.walk.Rise.{Rise}, declared.walk.Part.{Part}}
use Rattle.plan.specs.{declared.walk.Reached.{Reached}, declared.ground.Ground.{Ground}, declared.walk.Candidates.{Candidates}}
use Rattle.rows.specs.Sets.{in_set, put_in}

unfoldable pub is_left : (k p : ℕ) → (numbers places held : List ℕ) → (w : ℕ) → Bool
is_left k p ns ps hs w = cond (eqb (get_or ns w 0) k) (ltb p (get_or ps w 0) || eqb (get_or hs w 0) 1) (ltb k (get_or ns w 0))

unfoldable pub is_later : (k p : ℕ) → (numbers places : List ℕ) → (w : ℕ) → Bool
is_later k p ns ps w = eqb (get_or ns w 0) k && ltb p (get_or ps w 0)

unfoldable pub place_touched : (k p : ℕ) → (numbers places : List ℕ) → (w : ℕ) → (due : List ℕ) → List ℕ
place_touched k p ns ps w ds = cond (is_later k p ns ps w) (put_in (get_or ps w 0) ds) ds

unfoldable pub places_touched : (k p : ℕ) → (numbers places near due : List ℕ) → List ℕ
places_touched k p ns ps vs ds = folded (place_touched k p ns ps) vs ds

pub record Begins (a b k first : ℕ) (numbers places : List ℕ) : Type 0 where
  pub level : k ≡ min (get_or numbers a 0) (get_or numbers b 0)
  pub place : first ≡ get_or places (beginning_end a b numbers places) 0

abbrev pub Known : (numbers places held : ℕ) → (near : List ℕ) → Type 0
Known ns ps hs near = (v : ℕ) → In v near → (v < ns) × (v < ps) × (v < hs)

-- ---- the part: `size` entries of `tail`, which is the order from place `first` on

abbrev pub radios_of : (first : ℕ) → (tail : List ℕ) → ℕ
radios_of first tail = first + length tail

-- neighbours after the call
abbrev pub joined : (a b first : ℕ) → (links tail : List ℕ) → (v w : ℕ) → Bool
joined a b first ts tail v w = linked_after true a b (radios_of first tail) ts v w

abbrev pub rise_of : (a b most : ℕ) → Rise
rise_of a b most = record { a = a; b = b; most = most }

abbrev pub part_of : (first size : ℕ) → Part
part_of first size = record { first = first; size = size }

-- of radios of other levels, `places` holds anything
pub record WalkSite (rise : Rise) (part : Part) (links numbers tail places : List ℕ) : Type 0 where
  pub small : radios_of part.first tail ≤ max_radios
  pub numbers_length : length numbers ≡ radios_of part.first tail
  pub places_length : radios_of part.first tail ≤ length places
  pub links_length : length links ≡ row_bytes * radios_of part.first tail
  pub some : 0 < part.size
  pub fits : part.size ≤ length tail
  pub distinct : Distinct tail
  pub radios : (v : ℕ) → In v tail → v < radios_of part.first tail
  pub placed : (i : ℕ) → i < part.size → get_or places (get_or tail i 0) 0 ≡ part.first + i
  pub numbered : (v : ℕ) → In v (take part.size tail) → get_or numbers v 0 ≡ rise.most
  pub stands : (v : ℕ) → v < radios_of part.first tail → get_or numbers v 0 ≡ rise.most → part.first ≤ get_or places v 0 → In v (take part.size tail)
  pub higher : (v : ℕ) → In v (drop part.size tail) → rise.most < get_or numbers v 0
  pub above_all : (v : ℕ) → v < radios_of part.first tail → rise.most < get_or numbers v 0 → In v (drop part.size tail)
  pub differ : rise.a ≡ rise.b → ⊥
  pub ends : (rise.a < radios_of part.first tail) × (rise.b < radios_of part.first tail)
  pub within : (v w : ℕ) → joined rise.a rise.b part.first links tail v w ≡ true → w < radios_of part.first tail
  pub irreflexive : (v : ℕ) → joined rise.a rise.b part.first links tail v v ≡ false
  pub symmetric : (v w : ℕ) → joined rise.a rise.b part.first links tail v w ≡ joined rise.a rise.b part.first links tail w v
  pub row_is : (v w : ℕ) → v < radios_of part.first tail → w < max_radios
      → marked (put_link true rise.a rise.b links) v w ≡ joined rise.a rise.b part.first links tail v w
  pub row_few : (v : ℕ) → v < radios_of part.first tail → length (neighbours_of (put_link true rise.a rise.b links) v) ≤ max_neighbours
  pub few : FewFront (joined rise.a rise.b part.first links tail) rise.most (drop part.size tail) (drop 1 (take part.size tail)) []

abbrev pub candidates : (held counters due stay : List ℕ) → Candidates
candidates held counters due stay = record { held = held; counters = counters; due = due; stay = stay }

pub record WalkState (rise : Rise) (part : Part) (links tail places : List ℕ) (front taken : ℕ) (w : Candidates) (list : List ℕ) : Type 0 where
  pub held_long : radios_of part.first tail ≤ length w.held
  pub counters_long : radios_of part.first tail ≤ length w.counters
  pub due_long : length w.due ≡ 8
  pub room : length list ≡ max_radios
  pub passed : taken ≤ front
  pub low : (p : ℕ) → in_set w.due p ≡ true → part.first ≤ p
  pub stays : MarkedPlaces part.first part.size tail (λ v. eqb (get_or w.held v 0) 1) w.stay
  pub walking :
      Walking (joined rise.a rise.b part.first links tail) rise.most (drop part.size tail) (take part.size tail)
      (λ v. get_or places v 0 - part.first) (take taken list) front
      (λ v. eqb (get_or w.held v 0) 1) (λ v. get_or w.counters v 0) (λ q. in_set w.due (part.first + q))

-- as the code has them
abbrev pub Sited : Ground → (numbers : List ℕ) → Type 0
Sited g ns = WalkSite g.rise g.part g.links.now ns g.tail.now g.places.now

abbrev pub Reaches : Ground → Reached → Candidates → (list : List ℕ) → Type 0
Reaches g at w list = WalkState g.rise g.part g.links.now g.tail.now g.places.now at.front at.taken w list

-- the first `front` entries of the list are the part's, laid out anew; the first `taken` of them were taken, the others rise
pub record WalkDone (rise : Rise) (part : Part) (links tail : List ℕ) (front taken : ℕ) (list : List ℕ) : Type 0 where
  pub room : length list ≡ max_radios
  pub passed : taken ≤ front
  pub fits : front ≤ part.size
  pub either : (taken ≡ front) ⊎ (front ≡ part.size)
  pub peels :
      Peels (joined rise.a rise.b part.first links tail) rise.most (drop part.size tail) (take part.size tail)
      (take taken list ++ drop front (take part.size tail))
      (drop taken (take front list))
