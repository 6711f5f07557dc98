-- The walk of a link going up by words, on the tables that it is lent and changes: sets of radios and of places, eight words each, and the
-- counters of the candidates.
--   words_due       the places of the part that the walk has to look at: before the front the places due, from it on the touched radios'
--   work            what the walk writes
--   WordsState     so many radios are taken, how far the front is, what is left, the candidates
--   WordsReach     such a state, by the code's structs
-- Laws are in proofs/WordTurns.antt. Definitions only.
use Rattle.std.specs.Prelude.{◌≡◌, ◌&&◌, ◌+◌, ◌-◌, ◌≤◌, ◌<◌}
use Rattle.lists.specs.{Kit.{Bool, true, not, cond, List, ℕ, ltb, length, get_or, take, drop}, Lists.{member}}
use Rattle.mesh.specs.Limits.{max_radios}
use Rattle.rows.specs.Sets.{in_set}
use Rattle.walks.specs.Walk.{Walking}
use Rattle.plan.specs.{Places.{MarkedPlaces}, Walks.{radios_of, joined}, declared.walk.Rise.{Rise}, declared.walk.Part.{Part}}
use Rattle.plan.specs.{declared.walk.Reached.{Reached}, declared.ground.Ground.{Ground}, declared.wide_walk.Work.{Work}}

unfoldable pub words_due : (first size front : ℕ) → (tail touched due : List ℕ) → (q : ℕ) → Bool
words_due first size front tail touched ds q = cond (ltb q front) (in_set ds (first + q)) (ltb q size && in_set touched (get_or tail q 0))

abbrev pub work : (left held touched due stay counters : List ℕ) → Work
work left held touched due stay counters =
    record { left = left; held = held; touched = touched; due = due; stay = stay; counters = counters }

pub record WordsState (rise : Rise) (part : Part) (links tail places : List ℕ) (front taken : ℕ) (w : Work) (list : List ℕ) : Type 0 where
  pub left_long : length w.left ≡ 8
  pub held_long : length w.held ≡ 8
  pub touched_long : length w.touched ≡ 8
  pub due_long : length w.due ≡ 8
  pub counters_long : radios_of part.first tail ≤ length w.counters
  pub room : length list ≡ max_radios
  pub passed : taken ≤ front
  pub left_is : (v : ℕ) → v < max_radios → in_set w.left v ≡ (member v tail && not (member v (take taken list)))
  pub behind : (p : ℕ) → in_set w.due p ≡ true → (part.first ≤ p) × (p < part.first + front)
  pub stays : MarkedPlaces part.first part.size tail (in_set w.held) w.stay
  pub walking :
      Walking (joined rise.a rise.b part.first links tail) rise.most (drop part.size tail) (take part.size tail)
      (λ v. get_or places v 0 - part.first) (take taken list) front (in_set w.held) (λ v. get_or w.counters v 0)
      (words_due part.first part.size front tail w.touched w.due)

-- as the code has it
abbrev pub WordsReach : Ground → Reached → Work → (list : List ℕ) → Type 0
WordsReach g at w list = WordsState g.rise g.part g.links.now g.tail.now g.places.now at.front at.taken w list
