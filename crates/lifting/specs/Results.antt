-- What a caller has of the answer (document 02, W-212). g is the graph in the tables, l the pair given.
--   IsPair g l        two radios, the lower one first
--   FirstLift g r l   l lifts r, and no pair before it does
--   NoLift g r        no pair lifts r
--   Raises g v l       with the link l, which a link call would take up now, the core number of v by the largest group is greater
--   LiftRight         l is the first pair that lifts v; it raises v; taking it up is accepted and lists v
-- That they hold is `lift_core`, `lift_accepted`, `lift_right` in proofs/Answers.antt. Definitions only.
use Rattle.std.specs.Prelude.{◌≡◌, ◌≤◌, ◌<◌}
use Rattle.lists.specs.{Kit.{true, false, List, ℕ, length, take}, Lists.{In}}
use Rattle.mesh.specs.{Limits.{max_neighbours}, Graph.{Link, Graph, link_before, relinked, Allowed}, Cores.{Core}, Tables.{Tables, graph_in}}
use Rattle.calls.specs.{Outcomes.{link_outcome}, Lift.{lifts}}

-- ---- pairs that lift a radio

-- a pair: two radios, the lower one first
abbrev pub IsPair : Graph → Link → Type 0
IsPair g l = (l.low < l.high) × (l.high < g.n)

-- "the first pair, by lower radio and then higher"
pub record FirstLift (g : Graph) (r : ℕ) (l : Link) : Type 0 where
  pub is_pair : IsPair g l
  pub does : lifts g r l ≡ true
  pub none_before : (m : Link) → IsPair g m → link_before m l ≡ true → lifts g r m ≡ false

-- "no such pair exists"
abbrev pub NoLift : Graph → (r : ℕ) → Type 0
NoLift g r = (m : Link) → IsPair g m → lifts g r m ≡ false

-- ---- the pair that is given

-- "whose link is down, would be accepted now, and would raise that radio's core number by the largest-group definition"
pub record Raises (g : Graph) (v : ℕ) (l : Link) : Type 0 where
  pub allowed : Allowed max_neighbours true l.low l.high g
  pub before : ℕ
  pub after : ℕ
  pub core_before : Core g v before
  pub core_after : Core (relinked true l.low l.high g) v after
  pub greater : before < after

-- what the pair given is worth
pub record LiftRight (n v : ℕ) (t : Tables) (l : Link) : Type 0 where
  pub first : FirstLift (graph_in n t.links) v l
  pub raises : Raises (graph_in n t.links) v l
  -- a link call that takes it up is accepted and lists v; w is the answer table before, long enough
  pub listed :
      (w : List ℕ) → n ≤ length w → let o = link_outcome true n l.low l.high t w in
      (o.reply.number ≡ 0) × In v (take o.reply.count o.lent)
