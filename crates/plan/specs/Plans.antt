-- A planned link call: what becomes of the lower end's stretch of the order, and which radios change. Nothing is written yet.
--   Ready          what a plan is made from: sound tables, a call that is allowed, places and not-lower counts of the lower end's level
--   ReadyOf        the same of tables alone, whose order is as long as there are radios
--   plan_of        a plan from its numbers
--   Planned        what a plan says
--   PlannedOf      the same of tables alone
--   Applicable     what a plan is applied to: a valid site with its core numbers, a call that is allowed, room for the answer
-- Definitions only.
use Rattle.std.specs.Prelude.{◌≡◌, ◌+◌, ◌*◌, ◌≤◌, ◌<◌}
use Rattle.lists.specs.{Kit.{Bool, true, List, ℕ, leb, length, get_or, paste}, Lists.{member}}
use Rattle.mesh.specs.{Limits.{max_radios, max_neighbours, row_bytes}, Graph.{Graph, neighbours_in, Allowed}, Cores.{number, numbers}, Levels.{changed}}
use Rattle.mesh.specs.{Levels.{lower_level, stretch_start, stretch_length, new_order}, Tables.{Tables, graph_in}, Sound.{sound}, Valid.{Valid}}
use Rattle.plan.specs.{Planned.{changed_part}, declared.planned.Plan.{Plan}}

-- places and not_lower have where each radio of the lower end's level stands, and how many neighbours it has that are not below it; of
-- other radios they hold anything. The soundness check finds them for all radios.
pub record Ready (up : Bool) (n a b : ℕ) (t : Tables) (places not_lower : List ℕ) : Type 0 where
  pub small : n ≤ max_radios
  pub links_length : length t.links ≡ row_bytes * n
  pub numbers_length : length t.numbers ≡ n
  pub order_length : length t.order ≡ n
  pub is_sound : sound n t ≡ true
  pub allowed : Allowed max_neighbours up a b (graph_in n t.links)
  pub places_length : n ≤ length places
  pub not_lower_length : n ≤ length not_lower
  pub placed :
      (i : ℕ) → i < n → stretch_start (graph_in n t.links) (lower_level (graph_in n t.links) a b) ≤ i →
      i < stretch_start (graph_in n t.links) (lower_level (graph_in n t.links) a b)
      + stretch_length (graph_in n t.links) (lower_level (graph_in n t.links) a b) →
      get_or places (get_or t.order i 0) 0 ≡ i
  pub counted :
      (v : ℕ) → v < n → number (graph_in n t.links) v ≡ lower_level (graph_in n t.links) a b →
      get_or not_lower v 0
      ≡ neighbours_in (graph_in n t.links) v (λ w. leb (number (graph_in n t.links) v) (number (graph_in n t.links) w))

-- a plan is made from these tables
abbrev pub ReadyOf : (up : Bool) → (a b : ℕ) → Tables → (places not_lower : List ℕ) → Type 0
ReadyOf up a b t places not_lower = Ready up (length t.order) a b t places not_lower

abbrev pub plan_of : (start size taken : ℕ) → Plan
plan_of start size taken = record { start = start; size = size; taken = taken }

-- the first `size` entries of `stretch` stand in the order from `start` on after; the first `taken` of them were taken by the peel. They
-- are the whole stretch of the lower end's level, or as much of it as a walk went through
pub record Planned (up : Bool) (a b : ℕ) (g : Graph) (order : List ℕ) (plan : Plan) (stretch : List ℕ) : Type 0 where
  pub fits : plan.start + plan.size ≤ g.n
  pub room : length stretch ≡ max_radios
  pub long : plan.size ≤ length stretch
  pub taken_fits : plan.taken ≤ plan.size
  pub laid : paste order plan.start stretch plan.size ≡ new_order up a b g order
  pub changed_is : (v : ℕ) → v < g.n → member v (changed up a b g) ≡ member v (changed_part up plan.taken plan.size stretch)
  pub radios : (i : ℕ) → i < plan.size → get_or stretch i 0 < g.n

-- a plan says it of these tables
abbrev pub PlannedOf : (up : Bool) → (a b : ℕ) → Tables → Plan → (stretch : List ℕ) → Type 0
PlannedOf up a b t plan stretch = Planned up a b (graph_in (length t.order) t.links) t.order plan stretch

pub record Applicable (up : Bool) (n a b : ℕ) (t : Tables) (answer : List ℕ) : Type 0 where
  pub small : n ≤ max_radios
  pub valid : Valid max_neighbours (graph_in n t.links) t.order
  pub numbered : t.numbers ≡ numbers (graph_in n t.links)
  pub allowed : Allowed max_neighbours up a b (graph_in n t.links)
  pub room : n ≤ length answer
