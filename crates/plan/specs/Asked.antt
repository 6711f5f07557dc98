-- What a link call is decided to be: the refusal number of questions 1 to 7, and where it is 0 the plan. Definitions only.
use Rattle.std.specs.Prelude.{Result, Ok, Err, ◌≡◌}
use Rattle.lists.specs.Kit.{Bool, List, ℕ}
use Rattle.mesh.specs.{Tables.{Tables, graph_in}, Sound.{sound}}
use Rattle.calls.specs.Questions.{lengths_of}
use Rattle.calls.specs.Chains.{link_refusal}
use Rattle.calls.specs.declared.Refusal.{Refusal}
use Rattle.plan.specs.{Plans.{Planned, plan_of}, declared.planned.Plan.{Plan}}

-- the plan of an answer; where it is refused, nothing
abbrev pub plan_start : Result Plan Refusal → ℕ
plan_start (Ok x) = x.start
plan_start (Err r) = 0

abbrev pub plan_size : Result Plan Refusal → ℕ
plan_size (Ok x) = x.size
plan_size (Err r) = 0

abbrev pub plan_taken : Result Plan Refusal → ℕ
plan_taken (Ok x) = x.taken
plan_taken (Err r) = 0

-- `answer` is the length of the answer table, `before` and `stretch` are the lent stretch before and after; past the plan's entries it
-- holds anything
pub record PlanContract (up : Bool) (n a b : ℕ) (t : Tables) (answer : ℕ) (before : List ℕ) (r start size taken : ℕ) (stretch : List ℕ) : Type 0 where
  pub number : r ≡ link_refusal up n a b (lengths_of t) answer (sound n t) (graph_in n t.links)
  pub planned : r ≡ 0 → Planned up a b (graph_in n t.links) t.order (plan_of start size taken) stretch
  pub refused : (r ≡ 0 → ⊥) → (start ≡ 0) × (size ≡ 0) × (taken ≡ 0) × (stretch ≡ before)
