-- A proposal held against a plan.
--   plan_proposes   step and list are what the plan would change
-- Definitions only.
use Rattle.std.specs.Prelude.{◌&&◌}
use Rattle.lists.specs.{Kit.{Bool, List, ℕ, ℤ, length}, Lists.{same}}
use Rattle.calls.specs.Questions.{same_step}
use Rattle.plan.specs.Planned.{changed_part}
use Rattle.links.specs.Changes.{in_order, counted_step}

unfoldable pub plan_proposes : (up : Bool) → (size taken : ℕ) → (stretch : List ℕ) → (step : ℤ) → (list : List ℕ) → Bool
plan_proposes up size taken stretch z xs =
    let cs = in_order (changed_part up taken size stretch) in same_step z (counted_step up (length cs)) && same xs cs
