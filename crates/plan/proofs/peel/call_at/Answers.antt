-- `peel::call_at` meets its contract: going up the bound is the level, going down one less, and the level is then above 0.
use Rattle.std.specs.Prelude.{◌-◌}
use Rattle.lists.specs.Kit.{refl, ap, ◌∙◌, ℕ, arith}
use Rattle.plan.proofs.{BeginLaws.{bound_up, bound_down}}
use Rattle.plan.proofs.peel.call_at.Goals as goal

pub returns-then-up : goal.returns-then-up
returns-then-up c = (refl, refl, refl, c.lower-level.ensures, c.lower-level.ensures ∙ bound_up _ _ c.if-up.true)

pub overflow_sub-result : goal.overflow_sub-result
overflow_sub-result c = omega (arith, c.lower-level.ensures, c.requires.2 c.if-up.false)

pub returns : goal.returns
returns c = (refl, refl, refl, c.lower-level.ensures, ap (λ (x : ℕ). x - 1) c.lower-level.ensures ∙ bound_down _ _ c.if-up.false)
