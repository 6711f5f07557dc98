-- `checks::check_sum` meets its contract: whole runs and what is left of a block; all bytes of less than a block.
use Rattle.std.specs.Prelude.{◌≡◌}
use Rattle.lists.{specs.Kit.{refl, ap, ◌∙◌, ℕ, min, arith, length, take}, proofs.Parts.{take_min}}
use Rattle.mesh.specs.Image.{check_sum, weighted_sum}
use Rattle.image.proofs.checks.check_sum.Goals as goal

pub check_rest-requires : goal.check_rest-requires
unfolding check_sum weighted_sum
check_rest-requires c = (omega arith, omega arith, omega arith, refl)

pub returns-then-block-lt-BODY : goal.returns-then-block-lt-BODY
returns-then-block-lt-BODY c =
    let e : length c.args.block.now ≡ min 508 (length c.args.block.now) = omega (arith, c.if-block-lt-BODY.true) in
    c.check_rest.ensures ∙ ap (λ (k : ℕ). check_sum (take k c.args.block.now)) e ∙ ap check_sum (take_min 508 c.args.block.now)
