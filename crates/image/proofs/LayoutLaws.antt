-- Laws of the layout: how many blocks hold so many entries.
use Rattle.std.specs.Prelude.{◌≡◌, ◌+◌, ◌*◌, ◌-◌, ◌/◌, ◌%◌, ◌≤◌, ◌<◌}
use Rattle.lists.specs.Kit.{sym, ap, ◌∙◌, ℕ, div-add-mod, mod-lt, mul_comm, le-mul_of_pos_right, arith}
use lib.Arith.{digits_div}
use Rattle.mesh.specs.Image.{blocks_for}

module _ (x each : ℕ) (some : 0 < each) where
  -- x in whole blocks and a rest
  split : x ≡ x / each * each + x % each
  split = sym (div-add-mod x each) ∙ ap (λ (k : ℕ). k + x % each) (mul_comm each (x / each))

  pub blocks_even : x % each ≡ 0 → blocks_for x each ≡ x / each
  unfolding blocks_for
  blocks_even e =
      let whole : x + (each - 1) ≡ x / each * each + (each - 1) = omega (arith, split) in
      ap (λ (k : ℕ). k / each) whole ∙ digits_div (x / each) (omega arith)

  pub blocks_more : 0 < x % each → blocks_for x each ≡ x / each + 1
  unfolding blocks_for
  blocks_more h =
      let whole : x + (each - 1) ≡ (x / each + 1) * each + (x % each - 1) = omega (arith, split) in
      ap (λ (k : ℕ). k / each) whole ∙ digits_div (x / each + 1) (omega (arith, mod-lt x some))

  pub blocks_most : 0 < x % each → x / each + 1 ≤ x
  blocks_most h = omega (arith, split, le-mul_of_pos_right (x / each) some)
