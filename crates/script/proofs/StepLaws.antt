-- Laws of a step's size and of its text.
use Rattle.std.specs.Prelude.{◌≡◌, ◌∷◌, ◌+◌, ◌-ℤ◌}
use Rattle.lists.{specs.Kit.{refl, sym, ap, ◌∙◌, subst, true, false, ℕ, zero, suc, arith, T, ℤ, pos, negsuc, nat_abs, ltb-true}}
use Rattle.lists.{proofs.Tests.{never}}
use mir.{Syntax.{w8, w16, w64}, Val.{Fits, SFits, to_z, of_z}, Facts.{to_z-of_z, Fits-nat_abs}}
use lib.Signed.{lt_z, non_neg}
use Rattle.text.specs.Text.{decimal}
use Rattle.calls.specs.Replay.{step_text}

-- ---- size

fits_wide : (z : ℤ) → SFits w8 z → SFits w16 z
fits_wide (pos n) s = record { sfits = omega (arith, s.sfits) }
fits_wide (negsuc n) s = record { sfits = omega (arith, s.sfits) }

fits_size : (z : ℤ) → SFits w8 z → SFits w16 (pos (nat_abs z))
fits_size (pos n) s = record { sfits = omega (arith, s.sfits) }
fits_size (negsuc n) s = record { sfits = omega (arith, s.sfits) }

negated : (z : ℤ) → lt_z z (pos 0) ≡ true → pos 0 -ℤ z ≡ pos (nat_abs z)
negated (pos n) h = absurd (omega (arith, ltb-true n 0 h))
negated (negsuc n) h = let e : 0 + suc n ≡ suc n = omega arith in ap pos e

not_negative : (z : ℤ) → lt_z z (pos 0) ≡ false → T (non_neg z)
not_negative (pos n) h = tt
not_negative (negsuc n) h = never true refl h

-- a step, as the code keeps it in eight bits and in sixteen
module _ (z : ℤ) (s : SFits w8 z) where
  pub wide_fits : SFits w16 (to_z w8 (of_z w8 z))
  wide_fits = subst (λ (y : ℤ). SFits w16 y) (sym (to_z-of_z s)) (fits_wide z s)

  wide_is : to_z w16 (of_z w16 (to_z w8 (of_z w8 z))) ≡ z
  wide_is = to_z-of_z wide_fits ∙ to_z-of_z s

  pub size_plus : lt_z (to_z w8 (of_z w8 z)) (pos 0) ≡ false → T (non_neg (to_z w8 (of_z w8 z))) × Fits w64 (nat_abs (to_z w8 (of_z w8 z)))
  size_plus h =
      (not_negative (to_z w8 (of_z w8 z)) h, subst (λ (y : ℤ). Fits w64 (nat_abs y)) (sym (to_z-of_z s)) (Fits-nat_abs {w = w8} tt s))

  module _ (h : lt_z (to_z w8 (of_z w8 z)) (pos 0) ≡ true) where
    minus_is : pos 0 -ℤ to_z w16 (of_z w16 (to_z w8 (of_z w8 z))) ≡ pos (nat_abs z)
    minus_is = rw (wide_is) (negated z (rw (to_z-of_z s) at h))

    pub minus_fits : SFits w16 (pos 0 -ℤ to_z w16 (of_z w16 (to_z w8 (of_z w8 z))))
    minus_fits = subst (λ (y : ℤ). SFits w16 y) (sym minus_is) (fits_size z s)

    minus_read : to_z w16 (of_z w16 (pos 0 -ℤ to_z w16 (of_z w16 (to_z w8 (of_z w8 z))))) ≡ pos (nat_abs z)
    minus_read = to_z-of_z minus_fits ∙ minus_is

    pub size_minus : T (non_neg (to_z w16 (of_z w16 (pos 0 -ℤ to_z w16 (of_z w16 (to_z w8 (of_z w8 z)))))))
        × Fits w64 (nat_abs (to_z w16 (of_z w16 (pos 0 -ℤ to_z w16 (of_z w16 (to_z w8 (of_z w8 z)))))))
    size_minus =
        subst (λ (y : ℤ). T (non_neg y) × Fits w64 (nat_abs y)) (sym minus_read) (tt, Fits-nat_abs {w = w8} tt s)

    pub size_minus_is : nat_abs (to_z w16 (of_z w16 (pos 0 -ℤ to_z w16 (of_z w16 (to_z w8 (of_z w8 z)))))) ≡ nat_abs z
    size_minus_is = ap nat_abs minus_read

-- ---- text

minus : (z : ℤ) → lt_z z (pos 0) ≡ true → 45 ∷ decimal (nat_abs z) ≡ step_text z
unfolding step_text
minus (pos n) h = absurd (omega (arith, ltb-true n 0 h))
minus (negsuc n) h = refl

plus : (z : ℤ) → lt_z z (pos 0) ≡ false → (nat_abs z ≡ 0 → ⊥) → 43 ∷ decimal (nat_abs z) ≡ step_text z
unfolding step_text
plus (pos zero) h n = absurd (n refl)
plus (pos (suc x)) h n = refl
plus (negsuc x) h n = never true refl h

nothing : (z : ℤ) → nat_abs z ≡ 0 → decimal (nat_abs z) ≡ step_text z
unfolding step_text
nothing (pos zero) h = refl
nothing (pos (suc n)) h = absurd (omega arith)
nothing (negsuc n) h = absurd (omega arith)

-- a step, as the code keeps it, and its size
module _ (z : ℤ) (s : SFits w8 z) (size : ℕ) (e : size ≡ nat_abs (to_z w8 (of_z w8 z))) where
  size_is : size ≡ nat_abs z
  size_is = e ∙ ap nat_abs (to_z-of_z s)

  pub step_text_minus : lt_z (to_z w8 (of_z w8 z)) (pos 0) ≡ true → 45 ∷ decimal size ≡ step_text z
  step_text_minus h = rw size_is (minus z (rw (to_z-of_z s) at h))

  pub step_text_zero : size ≡ 0 → decimal size ≡ step_text z
  step_text_zero h = rw size_is (nothing z (sym size_is ∙ h))

  pub step_text_plus : lt_z (to_z w8 (of_z w8 z)) (pos 0) ≡ false → (size ≡ 0 → ⊥) → 43 ∷ decimal size ≡ step_text z
  step_text_plus h n = rw size_is (plus z (rw (to_z-of_z s) at h) (λ q. n (size_is ∙ q)))
