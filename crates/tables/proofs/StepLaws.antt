-- Laws of the signed step. The sum is made in 16 bits, where it is exact; what the code hands out is the sum held between
-- 0 and 255. Then laws of numbers stepped one after the other.
use Rattle.std.specs.Prelude.{◌≡◌, ◌∷◌, ◌-◌, ◌≤◌, ◌<◌, ◌+ℤ◌}
use Rattle.lists.{specs.Kit.{refl, sym, ap, ap₂, ◌∙◌, subst, inl, inr, Bool, true, false, cond, List, [], ℕ, suc, min, arith, T, ltb}}
use Rattle.lists.{specs.Kit.{ℤ, pos, negsuc, nat_abs, length, get_or, length-set, get_or-set_same, get_or-set_other, ltb-true, ltb-false}}
use Rattle.lists.{proofs.Loops.{length_folded}, specs.Facts.{folded, Distinct}, specs.Lists.{In}, proofs.Tests.{never}}
use mir.{Syntax.{w8, w16}, Val.{Fits, SFits, to_z, of_z}, Facts.{to_z-of_z, to_z_pos, sfits_widen}}
use lib.Signed.{lt_z, non_neg}
use Rattle.tables.specs.Steps.{stepped, step_at, all_stepped}

-- ---- a sum held between 0 and 255

abbrev pub held : ℤ → ℕ
held (pos n) = min 255 n
held (negsuc n) = 0

-- what the code's two tests say
pub held_below : (y : ℤ) → lt_z y (pos 0) ≡ true → held y ≡ 0
held_below (pos n) h = absurd (omega (arith, ltb-true n 0 h))
held_below (negsuc n) h = refl

pub held_above : (y : ℤ) → lt_z (pos 255) y ≡ true → held y ≡ 255
held_above (pos n) h = omega (arith, ltb-true 255 n h)
held_above (negsuc n) h = never false h refl

pub record Byte (y : ℤ) : Type 0 where
  pub cast : T (non_neg y) × Fits w8 (nat_abs y)
  pub is : nat_abs y ≡ held y

pub held_within : (y : ℤ) → lt_z y (pos 0) ≡ false → lt_z (pos 255) y ≡ false → Byte y
held_within (pos n) h l =
    let k : n ≤ 255 = ltb-false 255 n l in record { cast = (tt, record { fits = omega arith }); is = omega arith }
held_within (negsuc n) h l = never true refl h

-- a sum with a negative step, by whether it falls below 0
sum_down : (x k : ℕ) → (t : Bool) → ltb x (suc k) ≡ t → x < 256 → held (cond t (negsuc (suc k - suc x)) (pos (x - suc k))) ≡ x - suc k
sum_down x k true e h = let l : x < suc k = ltb-true x (suc k) e in omega arith
sum_down x k false e h = omega arith

fits_down : (x k : ℕ) → (t : Bool) → x < 256 → k < 128 → SFits w16 (cond t (negsuc (suc k - suc x)) (pos (x - suc k)))
fits_down x k true h l = record { sfits = omega arith }
fits_down x k false h l = record { sfits = omega arith }

pub held_sum : (x : ℕ) (z : ℤ) → x < 256 → held (pos x +ℤ z) ≡ stepped x z
unfolding stepped
held_sum x (pos k) h = refl
held_sum x (negsuc k) h = sum_down x k (ltb x (suc k)) refl h

fits_sum : (x : ℕ) (z : ℤ) → x < 256 → SFits w8 z → SFits w16 (pos x +ℤ z)
fits_sum x (pos k) h f = record { sfits = omega (arith, f.sfits) }
fits_sum x (negsuc k) h f = fits_down x k (ltb x (suc k)) h (omega (arith, f.sfits))

-- ---- the sum of the code

-- x and the step z widened to 16 bits
abbrev pub wide_sum : (x : ℕ) → (z : ℤ) → ℤ
wide_sum x z = to_z w16 x +ℤ to_z w16 (of_z w16 (to_z w8 (of_z w8 z)))

-- their sum, stored and read back
abbrev pub sum_of : (x : ℕ) → (z : ℤ) → ℤ
sum_of x z = to_z w16 (of_z w16 (wide_sum x z))

module _ (x : ℕ) (z : ℤ) (small : x < 256) (fits : SFits w8 z) where
  pub step_wide : SFits w16 (to_z w8 (of_z w8 z))
  step_wide = rw (to_z-of_z fits) (sfits_widen {w = w8} {w' = w16} tt fits)

  wide_exact : wide_sum x z ≡ pos x +ℤ z
  wide_exact = ap₂ (λ (a b : ℤ). a +ℤ b) (to_z_pos w16 (omega arith)) (to_z-of_z step_wide ∙ to_z-of_z fits)

  pub sum_fits : SFits w16 (wide_sum x z)
  sum_fits = subst (λ (y : ℤ). SFits w16 y) (sym wide_exact) (fits_sum x z small fits)

  pub held_exact : held (sum_of x z) ≡ stepped x z
  held_exact = ap held (to_z-of_z sum_fits ∙ wide_exact) ∙ held_sum x z small

  -- what comes back, by the code's two tests
  pub sum_below : lt_z (sum_of x z) (pos 0) ≡ true → 0 ≡ stepped x z
  sum_below h = sym (held_below (sum_of x z) h) ∙ held_exact

  pub sum_above : lt_z (pos 255) (sum_of x z) ≡ true → 255 ≡ stepped x z
  sum_above h = sym (held_above (sum_of x z) h) ∙ held_exact

  pub sum_within : lt_z (sum_of x z) (pos 0) ≡ false → lt_z (pos 255) (sum_of x z) ≡ false → nat_abs (sum_of x z) ≡ stepped x z
  sum_within h l = (held_within (sum_of x z) h l).is ∙ held_exact

-- ---- stepped: what is below 0, and the exact sum

pub stepped_zero : (k : ℕ) → stepped 0 (negsuc k) ≡ 0
unfolding stepped
stepped_zero k = omega arith

-- where the sum is a number of one byte, it is the number that comes back
pub stepped_exact : (x : ℕ) (z : ℤ) (y : ℕ) → x < 256 → y < 256 → pos x +ℤ z ≡ pos y → stepped x z ≡ y
stepped_exact x z y h l e =
    let m : min 255 y ≡ y = omega arith in sym (held_sum x z h) ∙ ap held e ∙ m

-- ---- step_at

pub length_step_at : (v : ℕ) (z : ℤ) (ns : List ℕ) → length (step_at v z ns) ≡ length ns
unfolding step_at
length_step_at v z ns = length-set ns v (stepped (get_or ns v 0) z)

pub get_d_step_at_same : (v : ℕ) (z : ℤ) (ns : List ℕ) → v < length ns → get_or (step_at v z ns) v 0 ≡ stepped (get_or ns v 0) z
unfolding step_at
get_d_step_at_same v z ns h = get_or-set_same ns v (stepped (get_or ns v 0) z) 0 h

pub get_d_step_at_other : (u v : ℕ) (z : ℤ) (ns : List ℕ) → (v ≡ u → ⊥) → get_or (step_at v z ns) u 0 ≡ get_or ns u 0
unfolding step_at
get_d_step_at_other u v z ns h = get_or-set_other ns v u (stepped (get_or ns v 0) z) 0 (λ e. h (sym e))

-- ---- all_stepped

pub length_all_stepped : (vs : List ℕ) (z : ℤ) (ns : List ℕ) → length (all_stepped vs z ns) ≡ length ns
unfolding all_stepped
length_all_stepped vs z ns = length_folded (λ v now. step_at v z now) (λ v now. length_step_at v z now) vs ns

-- a radio that is not listed keeps its number
pub get_d_all_stepped_other : (u : ℕ) (vs : List ℕ) (z : ℤ) (ns : List ℕ) → (In u vs → ⊥) → get_or (all_stepped vs z ns) u 0 ≡ get_or ns u 0
unfolding all_stepped folded
get_d_all_stepped_other u [] z ns h = refl
get_d_all_stepped_other u (v ∷ vs) z ns h =
    get_d_all_stepped_other u vs z (step_at v z ns) (λ m. h (inr m)) ∙ get_d_step_at_other u v z ns (λ e. h (inl e))

-- a radio that is listed once is stepped
pub get_d_all_stepped_listed :
    (u : ℕ) (vs : List ℕ) (z : ℤ) (ns : List ℕ) → Distinct vs → In u vs → u < length ns →
    get_or (all_stepped vs z ns) u 0 ≡ stepped (get_or ns u 0) z
unfolding all_stepped folded
get_d_all_stepped_listed u [] z ns d x3 h = elim x3 [ ]
get_d_all_stepped_listed u (v ∷ vs) z ns d (inl e) h =
    rw (← e) (get_d_all_stepped_other v vs z (step_at v z ns) d.0 ∙ get_d_step_at_same v z ns (omega arith))
get_d_all_stepped_listed u (v ∷ vs) z ns d (inr m) h =
    get_d_all_stepped_listed u vs z (step_at v z ns) d.1 m (omega (arith, length_step_at v z ns))
    ∙ ap (λ x. stepped x z) (get_d_step_at_other u v z ns (λ e. d.0 (subst (λ (y : ℕ). In y vs) (sym e) m)))
