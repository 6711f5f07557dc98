-- Laws of what applying a plan writes. In order: the changed radios, the stretch in the order, the step.
use Rattle.std.specs.Prelude.{◌≡◌, ◌∷◌, ◌++◌, ◌+◌, ◌-◌, ◌≤◌}
use Rattle.lists.{specs.Kit.{refl, sym, ap, ap₂, ◌∙◌, Bool, true, false, List, [], append_assoc, ℕ, zero, suc, arith, ℤ, pos}}
use Rattle.lists.{specs.Kit.{negsuc, length, take, drop, length-drop, length-take-le, take-take, take-add, drop-drop, paste, take-paste, drop-paste}}
use Rattle.lists.{specs.Lists.{range, member}, proofs.Count.{count_le_length}, proofs.Filter.{length_filter}, proofs.Range.{length_range}}
use Rattle.lists.{proofs.Parts.{drop_take}}
use mir.{Syntax.{w8}, Val.{SFits, to_z, of_z}, Facts.{to_z-of_z}}
use Rattle.mesh.specs.{Limits.{max_radios}, Levels.{step_of}}
use Rattle.tables.specs.Steps.{all_stepped}
use Rattle.plan.specs.Planned.{changed_part}
use Rattle.links.specs.Changes.{in_order, counted_step}

-- ---- the changed radios of a plan

-- as the code cuts them out of the stretch
pub changed_up : (up : Bool) (k m : ℕ) (xs : List ℕ) → up ≡ true → take (m - k) (drop k xs) ≡ changed_part up k m xs
unfolding changed_part
changed_up up k m xs e = rw e (sym (drop_take k m xs))

pub changed_down : (up : Bool) (k m : ℕ) (xs : List ℕ) → up ≡ false → take k xs ≡ changed_part up k m xs
unfolding changed_part
changed_down up k m xs e = rw e

-- a set has no more radios than a site may have
pub length_in_order : (xs : List ℕ) → length (in_order xs) ≤ max_radios
unfolding in_order
length_in_order xs =
    let f : ℕ → Bool = λ v. member v xs in
    omega (arith, length_filter f (range 0 max_radios), count_le_length f (range 0 max_radios), length_range 0 max_radios)

-- ---- the stretch

-- two parts of a stretch, one behind the other
module _ (xs ys : List ℕ) (i k m : ℕ) (fits : i + m ≤ length xs) (long : m ≤ length ys) (less : k ≤ m) where
  abbrev front : List ℕ
  front = take k ys

  abbrev back : List ℕ
  back = take (m - k) (drop k ys)

  paste_parts : paste (paste xs i front k) (i + k) back (m - k) ≡ paste xs i ys m
  paste_parts =
      let first = paste xs i front k in
      let head : take (i + k) first ≡ take i xs ++ take k ys =
      take-paste xs i front k (omega arith) (omega (arith, length-take-le k ys (omega arith)))
      ∙ ap (λ (z : List ℕ). take i xs ++ z) (take-take k k ys (omega arith)) in
      let mid : take (m - k) back ≡ back = take-take (m - k) (m - k) (drop k ys) (omega arith) in
      let tail : drop (i + k + (m - k)) first ≡ drop (i + m) xs =
      sym (drop-drop (m - k) (i + k) first)
      ∙ ap (drop (m - k)) (drop-paste xs i front k (omega arith) (omega (arith, length-take-le k ys (omega arith))))
      ∙ drop-drop (m - k) (i + k) xs ∙ ap (λ (j : ℕ). drop j xs) {x = i + k + (m - k)} {y = i + m} (omega arith) in
      let whole : take k ys ++ back ≡ take m ys = sym (take-add k (m - k) ys) ∙ ap (λ (j : ℕ). take j ys) {x = k + (m - k)} {y = m} (omega arith) in
      ap₂ (λ (y z : List ℕ). y ++ z) (ap₂ (λ (y z : List ℕ). y ++ z) head mid) tail
      ∙ ap (λ (z : List ℕ). z ++ drop (i + m) xs)
      (append_assoc (take i xs) (take k ys) back ∙ ap (λ (z : List ℕ). take i xs ++ z) whole)

  -- each part put before its end
  pub paste_stretch : (p q one two : List ℕ) → p ≡ front → q ≡ back → one ≡ paste xs (i + k - length p) p (length p)
      → two ≡ paste one (i + m - length q) q (length q) → two ≡ paste xs i ys m
  paste_stretch p q one two ep eq e1 e2 =
      let lp : length p ≡ k = ap length ep ∙ length-take-le k ys (omega arith) in
      let lq : length q ≡ m - k = ap length eq ∙ length-take-le (m - k) (drop k ys) (omega (arith, length-drop k ys)) in
      let at1 : i + k - length p ≡ i = omega arith in
      let at2 : i + m - length q ≡ i + k = omega arith in
      e2 ∙ rw (at2, lq, eq) (ap (λ (z : List ℕ). paste z (i + k) back (m - k)) (e1 ∙ rw (at1, lp, ep)) ∙ paste_parts)

-- ---- the step

pub counted_step_none : (up : Bool) (k : ℕ) → k ≡ 0 → pos 0 ≡ counted_step up k
unfolding counted_step
counted_step_none up k e = rw e

pub counted_step_up : (up : Bool) (k : ℕ) → (k ≡ 0 → ⊥) → up ≡ true → pos 1 ≡ counted_step up k
unfolding counted_step
counted_step_up up zero h e = absurd (h refl)
counted_step_up up (suc k) h e = rw e

pub counted_step_down : (up : Bool) (k : ℕ) → (k ≡ 0 → ⊥) → up ≡ false → negsuc 0 ≡ counted_step up k
unfolding counted_step
counted_step_down up zero h e = absurd (h refl)
counted_step_down up (suc k) h e = rw e

-- the step of the changed radios is the step of their count
pub counted_step_length : (up : Bool) (cs : List ℕ) → counted_step up (length cs) ≡ step_of up cs
unfolding counted_step step_of
counted_step_length up [] = refl
counted_step_length up (c ∷ cs) = refl

fits_counted_step : (up : Bool) (k : ℕ) → SFits w8 (counted_step up k)
unfolding counted_step
fits_counted_step up zero = record { sfits = omega arith }
fits_counted_step true (suc k) = record { sfits = omega arith }
fits_counted_step false (suc k) = record { sfits = omega arith }

-- a step held in eight bits is the step
pub counted_step_held : (up : Bool) (k : ℕ) (z : ℤ) → z ≡ counted_step up k → to_z w8 (of_z w8 z) ≡ counted_step up k
counted_step_held up k z e = ap (λ (y : ℤ). to_z w8 (of_z w8 y)) e ∙ to_z-of_z (fits_counted_step up k)

pub stepped_held :
    (up : Bool) (k : ℕ) (z : ℤ) (vs ns new : List ℕ) → z ≡ counted_step up k → new ≡ all_stepped vs (to_z w8 (of_z w8 z)) ns → new ≡ all_stepped vs z ns
stepped_held up k z vs ns new e h = h ∙ ap (λ (y : ℤ). all_stepped vs y ns) (counted_step_held up k z e ∙ sym e)

-- the same of a step that fits eight bits
pub stepped_fits : (z : ℤ) (vs ns new : List ℕ) → SFits w8 z → new ≡ all_stepped vs (to_z w8 (of_z w8 z)) ns → new ≡ all_stepped vs z ns
stepped_fits z vs ns new f h = h ∙ ap (λ (y : ℤ). all_stepped vs y ns) (to_z-of_z f)
