-- All rows of the check on plain values: the loop over the radios.
use Rattle.std.specs.Prelude.{◌≡◌, ◌⊎◌, ◌&&◌, ◌+◌, ◌-◌, ◌≤◌, ◌<◌}
use Rattle.lists.{specs.Kit.{refl, sym, ap, ◌∙◌, inl, inr, Bool, true, false, List, ℕ, suc, arith, add-one, length, get_or}}
use Rattle.lists.{specs.Kit.{set, length-set, get_or-set_same, get_or-set_other}, specs.Lists.{range, all}, proofs.Tests.{never, trichotomy}}
use Rattle.mesh.specs.Limits.{max_neighbours}
use Rattle.rows.specs.Rows.{neighbours_of}
use Rattle.conditions.specs.Conditions.{high_count, row_good}
use Rattle.soundness.specs.Checks.{RowChecked, RowsChecked}

-- the rows below a are good, and their high counts are written
pub record RowsSoFar (n : ℕ) (links numbers places before not_lower : List ℕ) (a : ℕ) : Type 0 where
  pub low : a ≤ n
  pub long : length not_lower ≡ length before
  pub left : all (row_good max_neighbours n links numbers places) (range a (n - a)) ≡ all (row_good max_neighbours n links numbers places) (range 0 n)
  pub at : (v : ℕ) → v < a → get_or not_lower v 0 ≡ high_count numbers v (neighbours_of links v)

module _ (n : ℕ) (links numbers places before : List ℕ) where
  abbrev good : ℕ → Bool
  good = row_good max_neighbours n links numbers places

  pub rows_none : RowsSoFar n links numbers places before before 0
  rows_none =
      let e : n - 0 ≡ n = omega arith in
      record { low = omega arith; long = refl; left = ap (λ (k : ℕ). all good (range 0 k)) e; at = λ v l. absurd (omega arith) }

  all_next : (a : ℕ) → a < n → all good (range a (n - a)) ≡ (good a && all good (range (suc a) (n - suc a)))
  unfolding all range
  all_next a l =
      let e : n - a ≡ suc (n - suc a) = omega arith in ap (λ (k : ℕ). all good (range a k)) e

  module _ (not_lower : List ℕ) (a : ℕ) (l : a < n) (s : RowsSoFar n links numbers places before not_lower a) where
    pub rows_bad : (row : Bool) (high : ℕ) → RowChecked n links numbers places a row high → row ≡ false → RowsChecked n links numbers places before not_lower
        false
    rows_bad row high r e = record {
      answer = sym (sym s.left ∙ all_next a l ∙ ap (λ (b : Bool). b && all good (range (suc a) (n - suc a))) (sym r.answer ∙ e));
      counts = λ f. never false f refl;
      long = s.long;
    }

    pub rows_turn : (row : Bool) (high : ℕ) → n ≤ length before → RowChecked n links numbers places a row high → row ≡ true
        → RowsSoFar n links numbers places before (set not_lower a high) (a + 1)
    rows_turn row high fits r e = record {
      low = omega arith;
      long = length-set not_lower a high ∙ s.long;
      left = rw add-one (ap (λ (b : Bool). b && all good (range (suc a) (n - suc a))) (sym e ∙ r.answer) ∙ sym (all_next a l) ∙ s.left);
      at = λ v k. next v (trichotomy v a) k;
    }
      where
        next : (v : ℕ) → (v < a) ⊎ ((v ≡ a) ⊎ (a < v)) → v < a + 1 → get_or (set not_lower a high) v 0 ≡ high_count numbers v (neighbours_of links v)
        next v (inl k) _ = get_or-set_other not_lower a v high 0 (λ e. omega arith) ∙ s.at v k
        next v (inr (inl q)) _ = rw q (get_or-set_same not_lower a high 0 (omega (arith, s.long)) ∙ r.high_is e)
        next v (inr (inr k)) m = absurd (omega arith)

  pub rows_end : (not_lower : List ℕ) (a : ℕ) → n ≤ a → RowsSoFar n links numbers places before not_lower a → RowsChecked n links numbers places before
      not_lower true
  unfolding all range
  rows_end not_lower a l s =
      let e : n - a ≡ 0 = omega (arith, s.low) in
      record { answer = rw e at s.left; counts = λ _. record { at = λ v k. s.at v (omega arith) }; long = s.long }
