-- Laws of a block's check.
-- In order: the sum byte by byte, two words as one number, tests one after the other, with and without a stop.
use Rattle.std.specs.Prelude.{◌≡◌, ◌&&◌, ◌∷◌, ◌+◌, ◌*◌, ◌-◌, ◌≤◌, ◌<◌}
use Rattle.lists.{specs.Kit.{refl, sym, ap, ◌∙◌, Bool, true, false, List, [], ℕ, suc, arith, add-one}}
use Rattle.lists.{specs.Kit.{length, get_or, take, take-suc, length-take-le, get_or-take}, specs.Lists.{range, all}, proofs.All.{all_append}}
use Rattle.lists.{proofs.Range.{range_suc}}
use Rattle.mesh.{specs.Image.{check_sum, word_at}, proofs.Images.Laws.{check_sum_snoc}, proofs.Images.Words.{check_sum_less}, proofs.Images.Checks.{long_at}}

abbrev pub Small : List ℕ → Type 0
Small bs = (j : ℕ) → get_or bs j 0 < 256

-- ---- the sum byte by byte: i of `count` bytes so far

pub record Summing (bytes : List ℕ) (count sum i : ℕ) : Type 0 where
  pub low : i ≤ count
  pub few : count ≤ 508
  pub whole : count ≤ length bytes
  pub is : sum ≡ check_sum (take i bytes)

module _ (bs : List ℕ) (count sum i x : ℕ) (s : Summing bs count sum i) (h : i < count) (e : x ≡ get_or bs i 0) where
  one_more : sum + x * (i + 1) ≡ check_sum (take (i + 1) bs)
  one_more =
      sym (ap (λ (k : ℕ). check_sum (take k bs)) (add-one i) ∙ ap check_sum (take-suc bs i 0 (omega (arith, s.whole)))
      ∙ check_sum_snoc (take i bs) (get_or bs i 0) ∙ rw (← e, length-take-le i bs (omega (arith, s.low, s.whole)), ← s.is))

  pub sum_fits : Small bs → sum + x * (i + 1) < 4294967296
  sum_fits b =
      let long : length (take (i + 1) bs) ≡ i + 1 = length-take-le (i + 1) bs (omega (arith, s.whole)) in
      rw one_more (check_sum_less (take (i + 1) bs) (λ j k. rw (get_or-take (i + 1) bs j 0 (omega arith)) (b j)) (omega (arith, s.few)))

  pub summing_turn : Summing bs count (sum + x * (i + 1)) (i + 1)
  summing_turn = record { low = omega arith; few = s.few; whole = s.whole; is = one_more }

-- ---- two words as one number

pub words_long : (bs : List ℕ) (at : ℕ) → word_at bs at + 65536 * word_at bs (at + 2) ≡ long_at bs at
unfolding word_at
words_long bs at = let last : at + 2 + 1 ≡ at + 3 = omega arith in rw last (omega arith)

-- ---- a test of each number below n, one after the other: i passed so far

pub record Testing (f : ℕ → Bool) (n i : ℕ) : Type 0 where
  pub low : i ≤ n
  pub is : all f (range 0 n) ≡ all f (range i (n - i))

pub testing_none : (f : ℕ → Bool) (n : ℕ) → Testing f n 0
testing_none f n = let e : n - 0 ≡ n = omega arith in record { low = omega arith; is = rw e }

module _ (f : ℕ → Bool) (n i : ℕ) (t : Testing f n i) where
  next_test : i < n → all f (range i (n - i)) ≡ (f i && all f (range (suc i) (n - suc i)))
  unfolding range all
  next_test h = let e : n - i ≡ suc (n - suc i) = omega arith in rw e

  pub testing_turn : i < n → f i ≡ true → Testing f n (i + 1)
  testing_turn h e =
      let k : suc i ≡ i + 1 = omega arith in
      record {
        low = omega arith;
        is = t.is ∙ next_test h ∙ ap (λ (x : Bool). x && all f (range (suc i) (n - suc i))) e ∙ ap (λ (j : ℕ). all f (range j (n - j))) k;
      }

  pub testing_stop : i < n → f i ≡ false → all f (range 0 n) ≡ false
  testing_stop h e = t.is ∙ next_test h ∙ ap (λ (x : Bool). x && all f (range (suc i) (n - suc i))) e

  pub testing_end : n ≤ i → all f (range 0 n) ≡ true
  unfolding range all
  testing_end h = let e : n - i ≡ 0 = omega arith in t.is ∙ rw e

-- ---- the same test without a stop: r is the answer of the first v

pub record Passing (f : ℕ → Bool) (n : ℕ) (r : Bool) (v : ℕ) : Type 0 where
  pub low : v ≤ n
  pub is : r ≡ all f (range 0 v)

pub passing_none : (f : ℕ → Bool) (n : ℕ) → Passing f n true 0
unfolding range all
passing_none f n = record { low = omega arith; is = refl }

one_test_more : (f : ℕ → Bool) (v : ℕ) → all f (range 0 (v + 1)) ≡ (all f (range 0 v) && f v)
unfolding all
one_test_more f v =
    let z : 0 + v ≡ v = omega arith in
    ap (λ (k : ℕ). all f (range 0 k)) (add-one v) ∙ ap (all f) (range_suc 0 v) ∙ all_append f (range 0 v) ((0 + v) ∷ []) ∙ rw z
    (drop_true (all f (range 0 v)) (f v))
  where
    drop_true : (b c : Bool) → (b && (c && true)) ≡ (b && c)
    drop_true true true = refl
    drop_true true false = refl
    drop_true false c = refl

pub passing_turn : (f : ℕ → Bool) (n : ℕ) (r : Bool) (v : ℕ) → Passing f n r v → v < n → Passing f n (r && f v) (v + 1)
passing_turn f n r v p l =
    record { low = omega arith; is = ap (λ (b : Bool). b && f v) p.is ∙ sym (one_test_more f v) }

pub passing_end : (f : ℕ → Bool) (n : ℕ) (r : Bool) (v : ℕ) → Passing f n r v → n ≤ v → r ≡ all f (range 0 n)
passing_end f n r v p h = let e : v ≡ n = omega (arith, p.low) in p.is ∙ ap (λ (k : ℕ). all f (range 0 k)) e
