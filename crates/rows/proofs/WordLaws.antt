-- Words of a table and their set bits.
-- In order: set bits as a filter and as a count, the lowest set bit, a word walked by its set bits, bytes joined to a word, the digits
-- of a word.
use Rattle.std.specs.Prelude.{◌≡◌, ◌⊎◌, ◌∷◌, ◌+◌, ◌*◌, ◌-◌, ◌/◌, ◌%◌, ◌^◌, ◌≤◌, ◌<◌}
use Rattle.lists.{specs.Kit.{refl, sym, ap, ◌∙◌, inl, inr, Bool, true, false, cond, List, [], ℕ, zero, suc}}
use Rattle.lists.{specs.Kit.{arith, pow-succ', suc-mul, mul-le-mul_right, ltb, eqb, length, get_or, bit_and, bit_or, and_le_l, and_step, and_self}}
use Rattle.lists.{specs.Kit.{or_shifted_r, block_half, block_odd, ones, ones_step, count_trailing_zeros, ltb-true, ltb-false, eqb-true, eqb-false}}
use Rattle.lists.{specs.Lists.{range, filter}, proofs.Tests.{bool_cases}}
use lib.{Arith.{lt-one}, Pow.{pow-add, shl_exact, shr-shr, high}}
use Rattle.mesh.{specs.Tables.{digit}, proofs.Tables.Digits.{digit_zero, digit_suc}}
use Rattle.rows.specs.Rows.{set_bits, row_word}

-- ---- set bits

-- the set bits are the entries that a test passes, where the test tells the digits
pub set_bits_filter : (d i w : ℕ) (f : ℕ → Bool) → ((k : ℕ) → k < d → f (i + k) ≡ digit w k) → set_bits d i w ≡ filter f (range i d)
unfolding set_bits filter range
set_bits_filter zero i w f h = refl
set_bits_filter (suc d) i w f h =
    let lowest : eqb (w % 2) 1 ≡ f i = sym (ap f (omega arith) ∙ h 0 (omega arith) ∙ digit_zero w) in
    rw (lowest, set_bits_filter d (suc i) (w / 2) f (λ k l. ap f (omega arith) ∙ h (suc k) (omega arith) ∙ digit_suc w k))

ones_zero : ones 0 ≡ 0
unfolding ones
ones_zero = refl

pub length_set_bits : (d i w : ℕ) → w < 2 ^ d → length (set_bits d i w) ≡ ones w
unfolding set_bits
length_set_bits zero i w h = sym (ap ones (lt-one h) ∙ ones_zero)
length_set_bits (suc d) i w h =
    go (length_set_bits d (suc i) (w / 2) (omega (arith, pow-succ' 2 d))) (bool_cases (eqb (w % 2) 1))
  where
    go : length (set_bits d (suc i) (w / 2)) ≡ ones (w / 2) → (eqb (w % 2) 1 ≡ true) ⊎ (eqb (w % 2) 1 ≡ false)
        → length (cond (eqb (w % 2) 1) (i ∷ set_bits d (suc i) (w / 2)) (set_bits d (suc i) (w / 2))) ≡ ones w
    go rec (inl e) = rw e (omega (arith, ones_step w, eqb-true (w % 2) 1 e))
    go rec (inr e) = rw e (omega (arith, ones_step w, eqb-false (w % 2) 1 e))

pub length_set_bits_le : (d i w : ℕ) → length (set_bits d i w) ≤ d
unfolding set_bits
length_set_bits_le zero i w = omega arith
length_set_bits_le (suc d) i w = go (length_set_bits_le d (suc i) (w / 2)) (eqb (w % 2) 1)
  where
    go : length (set_bits d (suc i) (w / 2)) ≤ d → (t : Bool)
        → length (cond t (i ∷ set_bits d (suc i) (w / 2)) (set_bits d (suc i) (w / 2))) ≤ suc d
    go rec true = omega arith
    go rec false = omega arith

pub set_bits_nothing : (d i : ℕ) → set_bits d i 0 ≡ []
unfolding set_bits
set_bits_nothing zero i = refl
set_bits_nothing (suc d) i = set_bits_nothing d (suc i)

-- ---- the lowest set bit: where it stands, and the word without it

clear_lowest_odd : (w : ℕ) → w % 2 ≡ 1 → bit_and w (w - 1) ≡ 2 * (w / 2)
clear_lowest_odd w e =
    let half : (w - 1) / 2 ≡ w / 2 = omega arith in
    let even : (w - 1) % 2 ≡ 0 = omega arith in
    omega (arith, and_step w (w - 1), ap (bit_and (w / 2)) half, and_self (w / 2))

clear_lowest_even : (w : ℕ) → 0 < w → w % 2 ≡ 0 → bit_and w (w - 1) ≡ 2 * bit_and (w / 2) (w / 2 - 1)
clear_lowest_even w p e =
    let half : (w - 1) / 2 ≡ w / 2 - 1 = omega arith in
    let odd : (w - 1) % 2 ≡ 1 = omega arith in
    omega (arith, and_step w (w - 1), ap (bit_and (w / 2)) half)

double_half : (x : ℕ) → 2 * x / 2 ≡ x
double_half x = omega arith

double_even : (x : ℕ) → 2 * x % 2 ≡ 0
double_even x = omega arith

pub set_bits_lowest : (d i w : ℕ) → 0 < w → w < 2 ^ d → set_bits d i w ≡ (i + count_trailing_zeros d w) ∷ set_bits d i (bit_and w (w - 1))
unfolding set_bits count_trailing_zeros
set_bits_lowest zero i w p h = absurd (omega arith)
set_bits_lowest (suc d) i w p h = go (λ q. set_bits_lowest d (suc i) (w / 2) q (omega (arith, pow-succ' 2 d))) (bool_cases (eqb (w % 2) 1))
  where
    go : (0 < w / 2 → set_bits d (suc i) (w / 2) ≡ (suc i + count_trailing_zeros d (w / 2)) ∷ set_bits d (suc i) (bit_and (w / 2) (w / 2 - 1)))
        → (eqb (w % 2) 1 ≡ true) ⊎ (eqb (w % 2) 1 ≡ false)
        → set_bits (suc d) i w ≡ (i + count_trailing_zeros (suc d) w) ∷ set_bits (suc d) i (bit_and w (w - 1))
    go rec (inl e) =
        let odd = eqb-true (w % 2) 1 e in
        let here : i + 0 ≡ i = omega arith in
        rw (clear_lowest_odd w odd, double_half (w / 2), double_even (w / 2), odd, here)
    go rec (inr e) =
        let even : w % 2 ≡ 0 = omega (arith, eqb-false (w % 2) 1 e) in
        let next : suc i + count_trailing_zeros d (w / 2) ≡ i + suc (count_trailing_zeros d (w / 2)) = omega arith in
        rw (clear_lowest_even w p even, double_half (bit_and (w / 2) (w / 2 - 1)), double_even (bit_and (w / 2) (w / 2 - 1)), even, rec (omega arith), next)

-- ---- a word walked by its set bits: the lowest and the others, a word still, and none left

pub word_lowest : (first rest : ℕ) → rest < 2 ^ 64 → (rest ≡ 0 → ⊥)
    → set_bits 64 first rest ≡ (first + count_trailing_zeros 64 rest) ∷ set_bits 64 first (bit_and rest (rest - 1))
word_lowest first rest h some = set_bits_lowest 64 first rest (omega (arith, some)) h

pub word_less : (rest : ℕ) → rest < 2 ^ 64 → bit_and rest (rest - 1) < 2 ^ 64
word_less rest h = omega (arith, and_le_l rest (rest - 1), h)

pub word_none : (first rest : ℕ) → rest ≡ 0 → set_bits 64 first rest ≡ []
word_none first rest z = ap (set_bits 64 first) z ∙ set_bits_nothing 64 first

-- ---- digits of a number in two parts

digit_low : (n b lo m : ℕ) → m < n → digit (b * 2 ^ n + lo) m ≡ digit lo m
digit_low zero b lo m h = absurd (omega arith)
digit_low (suc n) b lo zero h = rw (digit_zero (b * 2 ^ suc n + lo), block_odd b n lo, digit_zero lo)
digit_low (suc n) b lo (suc m) h =
    rw (digit_suc (b * 2 ^ suc n + lo) m, block_half b n lo, digit_suc lo m) (digit_low n b (lo / 2) m (omega arith))

digit_high : (n b lo d : ℕ) → lo < 2 ^ n → digit (b * 2 ^ n + lo) (n + d) ≡ digit b d
unfolding digit
digit_high n b lo d h =
    ap (λ (x : ℕ). eqb (x % 2) 1) (sym (shr-shr (b * 2 ^ n + lo) n d) ∙ ap (λ (x : ℕ). x / 2 ^ d) (high b n h))

-- ---- bytes joined to a word

byte_above : (k b lo : ℕ) → b < 256 → lo < 2 ^ (8 * k) → b * 2 ^ (8 * k) + lo < 2 ^ (8 * suc k)
byte_above k b lo h g =
    let place : 8 * suc k ≡ 8 + 8 * k = omega arith in
    omega (arith, ap (λ (x : ℕ). 2 ^ x) place ∙ pow-add 2 8 (8 * k), suc-mul b (2 ^ (8 * k)), mul-le-mul_right (2 ^ (8 * k)) h)

module _ (ts : List ℕ) (bytes : (j : ℕ) → get_or ts j 0 < 256) (i : ℕ) where
  pub word_at_less : (k : ℕ) → row_word k ts i < 2 ^ (8 * k)
  unfolding row_word
  word_at_less zero = omega arith
  word_at_less (suc k) = byte_above k (get_or ts (i + k) 0) (row_word k ts i) (bytes (i + k)) (word_at_less k)

  word_at_or : (k : ℕ) → k < 8 → bit_or (row_word k ts i) (get_or ts (i + k) 0 * 2 ^ (8 * k) % 2 ^ 64) ≡ row_word (suc k) ts i
  unfolding row_word
  word_at_or k h =
      ap (bit_or (row_word k ts i)) (shl_exact 8 (8 * k) 64 (bytes (i + k)) (omega arith))
      ∙ or_shifted_r (get_or ts (i + k) 0) (8 * k) (row_word k ts i) (word_at_less k)

  word_at_one : get_or ts i 0 ≡ row_word 1 ts i
  unfolding row_word
  word_at_one = let here : i + 0 ≡ i = omega arith in rw here (omega arith)

  -- as the code joins them
  pub word_at_joined :
      bit_or
      (bit_or
      (bit_or
      (bit_or
      (bit_or
      (bit_or
      (bit_or (get_or ts i 0) (get_or ts (i + 1) 0 * 2 ^ 8 % 2 ^ 64))
      (get_or ts (i + 2) 0 * 2 ^ 16 % 2 ^ 64))
      (get_or ts (i + 3) 0 * 2 ^ 24 % 2 ^ 64))
      (get_or ts (i + 4) 0 * 2 ^ 32 % 2 ^ 64))
      (get_or ts (i + 5) 0 * 2 ^ 40 % 2 ^ 64))
      (get_or ts (i + 6) 0 * 2 ^ 48 % 2 ^ 64))
      (get_or ts (i + 7) 0 * 2 ^ 56 % 2 ^ 64) ≡ row_word 8 ts i
  word_at_joined = rw (
    word_at_one,
    word_at_or 1 (omega arith),
    word_at_or 2 (omega arith),
    word_at_or 3 (omega arith),
    word_at_or 4 (omega arith),
    word_at_or 5 (omega arith),
    word_at_or 6 (omega arith),
    word_at_or 7 (omega arith),
  )

  pub digit_word_at : (k m : ℕ) → m < 8 * k → digit (row_word k ts i) m ≡ digit (get_or ts (i + m / 8) 0) (m % 8)
  unfolding row_word
  digit_word_at zero m h = absurd (omega arith)
  digit_word_at (suc k) m h = go (digit_word_at k m) (bool_cases (ltb m (8 * k)))
    where
      go : (m < 8 * k → digit (row_word k ts i) m ≡ digit (get_or ts (i + m / 8) 0) (m % 8)) → (ltb m (8 * k) ≡ true) ⊎ (ltb m (8 * k) ≡ false)
          → digit (get_or ts (i + k) 0 * 2 ^ (8 * k) + row_word k ts i) m ≡ digit (get_or ts (i + m / 8) 0) (m % 8)
      go rec (inl e) =
          let l = ltb-true m (8 * k) e in digit_low (8 * k) (get_or ts (i + k) 0) (row_word k ts i) m l ∙ rec l
      go rec (inr e) =
          let l = ltb-false m (8 * k) e in
          let byte : m / 8 ≡ k = omega arith in
          let place : m ≡ 8 * k + m % 8 = omega arith in
          ap (digit (get_or ts (i + k) 0 * 2 ^ (8 * k) + row_word k ts i)) place
          ∙ digit_high (8 * k) (get_or ts (i + k) 0) (row_word k ts i) (m % 8) (word_at_less k)
          ∙ ap (λ (x : ℕ). digit (get_or ts (i + x) 0) (m % 8)) (sym byte)
