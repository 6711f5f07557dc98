-- Words of a row whose set bits all are radios of a site: the ones that are not above the highest such word.
use Rattle.std.specs.Prelude.{◌≡◌, ◌⊎◌, ◌∷◌, ◌+◌, ◌*◌, ◌-◌, ◌/◌, ◌%◌, ◌^◌, ◌≤◌, ◌<◌}
use Rattle.lists.{specs.Kit.{sym, ap, ◌∙◌, inl, inr, Bool, true, false, cond, and-false, ℕ, zero, suc}}
use Rattle.lists.{specs.Kit.{min, arith, one-mul, mod-eq_of_lt, pow-succ', leb, eqb, leb-true, leb-false, eqb-false}, specs.Lists.{all, In}}
use Rattle.lists.{proofs.Tests.{bool_cases}}
use lib.Pow.{pow_pos, pow-lt}
use Rattle.rows.{specs.Rows.{set_bits}, proofs.WordLaws.{set_bits_nothing}}
use Rattle.conditions.specs.Conditions.{highest_word}

none_set : (d i w b : ℕ) → w ≡ 0 → In b (set_bits d i w) → ⊥
none_set d i w b z m = rw (ap (set_bits d i) z ∙ set_bits_nothing d i) at m

-- the set bits of a word below 2 ^ m are among its m lowest
in_set_bits_less : (m d i w : ℕ) → w < 2 ^ m → (b : ℕ) → In b (set_bits d i w) → b < i + m
unfolding set_bits
in_set_bits_less zero d i w l b e = absurd (none_set d i w b (omega arith) e)
in_set_bits_less (suc m) zero i w l b e = absurd e
in_set_bits_less (suc m) (suc d) i w l b e = go (in_set_bits_less m d (suc i) (w / 2) (omega (arith, pow-succ' 2 m)) b) (eqb (w % 2) 1) e
  where
    go : (In b (set_bits d (suc i) (w / 2)) → b < suc i + m) → (t : Bool)
        → In b (cond t (i ∷ set_bits d (suc i) (w / 2)) (set_bits d (suc i) (w / 2))) → b < i + suc m
    go rec true (inl q) = omega arith
    go rec true (inr k) = omega (arith, rec k)
    go rec false k = omega (arith, rec k)

-- a word from 2 ^ m on has a set bit at m or above
all_set_bits_high : (f : ℕ → Bool) (m d i w : ℕ) → w < 2 ^ d → 2 ^ m ≤ w → ((b : ℕ) → i + m ≤ b → f b ≡ false) → all f (set_bits d i w) ≡ false
unfolding set_bits all
all_set_bits_high f m zero i w l h out = absurd (omega (arith, pow_pos m))
all_set_bits_high f zero (suc d) i w l h out = go (all_set_bits_high f zero d (suc i) (w / 2) (omega (arith, pow-succ' 2 d))) (bool_cases (eqb (w % 2) 1))
  where
    go : (2 ^ 0 ≤ w / 2 → ((b : ℕ) → suc i + 0 ≤ b → f b ≡ false) → all f (set_bits d (suc i) (w / 2)) ≡ false)
        → (eqb (w % 2) 1 ≡ true) ⊎ (eqb (w % 2) 1 ≡ false)
        → all f (cond (eqb (w % 2) 1) (i ∷ set_bits d (suc i) (w / 2)) (set_bits d (suc i) (w / 2))) ≡ false
    go rec (inl t) = rw (t, out i (omega arith))
    go rec (inr t) = rw t (rec (omega (arith, eqb-false (w % 2) 1 t)) (λ b k. out b (omega arith)))
all_set_bits_high f (suc m) (suc d) i w l h out =
    go (all_set_bits_high f m d (suc i) (w / 2) (omega (arith, pow-succ' 2 d)) (omega (arith, pow-succ' 2 m)) (λ b k. out b (omega arith))) (eqb (w % 2) 1)
  where
    go : all f (set_bits d (suc i) (w / 2)) ≡ false → (t : Bool)
        → all f (cond t (i ∷ set_bits d (suc i) (w / 2)) (set_bits d (suc i) (w / 2))) ≡ false
    go rec true = rw rec (and-false (f i))
    go rec false = rec

-- a word that is not above the highest marks radios below n alone
pub highest_word_below : (n first w : ℕ) → w ≤ highest_word n first → (b : ℕ) → In b (set_bits 64 first w) → b < n
unfolding highest_word
highest_word_below n first w h b e = go (bool_cases (leb n first))
  where
    many : ℕ
    many = min 64 (n - first)

    low : w < 2 ^ many
    low = omega (arith, pow_pos many)

    go : (leb n first ≡ true) ⊎ (leb n first ≡ false) → b < n
    go (inl t) =
        let none : many ≡ 0 = omega (arith, leb-true n first t) in
        absurd (none_set 64 first w b (omega (arith, ap (λ (k : ℕ). 2 ^ k) none)) e)
    go (inr t) = omega (arith, leb-false n first t, in_set_bits_less many 64 first w low b e)

-- one that is above it marks a radio at n or above
pub highest_word_above : (f : ℕ → Bool) (n first w : ℕ) → highest_word n first < w → w < 2 ^ 64 → ((b : ℕ) → n ≤ b → f b ≡ false)
    → all f (set_bits 64 first w) ≡ false
unfolding highest_word
highest_word_above f n first w h l out = go (bool_cases (leb 64 (n - first)))
  where
    many : ℕ
    many = min 64 (n - first)

    go : (leb 64 (n - first) ≡ true) ⊎ (leb 64 (n - first) ≡ false) → all f (set_bits 64 first w) ≡ false
    go (inl t) =
        let whole : many ≡ 64 = omega (arith, leb-true 64 (n - first) t) in
        absurd (omega (arith, ap (λ (k : ℕ). 2 ^ k) whole))
    go (inr t) =
        let left : many ≡ n - first = omega (arith, leb-false 64 (n - first) t) in
        all_set_bits_high f many 64 first w l (omega arith) (λ b k. out b (omega arith))

-- ---- as the code works it out

pub highest_word_none : (n first : ℕ) → n ≤ first → 0 ≡ highest_word n first
unfolding highest_word
highest_word_none n first h =
    let none : min 64 (n - first) ≡ 0 = omega arith in ap (λ (k : ℕ). 2 ^ k - 1) (sym none)

pub highest_word_whole : (n first : ℕ) → 64 ≤ n - first → 18446744073709551615 ≡ highest_word n first
unfolding highest_word
highest_word_whole n first h =
    let whole : min 64 (n - first) ≡ 64 = omega arith in ap (λ (k : ℕ). 2 ^ k - 1) (sym whole)

-- the bit after the last, shifted to its place
pub bit_after : (k : ℕ) → k < 64 → 1 * 2 ^ k % 18446744073709551616 ≡ 2 ^ k
bit_after k l = ap (λ (x : ℕ). x % 18446744073709551616) (one-mul (2 ^ k)) ∙ mod-eq_of_lt (pow-lt l)

pub highest_word_part : (n first : ℕ) → n - first < 64 → 1 * 2 ^ (n - first) % 18446744073709551616 - 1 ≡ highest_word n first
unfolding highest_word
highest_word_part n first h =
    let part : min 64 (n - first) ≡ n - first = omega arith in
    ap (λ (x : ℕ). x - 1) (bit_after (n - first) h) ∙ ap (λ (k : ℕ). 2 ^ k - 1) (sym part)
