-- The radios of a level as words: a bit more in a word, and a word more in the set.
use Rattle.std.specs.Prelude.{◌≡◌, ◌⊎◌, ◌&&◌, ◌||◌, ◌+◌, ◌*◌, ◌-◌, ◌/◌, ◌%◌, ◌^◌, ◌≤◌, ◌<◌}
use Rattle.lists.{specs.Kit.{refl, ap, ◌∙◌, inl, inr, Bool, true, false, cond, List, ℕ, min}}
use Rattle.lists.{specs.Kit.{arith, one-mul, mod-eq_of_lt, bit_or, or_zero_r, ltb, leb, eqb, length, get_or}}
use Rattle.lists.{specs.Kit.{ltb-true, lt-ltb, le-ltb, eqb-true, eqb-false}, proofs.Tests.{bool_cases, iff_eq}}
use lib.Pow.{pow-lt}
use Rattle.mesh.{specs.Tables.{digit}, proofs.Tables.Digits.{digit_nothing, digit_put_digit}}
use Rattle.rows.{specs.Sets.{in_set}, proofs.MaskLaws.{put_digit_true}}
use Rattle.floods.specs.Floods.{of_level, LevelWord, LevelSet}

-- ---- a bit more in a word

bit_joined : (w i m : ℕ) (t : Bool) → i < 64 → digit (bit_or w (cond t 1 0 * 2 ^ i % 18446744073709551616)) m ≡ cond (eqb i m) (t || digit w m) (digit w m)
bit_joined w i m true l =
    ap (λ (x : ℕ). digit (bit_or w x) m) (ap (λ (x : ℕ). x % 18446744073709551616) (one-mul (2 ^ i)) ∙ mod-eq_of_lt (pow-lt l))
    ∙ ap (λ (x : ℕ). digit x m) (put_digit_true w i) ∙ digit_put_digit true w i m
bit_joined w i m false l =
    let none : 0 * 2 ^ i % 18446744073709551616 ≡ 0 = omega arith in
    ap (λ (x : ℕ). digit (bit_or w x) m) none ∙ ap (λ (x : ℕ). digit x m) (or_zero_r w) ∙ same (eqb i m) (digit w m)
  where
    same : (a b : Bool) → b ≡ cond a (false || b) b
    same true b = refl
    same false b = refl

-- the first i radios from `first` on are told
abbrev pub LevelWording : (numbers : List ℕ) → (level first many word i : ℕ) → Type 0
LevelWording ns k first many w i = (i ≤ many) × ((m : ℕ) → m < 64 → digit w m ≡ (ltb m i && leb k (get_or ns (first + m) 0)))

pub level_wording_none : (ns : List ℕ) (k first many : ℕ) → LevelWording ns k first many 0 0
level_wording_none ns k first many = (omega arith, λ m l. digit_nothing m ∙ rw (le-ltb m 0 (omega arith)))

pub level_wording_turn : (ns : List ℕ) (k first many w i b : ℕ) → many ≤ 64 → i < many → b ≡ cond (leb k (get_or ns (first + i) 0)) 1 0
    → LevelWording ns k first many w i → LevelWording ns k first many (bit_or w (b * 2 ^ i % 18446744073709551616)) (i + 1)
level_wording_turn ns k first many w i b small l is h = (
  omega arith,
  λ m lm. ap (λ (x : ℕ). digit (bit_or w (x * 2 ^ i % 18446744073709551616)) m) is
      ∙ bit_joined w i m (leb k (get_or ns (first + i) 0)) (omega arith) ∙ go m lm (bool_cases (eqb i m)),
)
  where
    or_no : (b : Bool) → (b || false) ≡ b
    or_no true = refl
    or_no false = refl

    go : (m : ℕ) → m < 64 → (eqb i m ≡ true) ⊎ (eqb i m ≡ false)
        → cond (eqb i m) (leb k (get_or ns (first + i) 0) || digit w m) (digit w m) ≡ (ltb m (i + 1) && leb k (get_or ns (first + m) 0))
    go m lm (inl e) =
        let q : i ≡ m = eqb-true i m e in
        rw (e, h.1 m lm, q, le-ltb m m (omega arith), lt-ltb m (m + 1) (omega arith)) (or_no (leb k (get_or ns (first + m) 0)))
    go m lm (inr e) =
        let q = eqb-false i m e in
        let same : ltb m i ≡ ltb m (i + 1) =
        iff_eq (ltb m i) (ltb m (i + 1)) (λ z. lt-ltb m (i + 1) (omega (arith, ltb-true m i z))) (λ z. lt-ltb m i (omega (arith, ltb-true m (i + 1) z))) in
        rw e (h.1 m lm ∙ ap (λ (b : Bool). b && leb k (get_or ns (first + m) 0)) same)

pub level_wording_end : (ns : List ℕ) (k first many w i : ℕ) → first < length ns → many ≡ min (length ns - first) 64 → many ≤ i
    → LevelWording ns k first many w i → LevelWord ns k first w
unfolding of_level
level_wording_end ns k first many w i l e h a m lm =
    let same : ltb m i ≡ ltb (first + m) (length ns) =
    iff_eq (ltb m i) (ltb (first + m) (length ns)) (λ z. lt-ltb (first + m) (length ns) (omega (arith, ltb-true m i z, a.0)))
    (λ z. lt-ltb m i (omega (arith, ltb-true (first + m) (length ns) z))) in
    a.1 m lm ∙ ap (λ (b : Bool). b && leb k (get_or ns (first + m) 0)) same

-- no radio is there
pub level_word_past : (ns : List ℕ) (k first : ℕ) → length ns ≤ first → LevelWord ns k first 0
unfolding of_level
level_word_past ns k first h m l = digit_nothing m ∙ rw (le-ltb (first + m) (length ns) (omega arith))

-- ---- a word more in the set

pub record LevelSetting (ns : List ℕ) (k j : ℕ) (t : List ℕ) : Type 0 where
  pub low : j ≤ 8
  pub long : length t ≡ 8
  pub words : (i : ℕ) → i < j → LevelWord ns k (64 * i) (get_or t i 0)

pub level_setting_end : (ns : List ℕ) (k j : ℕ) (t : List ℕ) → 8 ≤ j → LevelSetting ns k j t → LevelSet ns k t
unfolding in_set
level_setting_end ns k j t h a x l =
    let p : 64 * (x / 64) + x % 64 ≡ x = omega arith in
    a.words (x / 64) (omega arith) (x % 64) (omega arith) ∙ ap (of_level ns k) p
