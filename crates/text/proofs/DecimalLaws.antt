-- Laws of `decimal`: one digit, a digit more, the length, and that every byte is a digit.
use Rattle.std.specs.Prelude.{◌≡◌, ◌∷◌, ◌++◌, ◌+◌, ◌*◌, ◌/◌, ◌%◌, ◌^◌, ◌≤◌, ◌<◌}
use Rattle.lists.specs.Kit.{refl, sym, ap, ◌∙◌, List, [], append-nil, append_assoc, ℕ, zero, suc}
use Rattle.lists.specs.Kit.{arith, pow-succ', ltb, length, drop, set, length-append, length-set, drop_of_length-le, ltb-true, ltb-false}
use Rattle.lists.specs.Kit.{⊎_elim}
use Rattle.lists.proofs.Tests.{bool_cases}
use Rattle.text.specs.Text.{digit_byte, digits_in, decimal}

-- ---- digits_in

digits_in_zero : (t : ℕ) → digits_in t 0 ≡ []
unfolding digits_in
digits_in_zero zero = refl
digits_in_zero (suc t) = refl

-- turns past the number's size change nothing
digits_in_turns : (t u x : ℕ) → x ≤ t → x ≤ u → digits_in t x ≡ digits_in u x
unfolding digits_in
digits_in_turns zero u zero h k = sym (digits_in_zero u)
digits_in_turns zero u (suc x) h k = absurd (omega arith)
digits_in_turns (suc t) u zero h k = sym (digits_in_zero u)
digits_in_turns (suc t) zero (suc x) h k = absurd (omega arith)
digits_in_turns (suc t) (suc u) (suc x) h k =
    ap (λ (ds : List ℕ). ds ++ (digit_byte (suc x % 10) ∷ [])) (digits_in_turns t u (suc x / 10) (omega arith) (omega arith))

-- ---- decimal

pub decimal_digit : (x : ℕ) → x < 10 → decimal x ≡ digit_byte x ∷ []
unfolding decimal digits_in
decimal_digit zero h = refl
decimal_digit (suc x) h =
    let e : suc x / 10 ≡ 0 = omega arith in
    let f : suc x % 10 ≡ suc x = omega arith in
    rw (e, f, digits_in_zero x)

decimal_digits_in : (x : ℕ) → 0 < x → decimal x ≡ digits_in x x
unfolding decimal
decimal_digits_in zero h = absurd (omega arith)
decimal_digits_in (suc x) h = refl

-- the last digit of a number of more than one
pub decimal_more : (x : ℕ) → 10 ≤ x → decimal x ≡ decimal (x / 10) ++ (digit_byte (x % 10) ∷ [])
unfolding digits_in
decimal_more zero h = absurd (omega arith)
decimal_more (suc x) h =
    decimal_digits_in (suc x) (omega arith)
    ∙ ap (λ (ds : List ℕ). ds ++ (digit_byte (suc x % 10) ∷ []))
    (digits_in_turns x (suc x / 10) (suc x / 10) (omega arith) (omega arith) ∙ sym (decimal_digits_in (suc x / 10) (omega arith)))

-- a digit put after a number's
pub decimal_append : (v d : ℕ) → 0 < v → d < 10 → decimal (10 * v + d) ≡ decimal v ++ (digit_byte d ∷ [])
decimal_append v d h k =
    let e : (10 * v + d) / 10 ≡ v = omega arith in
    let f : (10 * v + d) % 10 ≡ d = omega arith in
    rw (decimal_more (10 * v + d) (omega arith), e, f)

-- ---- length

pub length_decimal_digit : (x : ℕ) → x < 10 → length (decimal x) ≡ 1
length_decimal_digit x h = rw (decimal_digit x h)

pub length_decimal_more : (x : ℕ) → 10 ≤ x → length (decimal x) ≡ length (decimal (x / 10)) + 1
length_decimal_more x h = rw (decimal_more x h) (length-append (decimal (x / 10)) (digit_byte (x % 10) ∷ []))

-- a number below 10 ^ k has at most k digits
pub length_decimal_le : (k x : ℕ) → x < 10 ^ suc k → length (decimal x) ≤ suc k
length_decimal_le zero x h = omega (arith, length_decimal_digit x (omega arith))
length_decimal_le (suc k) x h = let rec = length_decimal_le k (x / 10) in
    ⊎_elim (λ e. omega (arith, length_decimal_digit x (ltb-true x 10 e)))
    (λ e. omega (arith, length_decimal_more x (ltb-false x 10 e), rec (omega (arith, pow-succ' 10 (suc k))))) (bool_cases (ltb x 10))

-- ---- digits filled in from the last on, place i the next

pub record Digits (x rest i : ℕ) (ds : List ℕ) : Type 0 where
  pub inside : i < length ds
  pub fits : rest < 10 ^ suc i
  pub are : decimal x ≡ decimal rest ++ drop (suc i) ds

pub digits_start : (x i : ℕ) (ds : List ℕ) → length ds ≡ suc i → x < 10 ^ suc i → Digits x x i ds
digits_start x i ds l h = let past : length ds ≤ suc i = omega arith in record {
  inside = omega arith;
  fits = h;
  are = sym (append-nil (decimal x)) ∙ ap (λ (xs : List ℕ). decimal x ++ xs) (sym (drop_of_length-le ds past));
}

-- with two digits to go there is a place before
pub digits_before : (rest i : ℕ) → 10 ≤ rest → rest < 10 ^ suc i → 0 < i
digits_before rest zero h k = absurd (omega arith)
digits_before rest (suc i) h k = omega arith

-- the digit at its place, before those that are there
digit_set : (i d : ℕ) (ds : List ℕ) → i < length ds → drop i (set ds i d) ≡ d ∷ drop (suc i) ds
digit_set i d [] h = absurd (omega arith)
digit_set zero d (x ∷ ds) h = refl
digit_set (suc i) d (x ∷ ds) h = digit_set i d ds (omega arith)

pub digits_next : {x rest i j : ℕ} {ds : List ℕ} → 10 ≤ rest → i ≡ suc j → Digits x rest i ds
    → Digits x (rest / 10) j (set ds i (digit_byte (rest % 10)))
digits_next {x = x} {rest = rest} {i = i} {j = j} {ds = ds} h e p = record {
  inside = omega (arith, p.inside, length-set ds i (digit_byte (rest % 10)));
  fits = omega (arith, p.fits, pow-succ' 10 i, ap (λ (k : ℕ). 10 ^ k) e);
  are = p.are
      ∙ ap (λ (xs : List ℕ). xs ++ drop (suc i) ds) (decimal_more rest h)
      ∙ append_assoc (decimal (rest / 10)) (digit_byte (rest % 10) ∷ []) (drop (suc i) ds)
      ∙ ap (λ (xs : List ℕ). decimal (rest / 10) ++ xs)
      (sym (digit_set i (digit_byte (rest % 10)) ds p.inside) ∙ ap (λ (k : ℕ). drop k (set ds i (digit_byte (rest % 10)))) e);
}

pub digits_end : {x rest i : ℕ} {ds : List ℕ} → rest < 10 → Digits x rest i ds → drop i (set ds i (digit_byte rest)) ≡ decimal x
digits_end {x = x} {rest = rest} {i = i} {ds = ds} h p =
    digit_set i (digit_byte rest) ds p.inside
    ∙ ap (λ (xs : List ℕ). xs ++ drop (suc i) ds) (sym (decimal_digit rest h)) ∙ sym p.are
