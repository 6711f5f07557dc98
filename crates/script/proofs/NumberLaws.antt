-- A number read from its decimal digits is that number, and what is read as a number is its decimal digits.
use Rattle.std.specs.Prelude.{◌≡◌, ◌⊎◌, ◌∷◌, ◌++◌, ◌+◌, ◌*◌, ◌-◌, ◌/◌, ◌%◌, ◌≤◌, ◌<◌}
use Rattle.lists.{specs.Kit.{refl, sym, ap, ◌∙◌, inl, inr, true, false, List, [], append_assoc, ℕ, zero, suc}}
use Rattle.lists.{specs.Kit.{arith, ltb, leb, eqb, ltb-true, ltb-false, leb-true, eqb-true, eqb-false, le-leb, ne_eqb}, proofs.Tests.{bool_cases}}
use Rattle.lists.{proofs.Tests.{and_left, and_right, and_both}, proofs.All.{same_eq}, specs.Lists.{same}}
use Rattle.text.{specs.Text.{line_feed, digit_byte, decimal}, proofs.DecimalLaws.{decimal_digit, decimal_more, decimal_append}}
use Rattle.script.specs.Lines.{max_value, Read, got, none, is_digit, digits_on, number_of, ended, last_number_of}

-- ---- is_digit

pub is_digit_byte : (d : ℕ) → d < 10 → is_digit (digit_byte d) ≡ true
unfolding is_digit digit_byte
is_digit_byte d h =
    and_both (leb 48 (48 + d)) (leb (48 + d) 57) (le-leb 48 (48 + d) (omega arith)) (le-leb (48 + d) 57 (omega arith))

-- a digit's value and its byte
pub digit_bound : (b : ℕ) → is_digit b ≡ true → b - digit_byte 0 < 10
unfolding is_digit digit_byte
digit_bound b h = omega (arith, leb-true b 57 (and_right (leb 48 b) (leb b 57) h))

pub digit_byte_of : (b : ℕ) → is_digit b ≡ true → digit_byte (b - digit_byte 0) ≡ b
unfolding is_digit digit_byte
digit_byte_of b h = omega (arith, leb-true 48 b (and_left (leb 48 b) (leb b 57) h))

-- ---- digits read from decimal

pub digits_on_digit : (v d : ℕ) (ys : List ℕ) → d < 10 → 10 * v + d ≤ max_value
    → digits_on v (digit_byte d ∷ ys) ≡ digits_on (10 * v + d) ys
unfolding digits_on digit_byte
digits_on_digit v d ys h k =
    let e : 10 * v + (48 + d - 48) ≡ 10 * v + d = omega arith in
    rw (is_digit_byte d h, e, le-leb (10 * v + d) 65535 k)

pub number_of_digit : (d : ℕ) (ys : List ℕ) → 0 < d → d < 10 → number_of (digit_byte d ∷ ys) ≡ digits_on d ys
unfolding number_of digit_byte
number_of_digit d ys h k =
    let n : (48 + d ≡ 48 → ⊥) = λ q. omega arith in
    let e : 48 + d - 48 ≡ d = omega arith in
    rw (ne_eqb (48 + d) 48 n, is_digit_byte d k, e)

-- as many turns as x are enough
digits_decimal : (t x : ℕ) (ys : List ℕ) → x ≤ t → 0 < x → x ≤ max_value → number_of (decimal x ++ ys) ≡ digits_on x ys
digits_decimal zero x ys h p m = absurd (omega arith)
digits_decimal (suc t) x ys h p m = go (digits_decimal t (x / 10) (digit_byte (x % 10) ∷ ys)) (bool_cases (ltb x 10))
  where
    go : (x / 10 ≤ t → 0 < x / 10 → x / 10 ≤ max_value → number_of (decimal (x / 10) ++ (digit_byte (x % 10) ∷ ys)) ≡ digits_on (x / 10)
        (digit_byte (x % 10) ∷ ys))
        → (ltb x 10 ≡ true) ⊎ (ltb x 10 ≡ false) → number_of (decimal x ++ ys) ≡ digits_on x ys
    go rec (inl e) = let k = ltb-true x 10 e in rw (decimal_digit x k) (number_of_digit x ys p k)
    go rec (inr e) =
        let k = ltb-false x 10 e in
        let whole : 10 * (x / 10) + x % 10 ≡ x = omega arith in
        ap (λ (ds : List ℕ). number_of (ds ++ ys)) (decimal_more x k)
        ∙ ap number_of (append_assoc (decimal (x / 10)) (digit_byte (x % 10) ∷ []) ys)
        ∙ rec (omega arith) (omega arith) (omega arith)
        ∙ digits_on_digit (x / 10) (x % 10) ys (omega arith) (omega arith)
        ∙ ap (λ (v : ℕ). digits_on v ys) whole

-- a number is read back, up to a byte that is no digit
pub number_of_decimal : (x b : ℕ) (bs : List ℕ) → x ≤ max_value → is_digit b ≡ false → number_of (decimal x ++ b ∷ bs) ≡ got x (b ∷ bs)
unfolding number_of digits_on decimal digit_byte
number_of_decimal zero b bs m h = refl
number_of_decimal (suc x) b bs m h = digits_decimal (suc x) (suc x) (b ∷ bs) (omega arith) (omega arith) m ∙ rw h

pub last_number_of_decimal : (x : ℕ) → x ≤ max_value → last_number_of (decimal x ++ line_feed ∷ []) ≡ got x (line_feed ∷ [])
unfolding last_number_of ended is_digit digit_byte same
last_number_of_decimal x m = rw (number_of_decimal x line_feed [] m refl)

-- ---- decimal from what is read

-- the text s is the number's digits and then the rest, and the number is not too large
pub record Reads (s : List ℕ) (value : ℕ) (rest : List ℕ) : Type 0 where
  pub text : s ≡ decimal value ++ rest
  pub small : value ≤ max_value

digits_text : (v w : ℕ) (s rest : List ℕ) → 0 < v → v ≤ max_value → digits_on v s ≡ got w rest → Reads (decimal v ++ s) w rest
unfolding digits_on
digits_text v w [] rest p m e =
    let ev : v ≡ w = cc in
    let er : [] ≡ rest = cc in
    record { text = rw (ev, er); small = omega arith }
digits_text v w (b ∷ bs) rest p m e = go (λ q l. digits_text (10 * v + (b - digit_byte 0)) w bs rest q l) (bool_cases (is_digit b))
  where
    go : (0 < 10 * v + (b - digit_byte 0) → 10 * v + (b - digit_byte 0) ≤ max_value → digits_on (10 * v + (b - digit_byte 0)) bs ≡ got w rest → Reads
        (decimal (10 * v + (b - digit_byte 0)) ++ bs) w rest)
        → (is_digit b ≡ true) ⊎ (is_digit b ≡ false) → Reads (decimal v ++ b ∷ bs) w rest
    go rec (inr d) =
        let f : got v (b ∷ bs) ≡ got w rest = rw d at e in
        let ev : v ≡ w = cc in
        let er : b ∷ bs ≡ rest = cc in
        record { text = rw (ev, er); small = omega arith }
    go rec (inl d) = step (bool_cases (leb (10 * v + (b - digit_byte 0)) max_value))
      where
        step : (leb (10 * v + (b - digit_byte 0)) max_value ≡ true) ⊎ (leb (10 * v + (b - digit_byte 0)) max_value ≡ false) → Reads (decimal v ++ b ∷ bs) w rest
        step (inr l) = let z : none ≡ got w rest = rw (d, l) at e in absurd (let n : ◌≡◌ {A = ℕ} 0 1 = cc in omega arith)
        step (inl l) =
            let r = rec (omega arith) (leb-true (10 * v + (b - digit_byte 0)) max_value l) (rw (d, l) at e) in
            record {
              text = sym (append_assoc (decimal v) (b ∷ []) bs)
                  ∙ ap (λ (ds : List ℕ). ds ++ bs) (sym
                  (decimal_append v (b - digit_byte 0) p (digit_bound b d) ∙ ap (λ (x : ℕ). decimal v ++ (x ∷ [])) (digit_byte_of b d)))
                  ∙ r.text;
              small = r.small;
            }

pub number_of_text : (s rest : List ℕ) (x : ℕ) → number_of s ≡ got x rest → Reads s x rest
unfolding number_of decimal digit_byte
number_of_text [] rest x e = absurd (let n : ◌≡◌ {A = ℕ} 0 1 = cc in omega arith)
number_of_text (b ∷ bs) rest x e = go (bool_cases (eqb b (digit_byte 0)))
  where
    digit : eqb b (digit_byte 0) ≡ false → (is_digit b ≡ true) ⊎ (is_digit b ≡ false) → Reads (b ∷ bs) x rest
    digit z (inr d) = let f : none ≡ got x rest = rw (z, d) at e in absurd (let n : ◌≡◌ {A = ℕ} 0 1 = cc in omega arith)
    digit z (inl d) =
        let small = digit_bound b d in
        let r = digits_text (b - digit_byte 0) x bs rest (omega (arith, digit_byte_of b d, eqb-false b (digit_byte 0) z)) (omega arith) (rw (z, d) at e) in
        record {
          text = ap (λ (ds : List ℕ). ds ++ bs) (sym (decimal_digit (b - digit_byte 0) small ∙ ap (λ (y : ℕ). y ∷ []) (digit_byte_of b d))) ∙ r.text;
          small = r.small;
        }

    go : (eqb b (digit_byte 0) ≡ true) ⊎ (eqb b (digit_byte 0) ≡ false) → Reads (b ∷ bs) x rest
    go (inl z) =
        let f : got 0 bs ≡ got x rest = rw z at e in
        let ex : 0 ≡ x = cc in
        let er : bs ≡ rest = cc in
        record { text = rw (eqb-true b (digit_byte 0) z, ← ex, er); small = omega arith }
    go (inr z) = digit z (bool_cases (is_digit b))

-- nothing but the line feed is left after the last number
pub last_number_of_text : (s rest : List ℕ) (x : ℕ) → last_number_of s ≡ got x rest → Reads s x (line_feed ∷ [])
unfolding last_number_of ended
last_number_of_text s rest x e = go (number_of s) refl e
  where
    go : (r : Read) → number_of s ≡ r → ended r ≡ got x rest → Reads s x (line_feed ∷ [])
    go none p q = absurd (let n : ◌≡◌ {A = ℕ} 0 1 = cc in omega arith)
    go (got y ys) p q = ends (bool_cases (same ys (line_feed ∷ [])))
      where
        ends : (same ys (line_feed ∷ []) ≡ true) ⊎ (same ys (line_feed ∷ []) ≡ false) → Reads s x (line_feed ∷ [])
        ends (inr d) = let f : none ≡ got x rest = rw d at q in absurd (let n : ◌≡◌ {A = ℕ} 0 1 = cc in omega arith)
        ends (inl d) =
            let f : got y ys ≡ got x rest = rw d at q in
            let ex : y ≡ x = cc in
            rw (ex, same_eq ys (line_feed ∷ []) d) at (number_of_text s ys y p)
