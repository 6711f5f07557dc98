-- Laws of the digits of a number, and of one digit put.
use Rattle.std.specs.Prelude.{◌≡◌, ◌⊎◌, ◌+◌, ◌*◌, ◌-◌, ◌/◌, ◌%◌, ◌^◌, ◌≤◌, ◌<◌}
use Rattle.lists.specs.Kit.{refl, sym, ap, ◌∙◌, inl, inr, Bool, true, false, cond, ℕ, zero, suc, arith}
use Rattle.lists.specs.Kit.{pow-succ', div-div-eq-div-mul, zero-div, eqb, eqb·zero-suc, eqb·suc-zero, eqb·suc-suc, eqb-true, eqb-false, ⊎_elim}
use Rattle.lists.proofs.Tests.{bool_cases, bit_one, bit_digit}
use Rattle.mesh.specs.Tables.{digit, put_digit, from_digits}

-- ---- digits of a number

pub digit_zero : (x : ℕ) → digit x 0 ≡ eqb (x % 2) 1
unfolding digit
digit_zero x = let e : x / 2 ^ 0 % 2 ≡ x % 2 = omega arith in ap (λ (y : ℕ). eqb y 1) e

pub digit_suc : (x i : ℕ) → digit x (suc i) ≡ digit (x / 2) i
unfolding digit
digit_suc x i = rw (pow-succ' 2 i, ← (div-div-eq-div-mul x 2 (2 ^ i)))

pub from_digits_less : (k : ℕ) (f : ℕ → Bool) → from_digits k f < 2 ^ k
unfolding from_digits
from_digits_less zero f = omega arith
from_digits_less (suc k) f = omega (arith, pow-succ' 2 k, bit_one (f 0), from_digits_less k (λ i. f (suc i)))

pub digit_from_digits : (k : ℕ) (f : ℕ → Bool) (i : ℕ) → i < k → digit (from_digits k f) i ≡ f i
unfolding from_digits
digit_from_digits zero f i h = absurd (omega arith)
digit_from_digits (suc k) f zero h =
    let e : (cond (f 0) 1 0 + 2 * from_digits k (λ i. f (suc i))) % 2 ≡ cond (f 0) 1 0 = omega (arith, bit_one (f 0)) in
    digit_zero (from_digits (suc k) f) ∙ ap (λ (x : ℕ). eqb x 1) e ∙ bit_digit (f 0)
digit_from_digits (suc k) f (suc i) h =
    let e : (cond (f 0) 1 0 + 2 * from_digits k (λ i. f (suc i))) / 2 ≡ from_digits k (λ i. f (suc i)) = omega (arith, bit_one (f 0)) in
    digit_suc (from_digits (suc k) f) i ∙ ap (λ (x : ℕ). digit x i) e ∙ digit_from_digits k (λ i. f (suc i)) i (omega arith)

pub digit_nothing : (i : ℕ) → digit 0 i ≡ false
unfolding digit
digit_nothing i = rw (zero-div)

half_less : (k x : ℕ) → x < 2 ^ suc k → x / 2 < 2 ^ k
half_less k x h = omega (arith, pow-succ' 2 k)

-- a number below 2 ^ k is told by its k digits
pub digits_eq : (k x y : ℕ) → x < 2 ^ k → y < 2 ^ k → ((i : ℕ) → i < k → digit x i ≡ digit y i) → x ≡ y
digits_eq zero x y h g e = omega arith
digits_eq (suc k) x y h g e = omega (
  arith,
  lowest (sym (digit_zero x) ∙ e 0 (omega arith) ∙ digit_zero y),
  digits_eq k (x / 2) (y / 2) (half_less k x h) (half_less k y g) (λ i l. sym (digit_suc x i) ∙ e (suc i) (omega arith) ∙ digit_suc y i),
)
  where
    lowest : eqb (x % 2) 1 ≡ eqb (y % 2) 1 → x % 2 ≡ y % 2
    lowest q =
        ⊎_elim (λ p. omega (arith, eqb-true (y % 2) 1 p, eqb-true (x % 2) 1 (q ∙ p))) (λ p. omega (arith, eqb-false (y % 2) 1 p, eqb-false (x % 2) 1 (q ∙ p)))
        (bool_cases (eqb (y % 2) 1))

-- ---- one digit put

-- a digit that is set weighs in
digit_le : (x i : ℕ) → digit x i ≡ true → 2 ^ i ≤ x
digit_le x zero h = omega (arith, eqb-true (x % 2) 1 (sym (digit_zero x) ∙ h))
digit_le x (suc i) h = omega (arith, pow-succ' 2 i, digit_le (x / 2) i (sym (digit_suc x i) ∙ h))

pub put_digit_zero : (on : Bool) (x : ℕ) → put_digit on x 0 ≡ cond on 1 0 + 2 * (x / 2)
unfolding put_digit
put_digit_zero on x = rw (digit_zero x) (go (bool_cases (eqb (x % 2) 1)))
  where
    go : (eqb (x % 2) 1 ≡ true) ⊎ (eqb (x % 2) 1 ≡ false) → cond (eqb (x % 2) 1) (x - 2 ^ 0) x + cond on (2 ^ 0) 0 ≡ cond on 1 0 + 2 * (x / 2)
    go (inl e) = rw e (omega (arith, eqb-true (x % 2) 1 e))
    go (inr e) = rw e (omega (arith, eqb-false (x % 2) 1 e))

pub put_digit_suc : (on : Bool) (x i : ℕ) → put_digit on x (suc i) ≡ x % 2 + 2 * put_digit on (x / 2) i
unfolding put_digit
put_digit_suc on x i = rw (digit_suc x i) (omega (arith, go (bool_cases (digit (x / 2) i)), bit on))
  where
    bit : (t : Bool) → cond t (2 ^ suc i) 0 ≡ 2 * cond t (2 ^ i) 0
    bit true = pow-succ' 2 i
    bit false = refl

    go : (digit (x / 2) i ≡ true) ⊎ (digit (x / 2) i ≡ false)
        → cond (digit (x / 2) i) (x - 2 ^ suc i) x ≡ x % 2 + 2 * cond (digit (x / 2) i) (x / 2 - 2 ^ i) (x / 2)
    go (inl e) = rw e (omega (arith, pow-succ' 2 i, digit_le (x / 2) i e))
    go (inr e) = rw e (omega arith)

pub digit_put_digit : (on : Bool) (x i j : ℕ) → digit (put_digit on x i) j ≡ cond (eqb i j) on (digit x j)
digit_put_digit on x zero zero =
    let e : (cond on 1 0 + 2 * (x / 2)) % 2 ≡ cond on 1 0 = omega (arith, bit_one on) in
    rw (digit_zero (put_digit on x 0), put_digit_zero on x, e) (bit_digit on)
digit_put_digit on x zero (suc j) =
    let e : (cond on 1 0 + 2 * (x / 2)) / 2 ≡ x / 2 = omega (arith, bit_one on) in
    rw (digit_suc (put_digit on x 0) j, put_digit_zero on x, e, digit_suc x j, eqb·zero-suc j)
digit_put_digit on x (suc i) zero =
    let e : (x % 2 + 2 * put_digit on (x / 2) i) % 2 ≡ x % 2 = omega arith in
    rw (digit_zero (put_digit on x (suc i)), put_digit_suc on x i, e, digit_zero x, eqb·suc-zero i)
digit_put_digit on x (suc i) (suc j) =
    let e : (x % 2 + 2 * put_digit on (x / 2) i) / 2 ≡ put_digit on (x / 2) i = omega arith in
    rw (digit_suc (put_digit on x (suc i)) j, put_digit_suc on x i, e, digit_suc x j, eqb·suc-suc i j) (digit_put_digit on (x / 2) i j)

pub put_digit_less : (on : Bool) (k x i : ℕ) → i < k → x < 2 ^ k → put_digit on x i < 2 ^ k
put_digit_less on zero x i l h = absurd (omega arith)
put_digit_less on (suc k) x zero l h = omega (arith, pow-succ' 2 k, put_digit_zero on x, bit_one on)
put_digit_less on (suc k) x (suc i) l h =
    omega (arith, pow-succ' 2 k, put_digit_suc on x i, put_digit_less on k (x / 2) i (omega arith) (half_less k x h))
