-- One bit of a links table by shift and mask: what the code computes is what `marked` and `put_bit` name.
use Rattle.std.specs.Prelude.{◌≡◌, ◌+◌, ◌*◌, ◌-◌, ◌/◌, ◌%◌, ◌^◌, ◌≤◌, ◌<◌}
use Rattle.lists.specs.Kit.{ap, ◌∙◌, Bool, true, false, List, ℕ, zero, suc, arith, mod-lt, zero-lt-suc, one-mul}
use Rattle.lists.specs.Kit.{mod-eq_of_lt, pow-succ', le_of_suc-le-suc, eqb, bit_and, bit_or, and_step, or_step, and_mask, or_zero_r, length, get_or, set}
use Rattle.lists.specs.Kit.{List·getD-eq-default, set_out}
use lib.Pow.{pow_pos, pow-lt}
use Rattle.mesh.{specs.Tables.{digit, byte_at, marked, put_digit, put_bit}, proofs.Tables.Digits.{digit_nothing, put_digit_zero, put_digit_suc}}

-- ---- one digit put: `|` with its mask sets it, `&` with the mask's complement clears it

pub put_digit_true : (x i : ℕ) → bit_or x (2 ^ i) ≡ put_digit true x i
put_digit_true x zero = omega (arith, or_step x 1, or_zero_r (x / 2), put_digit_zero true x)
put_digit_true x (suc i) =
    let half : 2 ^ suc i / 2 ≡ 2 ^ i = omega (arith, pow-succ' 2 i) in
    let even : 2 ^ suc i % 2 ≡ 0 = omega (arith, pow-succ' 2 i) in
    omega (arith, or_step x (2 ^ suc i), ap (bit_or (x / 2)) half, put_digit_true (x / 2) i, put_digit_suc true x i)

pub put_digit_false : (k x i : ℕ) → i < k → x < 2 ^ k → bit_and x (2 ^ k - 1 - 2 ^ i) ≡ put_digit false x i
put_digit_false zero x i l h = absurd (omega arith)
put_digit_false (suc k) x zero l h =
    let p = pow-succ' 2 k in
    let half : (2 ^ suc k - 1 - 2 ^ 0) / 2 ≡ 2 ^ k - 1 = omega (arith, pow_pos k) in
    let even : (2 ^ suc k - 1 - 2 ^ 0) % 2 ≡ 0 = omega (arith, pow_pos k) in
    let small : x / 2 < 2 ^ k = omega arith in
    omega (arith, and_step x (2 ^ suc k - 1 - 2 ^ 0), ap (bit_and (x / 2)) half, and_mask (x / 2) k, mod-eq_of_lt small, put_digit_zero false x)
put_digit_false (suc k) x (suc i) l h =
    let p = pow-succ' 2 k in
    let q = pow-succ' 2 i in
    let low = le_of_suc-le-suc l in
    let less : 2 ^ i < 2 ^ k = pow-lt low in
    let half : (2 ^ suc k - 1 - 2 ^ suc i) / 2 ≡ 2 ^ k - 1 - 2 ^ i = omega arith in
    let odd : (2 ^ suc k - 1 - 2 ^ suc i) % 2 ≡ 1 = omega arith in
    omega (arith, and_step x (2 ^ suc k - 1 - 2 ^ suc i), ap (bit_and (x / 2)) half, put_digit_false k (x / 2) i low (omega arith), put_digit_suc false x i)

-- ---- a bit of the table as the code reads and writes it

mask_value : (b : ℕ) → 1 * 2 ^ (b % 8) % 256 ≡ 2 ^ (b % 8)
mask_value b = ap (λ (x : ℕ). x % 256) (one-mul (2 ^ (b % 8))) ∙ mod-eq_of_lt (pow-lt (mod-lt b (zero-lt-suc 7)))

pub marked_shift : (ts : List ℕ) (a b : ℕ) → eqb (bit_and (get_or ts (64 * a + b / 8) 0 / 2 ^ (b % 8)) 1) 1 ≡ marked ts a b
unfolding marked byte_at digit
marked_shift ts a b = ap (λ (x : ℕ). eqb x 1) (and_mask (get_or ts (64 * a + b / 8) 0 / 2 ^ (b % 8)) 1)

pub marked_past : (ts : List ℕ) (a b : ℕ) → length ts ≤ 64 * a + b / 8 → marked ts a b ≡ false
unfolding marked byte_at
marked_past ts a b h = rw (List·getD-eq-default ts 0 h) (digit_nothing (b % 8))

pub put_bit_true : (ts : List ℕ) (a b : ℕ)
    → set ts (64 * a + b / 8) (bit_or (get_or ts (64 * a + b / 8) 0) (1 * 2 ^ (b % 8) % 256)) ≡ put_bit true a b ts
unfolding put_bit byte_at
put_bit_true ts a b = rw (mask_value b, put_digit_true (get_or ts (64 * a + b / 8) 0) (b % 8))

pub put_bit_false : (ts : List ℕ) (a b : ℕ) → get_or ts (64 * a + b / 8) 0 < 256
    → set ts (64 * a + b / 8) (bit_and (get_or ts (64 * a + b / 8) 0) (255 - 1 * 2 ^ (b % 8) % 256)) ≡ put_bit false a b ts
unfolding put_bit byte_at
put_bit_false ts a b h = rw (mask_value b, put_digit_false 8 (get_or ts (64 * a + b / 8) 0) (b % 8) (mod-lt b (zero-lt-suc 7)) h)

pub put_bit_past : (on : Bool) (ts : List ℕ) (a b : ℕ) → length ts ≤ 64 * a + b / 8 → put_bit on a b ts ≡ ts
unfolding put_bit byte_at
put_bit_past on ts a b h = set_out ts (64 * a + b / 8) (put_digit on (get_or ts (64 * a + b / 8) 0) (b % 8)) h
