-- Laws of tests: cases, && and ||, a test as 0 or 1, `cond`.
use Rattle.std.specs.Prelude.{◌≡◌, ◌⊎◌, ◌&&◌, ◌||◌, ◌≤◌, ◌<◌, ◌+◌}
use Rattle.lists.specs.Kit.{refl, sym, inl, inr, Bool, true, false, cond, or-true, Bool·beq, ℕ, arith, ltb, eqb, leb}
use Rattle.lists.specs.Kit.{ltb-true, ltb-false, lt-ltb, leb-true, le-leb}
use mir.Val.{bool_byte}

-- a test as a number
pub byte_bit : (t : Bool) → bool_byte t ≡ cond {A = ℕ} t 1 0
byte_bit true = refl
byte_bit false = refl

-- a test's value, with the equation: what is matched in place of `with`
pub bool_cases : (b : Bool) → (b ≡ true) ⊎ (b ≡ false)
bool_cases true = inl refl
bool_cases false = inr refl

pub never : {A : Type 0} (b : Bool) → b ≡ true → b ≡ false → A
never {A} b p q = absurd (let z : ◌≡◌ {A = ℕ} 0 1 = cc in omega arith)

pub bit_le : (a b : Bool) → (a ≡ true → b ≡ true) → cond {A = ℕ} a 1 0 ≤ cond b 1 0
bit_le true true h = omega arith
bit_le true false h = never false (h refl) refl
bit_le false b h = omega arith

pub bit_one : (a : Bool) → cond {A = ℕ} a 1 0 ≤ 1
bit_one true = omega arith
bit_one false = omega arith

pub and_left : (a b : Bool) → (a && b) ≡ true → a ≡ true
and_left true b h = refl
and_left false b h = h

pub and_right : (a b : Bool) → (a && b) ≡ true → b ≡ true
and_right true b h = h
and_right false b h = never false h refl

pub and_both : (a b : Bool) → a ≡ true → b ≡ true → (a && b) ≡ true
and_both a b p q = cc

pub bit_true : (a : Bool) → a ≡ true → cond {A = ℕ} a 1 0 ≡ 1
bit_true a e = rw e

pub bit_false : (a : Bool) → a ≡ false → cond {A = ℕ} a 1 0 ≡ 0
bit_false a e = rw e

pub or_cases : (a b : Bool) → (a || b) ≡ true → (a ≡ true) ⊎ (b ≡ true)
or_cases true b h = inl refl
or_cases false b h = inr h

pub or_left : (a b : Bool) → a ≡ true → (a || b) ≡ true
or_left a b h = rw h

pub or_right : (a b : Bool) → b ≡ true → (a || b) ≡ true
or_right a b h = rw h (or-true a)

-- tests that pass together are equal
pub iff_eq : (a b : Bool) → (a ≡ true → b ≡ true) → (b ≡ true → a ≡ true) → a ≡ b
iff_eq true b h g = sym (h refl)
iff_eq false true h g = g refl
iff_eq false false h g = refl

pub beq_eq : (a b : Bool) → Bool·beq a b ≡ true → a ≡ b
beq_eq true true h = refl
beq_eq true false h = sym h
beq_eq false true h = h
beq_eq false false h = refl

pub eq_beq : (a b : Bool) → a ≡ b → Bool·beq a b ≡ true
eq_beq true true h = refl
eq_beq true false h = sym h
eq_beq false true h = h
eq_beq false false h = refl

-- below, equal or above
pub trichotomy : (a b : ℕ) → (a < b) ⊎ ((a ≡ b) ⊎ (b < a))
trichotomy a b = go (bool_cases (ltb a b)) (bool_cases (ltb b a))
  where
    go : (ltb a b ≡ true) ⊎ (ltb a b ≡ false) → (ltb b a ≡ true) ⊎ (ltb b a ≡ false) → (a < b) ⊎ ((a ≡ b) ⊎ (b < a))
    go (inl e) q = inl (ltb-true a b e)
    go (inr e) (inl q) = inr (inr (ltb-true b a q))
    go (inr e) (inr q) = inr (inl (omega (arith, ltb-false a b e, ltb-false b a q)))

pub bit_digit : (t : Bool) → eqb (cond t 1 0) 1 ≡ t
bit_digit true = refl
bit_digit false = refl

pub swap_or : (x y z : Bool) → (x || (y || z)) ≡ (y || (x || z))
swap_or true y z = sym (or-true y)
swap_or false y z = refl

-- below the next number is not above the number
pub ltb_next : (a b : ℕ) → ltb a (b + 1) ≡ leb a b
ltb_next a b = iff_eq (ltb a (b + 1)) (leb a b) (λ e. le-leb a b (omega (arith, ltb-true a (b + 1) e))) (λ e. lt-ltb a (b + 1) (omega (arith, leb-true a b e)))

pub cond_false : {A : Type 0} (c : Bool) (x y : A) → c ≡ false → cond c x y ≡ y
cond_false c x y e = rw e

pub cond_true : {A : Type 0} (c : Bool) (x y : A) → c ≡ true → cond c x y ≡ x
cond_true c x y e = rw e
