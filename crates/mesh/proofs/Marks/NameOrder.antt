-- The order of names, by bytes: a strict total order of lists.
use Rattle.std.specs.Prelude.{◌≡◌, ◌⊎◌, ◌&&◌, ◌∷◌, ◌<◌}
use Rattle.lists.specs.Kit.{refl, sym, inl, inr, true, false, List, [], ℕ, arith, ltb, eqb, ltb-true, eqb-true, lt-ltb, eq-eqb}
use Rattle.lists.specs.Kit.{⊎_elim}
use Rattle.lists.{specs.Lists.{same}, proofs.Tests.{never, and_left, and_right, and_both, or_left, or_right, or_cases, bool_cases, trichotomy}}
use Rattle.lists.proofs.All.{same_eq}
use Rattle.mesh.specs.Marks.{before}

-- ---- at the first byte

pub before_less : (a b : ℕ) (x y : List ℕ) → a < b → before (a ∷ x) (b ∷ y) ≡ true
unfolding before
before_less a b x y h = or_left (ltb a b) (eqb a b && before x y) (lt-ltb a b h)

pub before_equal : (a b : ℕ) (x y : List ℕ) → a ≡ b → before x y ≡ true → before (a ∷ x) (b ∷ y) ≡ true
unfolding before
before_equal a b x y e h = or_right (ltb a b) (eqb a b && before x y) (and_both (eqb a b) (before x y) (eq-eqb a b e) h)

pub before_cases : (a b : ℕ) (x y : List ℕ) → before (a ∷ x) (b ∷ y) ≡ true → (a < b) ⊎ ((a ≡ b) × (before x y ≡ true))
unfolding before
before_cases a b x y h =
    ⊎_elim (λ p. inl (ltb-true a b p)) (λ p. inr (eqb-true a b (and_left (eqb a b) (before x y) p), and_right (eqb a b) (before x y) p))
    (or_cases (ltb a b) (eqb a b && before x y) h)

-- ---- a strict total order

pub before_trans : (x y z : List ℕ) → before x y ≡ true → before y z ≡ true → before x z ≡ true
unfolding before
before_trans x [] z p q = never false p refl
before_trans x (b ∷ y) [] p q = never false q refl
before_trans [] (b ∷ y) (c ∷ z) p q = refl
before_trans (a ∷ x) (b ∷ y) (c ∷ z) p q = go (before_trans x y z) (before_cases a b x y p) (before_cases b c y z q)
  where
    go : (before x y ≡ true → before y z ≡ true → before x z ≡ true) → (a < b) ⊎ ((a ≡ b) × (before x y ≡ true))
        → (b < c) ⊎ ((b ≡ c) × (before y z ≡ true)) → before (a ∷ x) (c ∷ z) ≡ true
    go rec (inl h) (inl k) = before_less a c x z (omega arith)
    go rec (inl h) (inr k) = before_less a c x z (omega (arith, k.0))
    go rec (inr h) (inl k) = before_less a c x z (omega (arith, h.0))
    go rec (inr h) (inr k) = before_equal a c x z (omega (arith, h.0, k.0)) (rec h.1 k.1)

pub before_self : (x : List ℕ) → before x x ≡ true → ⊥
unfolding before
before_self [] p = never false p refl
before_self (a ∷ x) p = let rec = before_self x in ⊎_elim (λ h. absurd (omega arith)) (λ h. rec h.1) (before_cases a a x x p)

pub before_differ : (x y : List ℕ) → before x y ≡ true → same y x ≡ false
before_differ x y p = ⊎_elim (λ e. absurd (before_self y (rw (← same_eq y x e) at p))) (λ e. e) (bool_cases (same y x))

pub before_total : (x y : List ℕ) → before x y ≡ false → same y x ≡ false → before y x ≡ true
unfolding before same
before_total [] [] p q = never true refl q
before_total [] (b ∷ y) p q = never true refl p
before_total (a ∷ x) [] p q = refl
before_total (a ∷ x) (b ∷ y) p q = go (before_total x y) (trichotomy a b)
  where
    equal : a ≡ b → (before x y ≡ false → same y x ≡ false → before y x ≡ true) → (before x y ≡ true) ⊎ (before x y ≡ false)
        → (same y x ≡ true) ⊎ (same y x ≡ false) → before (b ∷ y) (a ∷ x) ≡ true
    equal e rec (inl h) k = never (before (a ∷ x) (b ∷ y)) (before_equal a b x y e h) p
    equal e rec (inr h) (inl k) = never (same (b ∷ y) (a ∷ x)) (and_both (eqb b a) (same y x) (eq-eqb b a (sym e)) k) q
    equal e rec (inr h) (inr k) = before_equal b a y x (sym e) (rec h k)

    go : (before x y ≡ false → same y x ≡ false → before y x ≡ true) → (a < b) ⊎ ((a ≡ b) ⊎ (b < a)) → before (b ∷ y) (a ∷ x) ≡ true
    go rec (inl h) = never (before (a ∷ x) (b ∷ y)) (before_less a b x y h) p
    go rec (inr (inl e)) = equal e rec (bool_cases (before x y)) (bool_cases (same y x))
    go rec (inr (inr h)) = before_less b a y x h
