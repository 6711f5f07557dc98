-- The numbers after a verb: a law for each way through `arguments::given`.
use Rattle.std.specs.Prelude.{◌≡◌, ◌∷◌, ◌≤◌, ◌<◌, Some, None}
use Rattle.lists.specs.Kit.{refl, true, cond, List, [], ℕ, arith, ltb, length, get_or, eq-eqb, ne_eqb, lt-ltb, le-ltb}
use Rattle.script.specs.Texts.{value_of, alone_of}
use Rattle.site_program.specs.Given.{is_name, numbers, given_of}

pub given_other : (takes count : ℕ) (v k : List ℕ) → (takes ≡ count → ⊥) → None ≡ given_of takes count v k
unfolding given_of
given_other takes count v k h = rw (ne_eqb takes count h)

module _ (takes count : ℕ) (v k : List ℕ) (many : takes ≡ count) where
  pub given_none : takes ≡ 0 → numbers 0 0 ≡ given_of takes count v k
  unfolding given_of
  given_none h = rw (eq-eqb takes count many, eq-eqb takes 0 h)

  module _ (some : takes ≡ 0 → ⊥) where
    pub given_bad : None ≡ value_of (alone_of v) → None ≡ given_of takes count v k
    unfolding given_of
    given_bad e = rw (eq-eqb takes count many, ne_eqb takes 0 some, ← e)

    module _ (a : ℕ) (e : Some a ≡ value_of (alone_of v)) where
      pub given_one : takes ≡ 1 → numbers a 0 ≡ given_of takes count v k
      unfolding given_of
      given_one h = rw (eq-eqb takes count many, ne_eqb takes 0 some, ← e, eq-eqb takes 1 h)

      module _ (two : takes ≡ 1 → ⊥) where
        pub given_second_bad : None ≡ value_of (alone_of k) → None ≡ given_of takes count v k
        unfolding given_of
        given_second_bad f = rw (eq-eqb takes count many, ne_eqb takes 0 some, ← e, ne_eqb takes 1 two, ← f)

        pub given_two : (b : ℕ) → Some b ≡ value_of (alone_of k) → numbers a b ≡ given_of takes count v k
        unfolding given_of
        given_two b f = rw (eq-eqb takes count many, ne_eqb takes 0 some, ← e, ne_eqb takes 1 two, ← f)

-- ---- the name of a file

pub name_none : (w : List ℕ) → length w ≡ 0 → true ≡ is_name w
unfolding is_name
name_none [] h = refl
name_none (b ∷ bs) h = absurd (omega (arith, h))

name_byte : (w : List ℕ) → (length w ≡ 0 → ⊥) → cond (ltb (get_or w 0 0) 48) true (ltb 57 (get_or w 0 0)) ≡ is_name w
unfolding is_name
name_byte [] h = absurd (h refl)
name_byte (b ∷ bs) h = refl

pub name_below : (w : List ℕ) → (length w ≡ 0 → ⊥) → get_or w 0 0 < 48 → true ≡ is_name w
name_below w some h = rw (← name_byte w some, lt-ltb (get_or w 0 0) 48 h)

pub name_above : (w : List ℕ) → (length w ≡ 0 → ⊥) → 48 ≤ get_or w 0 0 → ltb 57 (get_or w 0 0) ≡ is_name w
name_above w some h = rw (← name_byte w some, le-ltb (get_or w 0 0) 48 h)
