-- The leaves of a pair tried, as laws of counters and sets.
--   counter_start, ruled_out   what each test of the code says of them
--   Ruling      the radios below i are ruled out or stay
--   held_at     a set of one radio
use Rattle.std.specs.Prelude.{◌≡◌, ◌⊎◌, ◌&&◌, ◌+◌, ◌≤◌, ◌<◌}
use Rattle.lists.{specs.Kit.{refl, ap, subst, ◌∙◌, inl, inr, Bool, true, false, not, cond, List, ℕ, arith, ltb, eqb}}
use Rattle.lists.{specs.Kit.{length, get_or, replicate, length-replicate, eqb-true, eqb-false, eq-eqb, ne_eqb}}
use Rattle.lists.{specs.Kit.{ltb-true, lt-ltb, le-ltb}, proofs.Tests.{bool_cases, iff_eq}, proofs.Parts.{get_d_any}}
use Rattle.mesh.{specs.Limits.{max_radios}}
use Rattle.lift.proofs.CounterLaws.{rules_above, rules_left, rules_taken}
use Rattle.lift.specs.Tries.{counter_start, ruled_out}
use Rattle.rows.specs.Sets.{in_set, take_out, put_in}
use Rattle.lift.proofs.SetLaws.{in_taken}
use Rattle.rows.proofs.SetLaws.{in_set_zeros, in_put_in}

-- ---- the counters before the peel

module _ (k : ℕ) (ns hs : List ℕ) where
  pub start_past : (v : ℕ) → length ns ≤ v → 255 ≡ counter_start k ns hs v
  unfolding counter_start
  start_past v l = rw (le-ltb v (length ns) l)

  pub start_other : (v : ℕ) → v < length ns → (get_or ns v 0 ≡ k → ⊥) → 255 ≡ counter_start k ns hs v
  unfolding counter_start
  start_other v l ne = rw (lt-ltb v (length ns) l, ne_eqb (get_or ns v 0) k ne)

  pub start_own : (v : ℕ) → v < length ns → get_or ns v 0 ≡ k → get_or hs v 0 ≡ counter_start k ns hs v
  unfolding counter_start
  start_own v l e = rw (lt-ltb v (length ns) l, eq-eqb (get_or ns v 0) k e)

-- ---- tests of entries

module _ (k : ℕ) (gone : Bool) (ns cs : List ℕ) (c : ℕ) (l : c < length cs) where
  pub ruled_above : k < get_or ns c 0 → gone ≡ ruled_out k gone ns cs c
  unfolding ruled_out
  ruled_above h = rules_above k gone (get_or ns c 0) (get_or cs c 255) h

  pub ruled_left : get_or ns c 0 ≤ k → get_or cs c 0 < 128 → gone ≡ ruled_out k gone ns cs c
  unfolding ruled_out
  ruled_left h q = rules_left k gone (get_or ns c 0) (get_or cs c 255) h (omega (arith, get_d_any cs c 0 255 l))

  pub ruled_taken : get_or ns c 0 ≤ k → 128 ≤ get_or cs c 0 → ltb (get_or cs c 0) (128 + k) ≡ ruled_out k gone ns cs c
  unfolding ruled_out
  ruled_taken h q =
      ap (λ (x : ℕ). ltb x (128 + k)) (get_d_any cs c 0 255 l) ∙ rules_taken k gone (get_or ns c 0) (get_or cs c 255) h (omega (arith, get_d_any cs c 0 255 l))

-- ---- radios ruled out

-- the radios below i are ruled out or stay
abbrev pub Ruling : (k : ℕ) → (gone : Bool) → (ns cs old : List ℕ) → (i : ℕ) → (new : List ℕ) → Type 0
Ruling k gone ns cs old i new = (c : ℕ) → c < max_radios → in_set new c ≡ (in_set old c && not (ltb c i && ruled_out k gone ns cs c))

module _ (k : ℕ) (gone : Bool) (ns cs old : List ℕ) where
  module _ (i : ℕ) (now : List ℕ) (h : Ruling k gone ns cs old i now) where
    further : (c : ℕ) → (i ≡ c → ⊥) → ltb c i ≡ ltb c (i + 1)
    further c ne =
        iff_eq (ltb c i) (ltb c (i + 1)) (λ q. lt-ltb c (i + 1) (omega (arith, ltb-true c i q)))
        (λ q. let less = ltb-true c (i + 1) q in lt-ltb c i (omega arith))

    pub ruling_in : (next : List ℕ) → i < max_radios → length next ≡ 8 → next ≡ take_out i now → ruled_out k gone ns cs i ≡ true
        → Ruling k gone ns cs old (i + 1) next
    ruling_in next l long e on = λ c lc. in_taken i now next l long e c ∙ at c lc (bool_cases (eqb i c))
      where
        none : (m : Bool) → false ≡ (m && false)
        none true = refl
        none false = refl

        at : (c : ℕ) → c < max_radios → (eqb i c ≡ true) ⊎ (eqb i c ≡ false)
            → cond (eqb i c) false (in_set now c) ≡ (in_set old c && not (ltb c (i + 1) && ruled_out k gone ns cs c))
        at c lc (inl q) =
            subst (λ (x : ℕ). cond (eqb i x) false (in_set now x) ≡ (in_set old x && not (ltb x (i + 1) && ruled_out k gone ns cs x))) (eqb-true i c q)
            (rw (eq-eqb i i refl, lt-ltb i (i + 1) (omega arith), on) (none (in_set old i)))
        at c lc (inr q) = rw (q, ← further c (eqb-false i c q)) (h c lc)

    pub ruling_out : ruled_out k gone ns cs i ≡ false → Ruling k gone ns cs old (i + 1) now
    ruling_out off = λ c lc. h c lc ∙ at c (bool_cases (eqb i c))
      where
        at : (c : ℕ) → (eqb i c ≡ true) ⊎ (eqb i c ≡ false)
            → (in_set old c && not (ltb c i && ruled_out k gone ns cs c)) ≡ (in_set old c && not (ltb c (i + 1) && ruled_out k gone ns cs c))
        at c (inl q) =
            subst (λ (x : ℕ). (in_set old x && not (ltb x i && ruled_out k gone ns cs x)) ≡ (in_set old x && not (ltb x (i + 1) && ruled_out k gone ns cs x)))
            (eqb-true i c q) (rw (off, le-ltb i i (omega arith), lt-ltb i (i + 1) (omega arith)) refl)
        at c (inr q) = rw (← further c (eqb-false i c q)) refl

-- ---- one radio held

module _ (b : ℕ) (small : b < max_radios) (held : List ℕ) (put : held ≡ put_in b (replicate 8 0)) where
  pub held_at : (w : ℕ) → w < max_radios → in_set held w ≡ eqb b w
  held_at w lw =
      ap (λ (xs : List ℕ). in_set xs w) put ∙ in_put_in b w (replicate 8 0) (omega (arith, length-replicate {A = ℕ} 8 0))
      ∙ rw (in_set_zeros 8 w) (same (eqb b w))
    where
      same : (t : Bool) → cond t true false ≡ t
      same true = refl
      same false = refl
