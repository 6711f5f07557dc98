-- The loops over the order on plain values: each invariant, its start, a turn, its end.
-- In order: numbers along the order, places of the order.
use Rattle.std.specs.Prelude.{◌≡◌, ◌⊎◌, ◌&&◌, ◌++◌, ◌+◌, ◌≤◌, ◌<◌}
use Rattle.lists.{specs.Kit.{refl, sym, ap, ◌∙◌, inl, inr, Bool, true, false, List, ℕ, zero, suc, min, arith, add-one}}
use Rattle.lists.{specs.Kit.{leb, eqb, length, get_or, take, drop, set, replicate, length-set, length-append, length-drop, length-replicate, drop-cons}}
use Rattle.lists.{specs.Kit.{drop-length, get_or-set_same, get_or-set_other, length-take-le, le-leb, lt-leb, eqb-true, eqb-false}, proofs.Tests.{bool_cases, never}}
use Rattle.lists.{proofs.Tests.{trichotomy}, specs.Facts.{EachOnce}, proofs.Range.{once_of, once_below, once_distinct}, proofs.Member.{in_get_d, get_d_of_in}}
use Rattle.lists.{proofs.Distinct.{distinct_at, distinct_twice}}
use Rattle.mesh.{specs.Limits.{max_radios}, specs.Orders.{each_once, rising}, proofs.Cores.Orders.{each_once_of, of_each_once}}
use Rattle.conditions.{specs.Conditions.{rising_from}, proofs.RowByRow.{rising_from_zero}}
use Rattle.soundness.specs.Checks.{Placing, PlacesFound, nowhere}

-- ---- numbers along the order

rising_from_drop : (num : ℕ → ℕ) (xs : List ℕ) (m i : ℕ) → i < length xs
    → rising_from num m (drop i xs) ≡ (leb m (num (get_or xs i 0)) && rising_from num (num (get_or xs i 0)) (drop (suc i) xs))
unfolding rising_from
rising_from_drop num xs m i l = rw (drop-cons xs i 0 l)

-- no number has fallen along the first i entries, of which the last has number m
pub record RisingSoFar (num : ℕ → ℕ) (xs : List ℕ) (m i : ℕ) : Type 0 where
  pub low : i ≤ length xs
  pub left : rising_from num m (drop i xs) ≡ rising num xs

module _ {num : ℕ → ℕ} {xs : List ℕ} where
  pub rising_none : RisingSoFar num xs 0 0
  rising_none = record { low = omega arith; left = rising_from_zero num xs }

  pub rising_turn : (m i : ℕ) → i < length xs → m ≤ num (get_or xs i 0) → RisingSoFar num xs m i → RisingSoFar num xs (num (get_or xs i 0)) (i + 1)
  rising_turn m i l h s = record {
    low = omega arith;
    left = rw add-one (sym (rw (le-leb m (num (get_or xs i 0)) h) at (rising_from_drop num xs m i l)) ∙ s.left);
  }

  pub rising_falls : (m i : ℕ) → i < length xs → num (get_or xs i 0) < m → RisingSoFar num xs m i → rising num xs ≡ false
  rising_falls m i l h s = sym s.left ∙ (rw (lt-leb m (num (get_or xs i 0)) h) at (rising_from_drop num xs m i l))

  pub rising_end : (m i : ℕ) → length xs ≤ i → RisingSoFar num xs m i → rising num xs ≡ true
  unfolding rising_from
  rising_end m i l s =
      let e : i ≡ length xs = omega arith in
      sym s.left ∙ ap (λ (k : ℕ). rising_from num m (drop k xs)) e ∙ ap (rising_from num m) (drop-length xs)

-- ---- places of the order

not_once : (n : ℕ) (xs : List ℕ) → (EachOnce n xs → ⊥) → each_once n xs ≡ false
not_once n xs h = pick (bool_cases (each_once n xs))
  where
    pick : (each_once n xs ≡ true) ⊎ (each_once n xs ≡ false) → each_once n xs ≡ false
    pick (inl e) = absurd (h (each_once_of n xs e))
    pick (inr e) = e

-- the first i entries of the order have their places, and no other radio has one
pub record PlacingSoFar (order : List ℕ) (size : ℕ) (places : List ℕ) (i : ℕ) : Type 0 where
  pub low : i ≤ length order
  pub long : length places ≡ size
  pub at : (j : ℕ) → j < i → (get_or order j 0 < length order) × (get_or places (get_or order j 0) 0 ≡ j)
  pub from : (v : ℕ) → v < length order → (get_or places v 0 ≡ nowhere) ⊎ ((get_or places v 0 < i) × (get_or order (get_or places v 0) 0 ≡ v))

get_d_replicated : (k v : ℕ) → v < k → (xs : List ℕ) → get_or (replicate k nowhere ++ xs) v 0 ≡ nowhere
get_d_replicated zero v l xs = absurd (omega arith)
get_d_replicated (suc k) zero l xs = refl
get_d_replicated (suc k) (suc v) l xs = get_d_replicated k v (omega arith) xs

-- the first places, as many as the order has entries, are free
module _ (order before part : List ℕ) (pre : (length order ≤ length before) × (length order ≤ max_radios))
    (e : part ≡ replicate (length (take (length order) before)) nowhere) where
  abbrev filled : List ℕ
  filled = part ++ drop (length order) before

  many : part ≡ replicate (length order) nowhere
  many = e ∙ ap (λ (k : ℕ). replicate k nowhere) (length-take-le (length order) before pre.0)

  size : length filled ≡ length before
  size = omega (
    arith,
    length-append part (drop (length order) before),
    ap length many ∙ length-replicate (length order) nowhere,
    length-drop (length order) before,
    pre.0,
  )

  pub placing_none : PlacingSoFar order (length filled) filled 0
  placing_none = record {
    low = omega arith;
    long = refl;
    at = λ j l. absurd (omega arith);
    from = λ v l. inl (ap (λ (xs : List ℕ). get_or (xs ++ drop (length order) before) v 0) many ∙ get_d_replicated (length order) v l
        (drop (length order) before));
  }

  module _ (places : List ℕ) (i : ℕ) (l : i < length order) (s : PlacingSoFar order (length filled) places i) where
    -- an entry that is no radio
    pub placing_high : length order ≤ get_or order i 0 → each_once (length order) order ≡ false
    placing_high h = not_once (length order) order (λ o. omega (arith, once_below (length order) order o (get_or order i 0) (in_get_d order i l)))

    -- an entry that stood there before
    pub placing_again : get_or order i 0 < length order → (get_or places (get_or order i 0) 0 ≡ nowhere → ⊥) → each_once (length order) order ≡ false
    placing_again h some = pick (s.from (get_or order i 0) h)
      where
        pick : (get_or places (get_or order i 0) 0 ≡ nowhere) ⊎
            ((get_or places (get_or order i 0) 0 < i) × (get_or order (get_or places (get_or order i 0) 0) 0 ≡ get_or order i 0))
            → each_once (length order) order ≡ false
        pick (inl e) = absurd (some e)
        pick (inr r) = not_once (length order) order
            (λ o. distinct_twice order (get_or places (get_or order i 0) 0) i r.0 l r.1 (once_distinct (length order) order o))

    pub placing_room : get_or order i 0 < length order → get_or order i 0 < length places
    placing_room h = omega (arith, s.long, size)

    pub placing_turn : get_or order i 0 < length order → get_or places (get_or order i 0) 0 ≡ nowhere
        → PlacingSoFar order (length filled) (set places (get_or order i 0) i) (i + 1)
    placing_turn h free = record {
      low = omega arith;
      long = length-set places (get_or order i 0) i ∙ s.long;
      at = λ j k. at_next j (trichotomy j i) k;
      from = λ w k. from_next w (bool_cases (eqb w (get_or order i 0))) k;
    }
      where
        after : List ℕ
        after = set places (get_or order i 0) i

        room : get_or order i 0 < length places
        room = placing_room h

        at_next : (j : ℕ) → (j < i) ⊎ ((j ≡ i) ⊎ (i < j)) → j < i + 1 → (get_or order j 0 < length order) × (get_or after (get_or order j 0) 0 ≡ j)
        at_next j (inl k) _ =
            let old = s.at j k in (
              old.0,
              get_or-set_other places (get_or order i 0) (get_or order j 0) i 0 (λ e. omega (arith, old.1, free, ap (λ (w : ℕ). get_or places w 0) e)) ∙ old.1,
            )
        at_next j (inr (inl e)) _ = rw e (h, get_or-set_same places (get_or order i 0) i 0 room)
        at_next j (inr (inr k)) m = absurd (omega arith)

        from_next : (w : ℕ) → (eqb w (get_or order i 0) ≡ true) ⊎ (eqb w (get_or order i 0) ≡ false) → w < length order
            → (get_or after w 0 ≡ nowhere) ⊎ ((get_or after w 0 < i + 1) × (get_or order (get_or after w 0) 0 ≡ w))
        from_next w (inl e) k =
            let q = eqb-true w (get_or order i 0) e in
            let r : get_or after w 0 ≡ i = ap (λ (x : ℕ). get_or after x 0) q ∙ get_or-set_same places (get_or order i 0) i 0 room in
            inr (omega (arith, r), ap (λ (x : ℕ). get_or order x 0) r ∙ sym q)
        from_next w (inr e) k =
            let r = get_or-set_other places (get_or order i 0) w i 0 (eqb-false w (get_or order i 0) e) in
            rw r (other (s.from w k))
          where
            other : (get_or places w 0 ≡ nowhere) ⊎ ((get_or places w 0 < i) × (get_or order (get_or places w 0) 0 ≡ w))
                → (get_or places w 0 ≡ nowhere) ⊎ ((get_or places w 0 < i + 1) × (get_or order (get_or places w 0) 0 ≡ w))
            other (inl f) = inl f
            other (inr f) = inr (omega (arith, f.0), f.1)

  pub placing_end : (places : List ℕ) (i : ℕ) → length order ≤ i → PlacingSoFar order (length filled) places i → Placing order before places true
  placing_end places i l s = record {
    answer = sym (of_each_once (length order) order (once_of (length order) order
        (distinct_at (λ v. get_or places v 0) 0 order (λ j k. omega (arith, (s.at j (omega arith)).1)))
        (λ v m. let r = get_d_of_in v order m in omega (arith, ap (λ (w : ℕ). w) r.2, (s.at r.0 (omega (arith, r.1))).0)) refl));
    placed = λ _. record { at = λ j k. (s.at j (omega arith)).1 };
    long = s.long ∙ size;
  }

  pub placing_not : (places : List ℕ) (i : ℕ) → PlacingSoFar order (length filled) places i → each_once (length order) order ≡ false → Placing order before
      places false
  placing_not places i s h = record { answer = sym h; placed = λ f. never false f refl; long = s.long ∙ size }

  pub placing_long : (places : List ℕ) (i : ℕ) → PlacingSoFar order (length filled) places i → length places ≡ length before
  placing_long places i s = s.long ∙ size

-- ---- places of any order

-- without room for it
pub places_none : (order before : List ℕ) → min max_radios (length before) < length order → PlacesFound order before before false
places_none order before h = record { answer = rw (lt-leb (length order) (min max_radios (length before)) h); placed = λ f. never false f refl }

pub places_some : (order before after : List ℕ) (r : Bool) → length order ≤ min max_radios (length before) → Placing order before after r
    → PlacesFound order before after r
places_some order before after r h p = record { answer = rw (le-leb (length order) (min max_radios (length before)) h) p.answer; placed = p.placed }
