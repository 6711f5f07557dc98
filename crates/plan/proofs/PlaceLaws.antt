-- Where the next turn of a walk is, by the lowest place due; the beginning end, branch by branch.
--   lowest_least, lowest_some   the lowest place due
--   turn_is                     what the next turn says of the walk
use Rattle.std.specs.Prelude.{Option, None, Some, ◌≡◌, ◌⊎◌, ◌∷◌, ◌+◌, ◌-◌, ◌≤◌, ◌<◌}
use Rattle.lists.{specs.Kit.{refl, sym, subst, inl, inr, true, false, List, [], ℕ, min, arith, ltb, leb, get_or, lt-ltb, le-ltb, le-leb, lt-leb}}
use Rattle.lists.{specs.Kit.{leb-true, leb-false, ltb-true, ltb-false}, specs.Lists.{head_or}}
use Rattle.lists.{proofs.Tests.{bool_cases}}
use Rattle.mesh.specs.Limits.{max_radios}
use Rattle.plan.proofs.LevelLaws.{first_marked_least}
use Rattle.plan.specs.{Places.{next_turn, beginning_end}, declared.places.Turn.{Turn, TheVariants.{Back, Ahead}}}
use Rattle.rows.{specs.Sets.{in_set, common}}

-- ---- the lowest place due

-- where `end` stands for none
module _ (ds : List ℕ) where
  pub lowest_least : (end q : ℕ) → q < head_or end (common ds ds) → q < max_radios → in_set ds q ≡ false
  unfolding head_or
  lowest_least end q l h = first_marked_least ds (head_or max_radios (common ds ds)) refl q (below (common ds ds) l) h
    where
      below : (xs : List ℕ) → q < head_or end xs → q < head_or max_radios xs
      below [] i = h
      below (x ∷ xs) i = i

  pub lowest_some : (end p : ℕ) → p ≡ head_or end (common ds ds) → p < end → p ≡ head_or max_radios (common ds ds)
  unfolding head_or
  lowest_some end p = some (common ds ds)
    where
      some : (xs : List ℕ) → p ≡ head_or end xs → p < end → p ≡ head_or max_radios xs
      some [] e l = absurd (omega (arith, e))
      some (x ∷ xs) e l = e

-- ---- where the next turn is

module _ (first size front taken : ℕ) (ds : List ℕ) where
  pub turn_none : front ≤ taken → ◌≡◌ {A = Option Turn} None (next_turn first size front taken ds)
  unfolding next_turn
  turn_none l = rw (le-leb front taken l)

  module _ (p : ℕ) (some : taken < front) (e : p ≡ head_or (first + size) (common ds ds)) where
    pub turn_back : p < first + front → Some (Back p) ≡ next_turn first size front taken ds
    unfolding next_turn
    turn_back l = rw (lt-leb front taken some, ← e, lt-ltb p (first + front) l)

    pub turn_end : first + front ≤ p → size ≤ front → ◌≡◌ {A = Option Turn} None (next_turn first size front taken ds)
    unfolding next_turn
    turn_end l h = rw (lt-leb front taken some, ← e, le-ltb p (first + front) l, le-leb size front h)

    pub turn_ahead : first + front ≤ p → front < size → (until : ℕ) → until ≡ min (p - first) size
        → Some (Ahead until) ≡ next_turn first size front taken ds
    unfolding next_turn
    turn_ahead l h until u = rw (lt-leb front taken some, ← e, le-ltb p (first + front) l, lt-leb size front h, u)

  -- what a turn says
  abbrev p : ℕ
  p = head_or (first + size) (common ds ds)

  abbrev pub Turning : Option Turn → Type 0
  Turning None = (front ≤ taken) ⊎ ((first + front ≤ p) × (size ≤ front))
  Turning (Some (Back q)) = (taken < front) × (q ≡ p) × (q < first + front)
  Turning (Some (Ahead until)) = (taken < front) × (front < size) × (first + front ≤ p) × (until ≡ min (p - first) size)

  turning : Turning (next_turn first size front taken ds)
  unfolding next_turn
  turning = go (bool_cases (leb front taken)) (bool_cases (ltb p (first + front))) (bool_cases (leb size front))
    where
      go : (leb front taken ≡ true) ⊎ (leb front taken ≡ false) → (ltb p (first + front) ≡ true) ⊎ (ltb p (first + front) ≡ false)
          → (leb size front ≡ true) ⊎ (leb size front ≡ false) → Turning (next_turn first size front taken ds)
      go (inl a) b d = rw a (inl (leb-true front taken a))
      go (inr a) (inl b) d = rw (a, b) (leb-false front taken a, refl, ltb-true p (first + front) b)
      go (inr a) (inr b) (inl d) = rw (a, b, d) (inr (ltb-false p (first + front) b, leb-true size front d))
      go (inr a) (inr b) (inr d) = rw (a, b, d) (leb-false front taken a, leb-false size front d, ltb-false p (first + front) b, refl)

  pub turn_is : (t : Option Turn) → t ≡ next_turn first size front taken ds → Turning t
  turn_is t e = subst Turning (sym e) turning

-- ---- the beginning end, by the numbers x and y of the ends a and b

module _ (a b : ℕ) (ns ps : List ℕ) (x y : ℕ) (ex : x ≡ get_or ns a 0) (ey : y ≡ get_or ns b 0) where
  pub begins_lower : x < y → a ≡ beginning_end a b ns ps
  unfolding beginning_end
  begins_lower l = rw (← ex, ← ey, lt-ltb x y l)

  pub begins_higher : y < x → b ≡ beginning_end a b ns ps
  unfolding beginning_end
  begins_higher l = rw (← ex, ← ey, le-ltb x y (omega arith), lt-ltb y x l)

  module _ (p q : ℕ) (ep : p ≡ get_or ps a 0) (eq : q ≡ get_or ps b 0) (h : y ≤ x) (i : x ≤ y) where
    pub begins_earlier : p < q → a ≡ beginning_end a b ns ps
    unfolding beginning_end
    begins_earlier l = rw (← ex, ← ey, ← ep, ← eq, le-ltb x y h, le-ltb y x i, lt-ltb p q l)

    pub begins_later : q ≤ p → b ≡ beginning_end a b ns ps
    unfolding beginning_end
    begins_later l = rw (← ex, ← ey, ← ep, ← eq, le-ltb x y h, le-ltb y x i, le-ltb p q l)
