-- Places put anew for a part of the order: outside of it nothing moved, so that the table tells every radio's place again.
use Rattle.std.specs.Prelude.{◌≡◌, ◌⊎◌, ◌∷◌, ◌++◌, ◌+◌, ◌-◌, ◌≤◌, ◌<◌}
use Rattle.lists.{specs.Kit.{refl, sym, ap, ◌∙◌, inl, inr, true, false, List, [], append_assoc, ℕ, arith, ltb, length}}
use Rattle.lists.{specs.Kit.{get_or, set, take, drop, length-set, paste, length_paste_head, length-take-le, take_at, get_or-take, get_or-drop, get_or-append-add}}
use Rattle.lists.{specs.Kit.{get_or-set_same, get_or-set_other, ltb-true, ltb-false}, specs.Facts.{folded, Distinct}, specs.Lists.{range, member, In}}
use Rattle.lists.{proofs.Tests.{bool_cases, never}, proofs.Member.{member_in, in_member}, proofs.Range.{in_range, range_in}, proofs.Distinct.{distinct_twice}}
use Rattle.lists.{proofs.Loops.{length_folded}}
use Rattle.conditions.specs.Conditions.{Placed}
use Rattle.links.specs.Steps.{places_put}

-- ---- a list pasted into another keeps what stands outside

pub get_d_paste_outside : (d : List ℕ) (at : ℕ) (s : List ℕ) (n p : ℕ) → at + n ≤ length d → n ≤ length s → (p < at) ⊎ (at + n ≤ p)
    → get_or (paste d at s n) p 0 ≡ get_or d p 0
get_d_paste_outside d at s n p h l (inl q) =
    sym (get_or-take at (paste d at s n) p 0 q)
    ∙ ap (λ (xs : List ℕ). get_or (take at xs) p 0) (append_assoc (take at d) (take n s) (drop (at + n) d))
    ∙ ap (λ (xs : List ℕ). get_or xs p 0) (take_at (take at d) (take n s ++ drop (at + n) d) at (length-take-le at d (omega arith)))
    ∙ get_or-take at d p 0 q
get_d_paste_outside d at s n p h l (inr q) =
    let e : length (take at d ++ take n s) + (p - (at + n)) ≡ p = omega (arith, length_paste_head d at s n (omega arith) l) in
    let f : at + n + (p - (at + n)) ≡ p = omega arith in
    ap (get_d_of (paste d at s n)) (sym e)
    ∙ get_or-append-add (take at d ++ take n s) (drop (at + n) d) (p - (at + n)) 0
    ∙ get_or-drop (at + n) d (p - (at + n)) 0
    ∙ ap (get_d_of d) f
  where
    get_d_of : List ℕ → ℕ → ℕ
    get_d_of xs i = get_or xs i 0

-- ---- places put

module _ (os : List ℕ) where
  pub length_places_put : (is ps : List ℕ) → length (places_put os is ps) ≡ length ps
  unfolding places_put
  length_places_put is ps = length_folded (λ p now. set now (get_or os p 0) p) (λ p now. length-set now (get_or os p 0) p) is ps

  -- a radio that stands at none of the places keeps its own
  put_other : (is ps : List ℕ) (v : ℕ) → ((p : ℕ) → In p is → get_or os p 0 ≡ v → ⊥) → get_or (places_put os is ps) v 0 ≡ get_or ps v 0
  unfolding places_put folded
  put_other [] ps v h = refl
  put_other (p ∷ is) ps v h =
      put_other is (set ps (get_or os p 0) p) v (λ q i. h q (inr i)) ∙ get_or-set_other ps (get_or os p 0) v p 0 (λ e. h p (inl refl) (sym e))

  -- a radio that stands at one of them has it
  module _ (apart : (p q : ℕ) → p < length os → q < length os → get_or os p 0 ≡ get_or os q 0 → p ≡ q) where
    put_at : (is ps : List ℕ) → ((p : ℕ) → In p is → (p < length os) × (get_or os p 0 < length ps)) → (q : ℕ) → In q is
        → get_or (places_put os is ps) (get_or os q 0) 0 ≡ q
    unfolding places_put folded
    put_at [] ps h q i = absurd i
    put_at (p ∷ is) ps h q i =
        go (λ m. put_at is (set ps (get_or os p 0) p) (λ r j. ((h r (inr j)).0, omega (arith, (h r (inr j)).1, length-set ps (get_or os p 0) p))) q m)
        (bool_cases (member q is)) i
      where
        now : List ℕ
        now = set ps (get_or os p 0) p

        go : (In q is → get_or (places_put os is now) (get_or os q 0) 0 ≡ q) → (member q is ≡ true) ⊎ (member q is ≡ false) → In q (p ∷ is)
            → get_or (places_put os is now) (get_or os q 0) 0 ≡ q
        go rec (inl e) m = rec (member_in q is e)
        go rec (inr e) (inr m) = never (member q is) (in_member q is m) e
        go rec (inr e) (inl s) =
            put_other is now (get_or os q 0) (λ r j d. never (member q is) (in_member q is (rw (← apart r q (h r (inr j)).0 (h q i).0 d) j)) e)
            ∙ rw (← s) (get_or-set_same ps (get_or os p 0) p 0 (h p (inl refl)).1)

-- places of the old order, put anew where the new one differs
pub placed_again : (n : ℕ) (old new ps : List ℕ) (start size : ℕ) → Distinct new → length new ≡ n → start + size ≤ n
    → ((p : ℕ) → p < n → get_or new p 0 < length ps) → ((p : ℕ) → (p < start) ⊎ (start + size ≤ p) → get_or new p 0 ≡ get_or old p 0)
    → Placed n old ps → Placed n new (places_put new (range start size) ps)
placed_again n old new ps start size once long fits small kept h =
    record { at = λ i l. go i l (bool_cases (ltb i start)) (bool_cases (ltb i (start + size))) }
  where
    apart : (p q : ℕ) → p < length new → q < length new → get_or new p 0 ≡ get_or new q 0 → p ≡ q
    apart p q lp lq e = by (bool_cases (ltb p q)) (bool_cases (ltb q p))
      where
        by : (ltb p q ≡ true) ⊎ (ltb p q ≡ false) → (ltb q p ≡ true) ⊎ (ltb q p ≡ false) → p ≡ q
        by (inl s) t = absurd (distinct_twice new p q (ltb-true p q s) lq e once)
        by (inr s) (inl t) = absurd (distinct_twice new q p (ltb-true q p t) lp (sym e) once)
        by (inr s) (inr t) = omega (arith, ltb-false p q s, ltb-false q p t)

    outside : (i : ℕ) → i < n → (i < start) ⊎ (start + size ≤ i) → get_or (places_put new (range start size) ps) (get_or new i 0) 0 ≡ i
    outside i l o =
        put_other new (range start size) ps (get_or new i 0) (λ p j e.
        let r = range_in start size p j in
        let q : p ≡ i = apart p i (omega (arith, r.1)) (omega arith) e in apart_from o r q)
        ∙ ap (λ (x : ℕ). get_or ps x 0) (kept i o)
        ∙ h.at i l
      where
        apart_from : {p : ℕ} → (i < start) ⊎ (start + size ≤ i) → (start ≤ p) × (p < start + size) → p ≡ i → ⊥
        apart_from (inl x) r q = omega (arith, r.0)
        apart_from (inr x) r q = omega (arith, r.1)

    go : (i : ℕ) → i < n → (ltb i start ≡ true) ⊎ (ltb i start ≡ false) → (ltb i (start + size) ≡ true) ⊎ (ltb i (start + size) ≡ false)
        → get_or (places_put new (range start size) ps) (get_or new i 0) 0 ≡ i
    go i l (inl s) t = outside i l (inl (ltb-true i start s))
    go i l (inr s) (inr t) = outside i l (inr (ltb-false i (start + size) t))
    go i l (inr s) (inl t) =
        put_at new apart (range start size) ps (λ p j. let r = range_in start size p j in (omega (arith, r.1), small p (omega (arith, r.1)))) i
        (in_range start size i (ltb-false i start s) (ltb-true i (start + size) t))
