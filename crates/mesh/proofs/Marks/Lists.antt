-- Laws of places in rising order of name: a mark more, a mark less, and a mark found.
--   RisingMarks n x ps    the places ps are marks of full length in rising order of name, the first after the name x
-- In order: names that stand before, with a mark, without one.
use Rattle.std.specs.Prelude.{◌≡◌, ◌⊎◌, ◌||◌, ◌∷◌, ◌+◌}
use Rattle.lists.{specs.Kit.{refl, sym, ap, subst, ◌∙◌, inl, inr, Bool, true, false, cond, List, [], ℕ, suc, arith, length}}
use Rattle.lists.{specs.Lists.{same}, proofs.Tests.{bool_cases, never}, proofs.All.{same_refl, same_eq}}
use Rattle.mesh.specs.Marks.{place_bytes, before, name_in, is_mark, has_mark, found, with_mark, without_mark}
use Rattle.mesh.proofs.Marks.NameOrder.{before_trans, before_differ, before_total}

abbrev pub RisingMarks : (n : ℕ) → (last : List ℕ) → List (List ℕ) → Type 0
RisingMarks n x [] = Unit {0}
RisingMarks n x (p ∷ ps) =
    (length p ≡ place_bytes) × (is_mark n p ≡ true) × (before x (name_in p) ≡ true) × RisingMarks n (name_in p) ps

-- ---- names that stand before

pub rising_lower : (n : ℕ) (x y : List ℕ) (ps : List (List ℕ)) → before y x ≡ true → RisingMarks n x ps → RisingMarks n y ps
rising_lower n x y [] h r = tt
rising_lower n x y (p ∷ ps) h r = (r.0, r.1, before_trans y x (name_in p) h r.2, r.3)

-- a name that stands before all of them is not there
pub absent :
    (n : ℕ) (x last : List ℕ) (ps : List (List ℕ)) → RisingMarks n last ps → ((y : List ℕ) → before last y ≡ true → before x y ≡ true) →
    has_mark x ps ≡ false
unfolding has_mark
absent n x last [] r h = refl
absent n x last (p ∷ ps) r h =
    let b = h (name_in p) r.2 in
    rw (before_differ x (name_in p) b) (absent n x (name_in p) ps r.3 (λ y q. before_trans x (name_in p) y b q))

pub found_none : (x : List ℕ) (ps : List (List ℕ)) → has_mark x ps ≡ false → found x ps ≡ []
unfolding has_mark found
found_none x [] h = refl
found_none x (p ∷ ps) h = go (found_none x ps) (same (name_in p) x) h
  where
    go : (has_mark x ps ≡ false → found x ps ≡ []) → (t : Bool) → (t || has_mark x ps) ≡ false → cond t p (found x ps) ≡ []
    go rec true k = never true refl k
    go rec false k = rec k

-- a mark found is one of the places, with its name
pub found_mark :
    (n : ℕ) (x last : List ℕ) (ps : List (List ℕ)) → RisingMarks n last ps → has_mark x ps ≡ true →
    (length (found x ps) ≡ place_bytes) × (is_mark n (found x ps) ≡ true) × (name_in (found x ps) ≡ x)
unfolding has_mark found
found_mark n x last [] r h = never false h refl
found_mark n x last (p ∷ ps) r h = go (found_mark n x (name_in p) ps r.3) (same (name_in p) x) refl h
  where
    go : (has_mark x ps ≡ true → (length (found x ps) ≡ place_bytes) × (is_mark n (found x ps) ≡ true) × (name_in (found x ps) ≡ x)) → (t : Bool) → same
        (name_in p) x ≡ t → (t || has_mark x ps) ≡ true →
        (length (cond t p (found x ps)) ≡ place_bytes) × (is_mark n (cond t p (found x ps)) ≡ true) × (name_in (cond t p (found x ps)) ≡ x)
    go rec true e k = (r.0, r.1, same_eq (name_in p) x e)
    go rec false e k = rec k

-- ---- with a mark

module _ (n : ℕ) (p : List ℕ) (long : length p ≡ place_bytes) (good : is_mark n p ≡ true) where
  pub rising_with : (x : List ℕ) (ps : List (List ℕ)) → before x (name_in p) ≡ true → RisingMarks n x ps → RisingMarks n x (with_mark p ps)
  unfolding with_mark
  rising_with x [] h r = (long, good, h, tt)
  rising_with x (q ∷ qs) h r = go (λ k. rising_with (name_in q) qs k r.3) (bool_cases (before (name_in p) (name_in q)))
      (bool_cases (same (name_in q) (name_in p)))
    where
      go : (before (name_in q) (name_in p) ≡ true → RisingMarks n (name_in q) (with_mark p qs)) → (before (name_in p) (name_in q) ≡ true) ⊎
          (before (name_in p) (name_in q) ≡ false)
          → (same (name_in q) (name_in p) ≡ true) ⊎ (same (name_in q) (name_in p) ≡ false) → RisingMarks n x (with_mark p (q ∷ qs))
      go rec (inl e) d = rw e (long, good, h, (r.0, r.1, e, r.3))
      go rec (inr e) (inl d) = rw (e, d) (long, good, h, subst (λ (y : List ℕ). RisingMarks n y qs) (same_eq (name_in q) (name_in p) d) r.3)
      go rec (inr e) (inr d) = rw (e, d) (r.0, r.1, r.2, rec (before_total (name_in p) (name_in q) e d))

pub has_mark_with_same : (p : List ℕ) (ps : List (List ℕ)) → has_mark (name_in p) (with_mark p ps) ≡ true
unfolding with_mark has_mark
has_mark_with_same p [] = rw (same_refl (name_in p))
has_mark_with_same p (q ∷ qs) = go (has_mark_with_same p qs) (before (name_in p) (name_in q)) (same (name_in q) (name_in p)) refl
  where
    go : has_mark (name_in p) (with_mark p qs) ≡ true → (b s : Bool) → same (name_in q) (name_in p) ≡ s →
        has_mark (name_in p) (cond b (p ∷ q ∷ qs) (cond s (p ∷ qs) (q ∷ with_mark p qs))) ≡ true
    go rec true s e = rw (same_refl (name_in p))
    go rec false true e = rw (same_refl (name_in p))
    go rec false false e = rw e rec

pub found_with_same : (p : List ℕ) (ps : List (List ℕ)) → found (name_in p) (with_mark p ps) ≡ p
unfolding with_mark found
found_with_same p [] = rw (same_refl (name_in p))
found_with_same p (q ∷ qs) = go (found_with_same p qs) (before (name_in p) (name_in q)) (same (name_in q) (name_in p)) refl
  where
    go : found (name_in p) (with_mark p qs) ≡ p → (b s : Bool) → same (name_in q) (name_in p) ≡ s →
        found (name_in p) (cond b (p ∷ q ∷ qs) (cond s (p ∷ qs) (q ∷ with_mark p qs))) ≡ p
    go rec true s e = rw (same_refl (name_in p))
    go rec false true e = rw (same_refl (name_in p))
    go rec false false e = rw e rec

-- other marks are unaffected
pub found_with_other : (x p : List ℕ) (ps : List (List ℕ)) → same (name_in p) x ≡ false → found x (with_mark p ps) ≡ found x ps
unfolding with_mark found
found_with_other x p [] h = rw h
found_with_other x p (q ∷ qs) h = go (found_with_other x p qs h) (before (name_in p) (name_in q)) (same (name_in q) (name_in p)) refl
  where
    go : found x (with_mark p qs) ≡ found x qs → (b s : Bool) → same (name_in q) (name_in p) ≡ s →
        found x (cond b (p ∷ q ∷ qs) (cond s (p ∷ qs) (q ∷ with_mark p qs))) ≡ found x (q ∷ qs)
    go rec true s e = rw h
    go rec false true e =
        let f : same (name_in q) x ≡ false = ap (λ (y : List ℕ). same y x) (same_eq (name_in q) (name_in p) e) ∙ h in rw (h, f)
    go rec false false e = ap (λ (y : List ℕ). cond (same (name_in q) x) q y) rec

pub has_mark_with_other : (x p : List ℕ) (ps : List (List ℕ)) → same (name_in p) x ≡ false → has_mark x (with_mark p ps) ≡ has_mark x ps
unfolding with_mark has_mark
has_mark_with_other x p [] h = rw h
has_mark_with_other x p (q ∷ qs) h = go (has_mark_with_other x p qs h) (before (name_in p) (name_in q)) (same (name_in q) (name_in p)) refl
  where
    go : has_mark x (with_mark p qs) ≡ has_mark x qs → (b s : Bool) → same (name_in q) (name_in p) ≡ s →
        has_mark x (cond b (p ∷ q ∷ qs) (cond s (p ∷ qs) (q ∷ with_mark p qs))) ≡ has_mark x (q ∷ qs)
    go rec true s e = rw h
    go rec false true e =
        let f : same (name_in q) x ≡ false = ap (λ (y : List ℕ). same y x) (same_eq (name_in q) (name_in p) e) ∙ h in rw (h, f)
    go rec false false e = ap (λ (y : Bool). same (name_in q) x || y) rec

-- one place more, or as many where the name was there
pub length_with : (n : ℕ) (x p : List ℕ) (ps : List (List ℕ)) → RisingMarks n x ps → length (with_mark p ps) + cond (has_mark (name_in p) ps) 1 0 ≡ suc
    (length ps)
unfolding with_mark has_mark
length_with n x p [] r = omega arith
length_with n x p (q ∷ qs) r = go (length_with n (name_in q) p qs r.3) (before (name_in p) (name_in q)) (same (name_in q) (name_in p)) refl refl
  where
    go : length (with_mark p qs) + cond (has_mark (name_in p) qs) 1 0 ≡ suc (length qs) → (b s : Bool) → before (name_in p) (name_in q) ≡ b → same (name_in q)
        (name_in p) ≡ s →
        length (cond b (p ∷ q ∷ qs) (cond s (p ∷ qs) (q ∷ with_mark p qs))) + cond (s || has_mark (name_in p) qs) 1 0 ≡ suc (suc (length qs))
    go rec true s f e =
        let d : s ≡ false = sym e ∙ before_differ (name_in p) (name_in q) f in
        let a : has_mark (name_in p) qs ≡ false = absent n (name_in p) (name_in q) qs r.3 (λ y k. before_trans (name_in p) (name_in q) y f k) in
        rw (d, a) (omega arith)
    go rec false true f e = omega arith
    go rec false false f e = omega (arith, rec)

-- ---- without a mark

pub rising_without : (n : ℕ) (x last : List ℕ) (ps : List (List ℕ)) → RisingMarks n last ps → RisingMarks n last (without_mark x ps)
unfolding without_mark
rising_without n x last [] r = tt
rising_without n x last (p ∷ ps) r = go (rising_without n x (name_in p) ps r.3) (same (name_in p) x)
  where
    go : RisingMarks n (name_in p) (without_mark x ps) → (t : Bool) → RisingMarks n last (cond t ps (p ∷ without_mark x ps))
    go rec true = rising_lower n (name_in p) last ps r.2 r.3
    go rec false = (r.0, r.1, r.2, rec)

pub has_mark_without_same : (n : ℕ) (x last : List ℕ) (ps : List (List ℕ)) → RisingMarks n last ps → has_mark x (without_mark x ps) ≡ false
unfolding without_mark has_mark
has_mark_without_same n x last [] r = refl
has_mark_without_same n x last (p ∷ ps) r = go (has_mark_without_same n x (name_in p) ps r.3) (same (name_in p) x) refl
  where
    go : has_mark x (without_mark x ps) ≡ false → (t : Bool) → same (name_in p) x ≡ t → has_mark x (cond t ps (p ∷ without_mark x ps)) ≡ false
    go rec true e = absent n x (name_in p) ps r.3 (λ y k. rw (← same_eq (name_in p) x e) k)
    go rec false e = rw e rec

pub found_without_other : (x y : List ℕ) (ps : List (List ℕ)) → same x y ≡ false → found y (without_mark x ps) ≡ found y ps
unfolding without_mark found
found_without_other x y [] h = refl
found_without_other x y (p ∷ ps) h = go (found_without_other x y ps h) (same (name_in p) x) refl
  where
    go : found y (without_mark x ps) ≡ found y ps → (t : Bool) → same (name_in p) x ≡ t → found y (cond t ps (p ∷ without_mark x ps)) ≡ found y (p ∷ ps)
    go rec true e =
        let f : same (name_in p) y ≡ false = ap (λ (z : List ℕ). same z y) (same_eq (name_in p) x e) ∙ h in rw f
    go rec false e = ap (λ (z : List ℕ). cond (same (name_in p) y) p z) rec

pub has_mark_without_other : (x y : List ℕ) (ps : List (List ℕ)) → same x y ≡ false → has_mark y (without_mark x ps) ≡ has_mark y ps
unfolding without_mark has_mark
has_mark_without_other x y [] h = refl
has_mark_without_other x y (p ∷ ps) h = go (has_mark_without_other x y ps h) (same (name_in p) x) refl
  where
    go : has_mark y (without_mark x ps) ≡ has_mark y ps → (t : Bool) → same (name_in p) x ≡ t → has_mark y (cond t ps (p ∷ without_mark x ps)) ≡ has_mark y
        (p ∷ ps)
    go rec true e =
        let f : same (name_in p) y ≡ false = ap (λ (z : List ℕ). same z y) (same_eq (name_in p) x e) ∙ h in rw f
    go rec false e = ap (λ (z : Bool). same (name_in p) y || z) rec

-- one place less, or as many where the name was absent
pub length_without : (x : List ℕ) (ps : List (List ℕ)) → length (without_mark x ps) + cond (has_mark x ps) 1 0 ≡ length ps
unfolding without_mark has_mark
length_without x [] = omega arith
length_without x (p ∷ ps) = go (length_without x ps) (same (name_in p) x)
  where
    go : length (without_mark x ps) + cond (has_mark x ps) 1 0 ≡ length ps → (t : Bool) → length (cond t ps (p ∷ without_mark x ps)) + cond (t || has_mark x ps)
        1 0 ≡ suc (length ps)
    go rec true = omega arith
    go rec false = omega (arith, rec)
