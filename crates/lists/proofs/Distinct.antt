-- Laws of lists without repeats, and of permutations.
use Rattle.std.specs.Prelude.{◌≡◌, ◌⊎◌, ◌∷◌, ◌++◌, ◌+◌, ◌<◌, ◌≤◌}
use Rattle.lists.specs.Kit.{sym, ap, refl, inl, inr, Bool, true, false, cond, List, [], ℕ, suc, zero, arith, le_trans}
use Rattle.lists.specs.Kit.{length, get_or, eqb, eq-eqb, eqb-true, ⊎_elim}
use Rattle.lists.specs.{Lists.{In, count}, Facts.{Distinct, Permutation}}
use Rattle.lists.proofs.{Member.{in_cases, get_d_of_in, in_get_d, in_left, in_right, split_in, in_drop}, Tests.{never, bool_cases, bit_true, bit_false}}
use Rattle.lists.proofs.Count.{count_all, count_mid, count_le_length, count_pos, count_some, count_ext}

pub distinct_end : (xs : List ℕ) (b : ℕ) → Distinct xs → (In b xs → ⊥) → Distinct (xs ++ b ∷ [])
distinct_end [] b d h = (λ m. m, tt)
distinct_end (x ∷ xs) b d h = (λ m. other (in_cases x xs (b ∷ []) m), distinct_end xs b d.1 (λ m. h (inr m)))
  where
    other : In x xs ⊎ In x (b ∷ []) → ⊥
    other (inl m) = d.0 m
    other (inr (inr x5)) = elim x5 [ ]
    other (inr (inl e)) = h (inl (sym e))

-- a list whose entries tell their own places has no repeats
pub distinct_at : (place : ℕ → ℕ) (k : ℕ) (xs : List ℕ) → ((j : ℕ) → j < length xs → place (get_or xs j 0) ≡ k + j) → Distinct xs
distinct_at place k [] h = tt
distinct_at place k (x ∷ xs) h = (
  λ m. let r = get_d_of_in x xs m in
      omega (arith, h 0 (omega arith), h (suc r.0) (omega (arith, r.1)), ap place r.2),
  distinct_at place (suc k) xs (λ j l. omega (arith, h (suc j) (omega arith))),
)

-- two places of one radio
pub distinct_twice : (xs : List ℕ) (i j : ℕ) → i < j → j < length xs → get_or xs i 0 ≡ get_or xs j 0 → Distinct xs → ⊥
distinct_twice [] i j h l e d = omega arith
distinct_twice (x ∷ xs) i zero h l e d = omega arith
distinct_twice (x ∷ xs) zero (suc j) h l e d = d.0 (rw (← e) at (in_get_d xs j (omega arith)))
distinct_twice (x ∷ xs) (suc i) (suc j) h l e d = distinct_twice xs i j (omega arith) (omega arith) e d.1

-- entries without repeats that pass, and that stand in ys and pass there, are no more than the entries of ys that pass
pub count_sub : (f g : ℕ → Bool) (xs ys : List ℕ) → Distinct xs
    → ((x : ℕ) → In x xs → f x ≡ true → In x ys × (g x ≡ true)) → count f xs ≤ count g ys
unfolding count
count_sub f g [] ys d h = omega arith
count_sub f g (x ∷ xs) ys d h = go (λ zs k. count_sub f g xs zs d.1 k) (bool_cases (f x))
  where
    go : ((zs : List ℕ) → ((y : ℕ) → In y xs → f y ≡ true → In y zs × (g y ≡ true)) → count f xs ≤ count g zs)
        → (f x ≡ true) ⊎ (f x ≡ false) → count f (x ∷ xs) ≤ count g ys
    go rec (inr e) = omega (arith, bit_false (f x) e, rec ys (λ y m. h y (inr m)))
    go rec (inl e) =
        let m = h x (inl refl) e in
        let r = split_in x ys m.0 in
        let other : (y : ℕ) → In y xs → f y ≡ true → In y (r.0 ++ r.1) × (g y ≡ true) =
        λ y my fy. (in_drop y x r.0 r.1 (λ q. d.0 (rw (← q) at my)) (rw r.2 at (h y (inr my) fy).0), (h y (inr my) fy).1) in
        omega (arith, bit_true (f x) e, bit_true (g x) m.1, ap (count g) r.2, count_mid g x r.0 r.1, rec (r.0 ++ r.1) other)

pub distinct_one : (v : ℕ) (xs : List ℕ) → Distinct xs → count (λ x. eqb x v) xs ≤ 1
unfolding count
distinct_one v xs d =
    le_trans (count_sub (λ x. eqb x v) (λ x. true) xs (v ∷ []) d (λ x m p. (inl (sym (eqb-true x v p)), refl))) (count_le_length (λ x. true) (v ∷ []))

-- one more that passes
pub count_one_more : (f g : ℕ → Bool) (o : ℕ) (zs : List ℕ) → ((w : ℕ) → f w ≡ true → (g w ≡ true) ⊎ (w ≡ o)) → Distinct zs → count f zs ≤ suc (count g zs)
unfolding count
count_one_more f g o zs h d = le_trans (split zs) (omega (arith, distinct_one o zs d))
  where
    bit : (x y z : Bool) → (x ≡ true → (y ≡ true) ⊎ (z ≡ true)) → cond {A = ℕ} x 1 0 ≤ cond y 1 0 + cond z 1 0
    bit false y z k = omega arith
    bit true true z k = omega arith
    bit true false true k = omega arith
    bit true false false k = ⊎_elim (λ e. never false e refl) (λ e. never false e refl) (k refl)

    test : (w : ℕ) → (g w ≡ true) ⊎ (w ≡ o) → (g w ≡ true) ⊎ (eqb w o ≡ true)
    test w (inl e) = inl e
    test w (inr e) = inr (eq-eqb w o e)

    split : (ys : List ℕ) → count f ys ≤ count g ys + count (λ x. eqb x o) ys
    split [] = omega arith
    split (y ∷ ys) = omega (arith, bit (f y) (g y) (eqb y o) (λ e. test y (h y e)), split ys)

-- a list without repeats whose entries all stand in another is no longer than that
pub length_sub : (xs ys : List ℕ) → Distinct xs → ((w : ℕ) → In w xs → In w ys) → length xs ≤ length ys
length_sub xs ys d h = omega (arith, count_all xs, count_all ys, count_sub (λ w. true) (λ w. true) xs ys d (λ w m p. (h w m, refl)))

pub distinct_left : (xs ys : List ℕ) → Distinct (xs ++ ys) → Distinct xs
distinct_left [] ys d = tt
distinct_left (x ∷ xs) ys d = (λ m. d.0 (in_left x xs ys m), distinct_left xs ys d.1)

pub distinct_right : (xs ys : List ℕ) → Distinct (xs ++ ys) → Distinct ys
distinct_right [] ys d = d
distinct_right (x ∷ xs) ys d = distinct_right xs ys d.1

pub distinct_apart : (xs ys : List ℕ) → Distinct (xs ++ ys) → (v : ℕ) → In v xs → In v ys → ⊥
distinct_apart [] ys d v x3 m = elim x3 [ ]
distinct_apart (x ∷ xs) ys d v (inl e) m = d.0 (in_right x xs ys (rw (← e) at m))
distinct_apart (x ∷ xs) ys d v (inr p) m = distinct_apart xs ys d.1 v p m

pub one_distinct : (xs : List ℕ) → ((v : ℕ) → count (λ x. eqb x v) xs ≤ 1) → Distinct xs
unfolding count
one_distinct [] h = tt
one_distinct (x ∷ xs) h = (
  λ m. omega (arith, h x, bit_true (eqb x x) (eq-eqb x x refl), count_pos (λ y. eqb y x) x xs m (eq-eqb x x refl)),
  one_distinct xs (λ v. omega (arith, h v)),
)

pub permutation_in : (xs ys : List ℕ) → Permutation xs ys → (v : ℕ) → In v xs → In v ys
permutation_in xs ys e v m =
    let r = count_some (λ x. eqb x v) ys (omega (arith, e (λ x. eqb x v), count_pos (λ x. eqb x v) v xs m (eq-eqb v v refl))) in
    rw (eqb-true r.0 v r.2) at r.1

pub permutation_distinct : (xs ys : List ℕ) → Permutation xs ys → Distinct ys → Distinct xs
permutation_distinct xs ys e d = one_distinct xs (λ v. omega (arith, e (λ x. eqb x v), distinct_one v ys d))

-- an entry from the middle of a list without repeats, put in front
pub distinct_mid : (x : ℕ) (ps qs : List ℕ) → Distinct (ps ++ x ∷ qs) → Distinct (x ∷ (ps ++ qs))
unfolding count
distinct_mid x ps qs d = permutation_distinct (x ∷ (ps ++ qs)) (ps ++ x ∷ qs) (λ f. sym (count_mid f x ps qs)) d

-- one more that passes
pub count_plus_one : (f g : ℕ → Bool) (o : ℕ) (zs : List ℕ) → Distinct zs → In o zs → f o ≡ false → g o ≡ true → ((x : ℕ) → (x ≡ o → ⊥) → g x ≡ f x)
    → count g zs ≡ count f zs + 1
count_plus_one f g o zs d i fo go same = cut (split_in o zs i)
  where
    cut : (ps : List ℕ) × (qs : List ℕ) × (zs ≡ ps ++ o ∷ qs) → count g zs ≡ count f zs + 1
    cut (ps, qs, e) =
        omega (
          arith,
          ap (count g) e,
          ap (count f) e,
          count_mid g o ps qs,
          count_mid f o ps qs,
          bit_true (g o) go,
          bit_false (f o) fo,
          count_ext g f (ps ++ qs) (λ x m. same x (λ q. (distinct_mid o ps qs (rw e at d)).0 (rw q at m))),
        )
