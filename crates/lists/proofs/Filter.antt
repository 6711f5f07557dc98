-- Laws of `filter`: membership, counts, parts, tests one after the other.
use Rattle.std.specs.Prelude.{◌≡◌, ◌⊎◌, ◌&&◌, ◌∷◌, ◌++◌, ◌+◌, ◌-◌, ◌≤◌}
use Rattle.lists.specs.Kit.{sym, ap, ◌∙◌, refl, inl, inr, Bool, true, false, cond, not, List, [], append-nil, ℕ}
use Rattle.lists.specs.Kit.{arith, length, ⊎_elim}
use Rattle.lists.specs.{Lists.{filter, In, member, count, range}, Facts.{Distinct}}
use Rattle.lists.proofs.{Tests.{bool_cases, never}, Member.{in_member, not_member}, Range.{range_in, range_append}, Count.{count_le_length}}
use Rattle.lists.specs.Kit.{subst}

pub filter_none : (f : ℕ → Bool) (xs : List ℕ) → ((v : ℕ) → In v xs → f v ≡ false) → filter f xs ≡ []
unfolding filter
filter_none f [] h = refl
filter_none f (x ∷ xs) h = rw (h x (inl refl)) (filter_none f xs (λ v m. h v (inr m)))

-- the one entry that passes the test
pub filter_one : (f : ℕ → Bool) (v : ℕ) (xs : List ℕ) → Distinct xs → In v xs → f v ≡ true → ((w : ℕ) → f w ≡ true → w ≡ v) → filter f xs ≡ v ∷ []
unfolding filter
filter_one f v [] d x4 h u = elim x4 [ ]
filter_one f v (x ∷ xs) d (inl e) h u =
    rw (e, h) (ap {B = List ℕ} (λ ys. v ∷ ys) (filter_none f xs (λ w m. other w m (bool_cases (f w)))))
  where
    other : (w : ℕ) → In w xs → (f w ≡ true) ⊎ (f w ≡ false) → f w ≡ false
    other w m (inl p) = absurd (d.0 (rw (u w p ∙ sym e) at m))
    other w m (inr p) = p
filter_one f v (x ∷ xs) d (inr m) h u = let rec = filter_one f v xs d.1 m h u in
    ⊎_elim (λ p. absurd (d.0 (subst (λ (y : ℕ). In y xs) (sym (u x p)) m))) (λ p. rw p rec) (bool_cases (f x))

pub in_filter : (f : ℕ → Bool) (xs : List ℕ) (v : ℕ) → In v (filter f xs) → In v xs × (f v ≡ true)
unfolding filter
in_filter f [] v m = absurd m
in_filter f (x ∷ xs) v m = go (in_filter f xs v) (f x) refl m
  where
    go : (In v (filter f xs) → In v xs × (f v ≡ true)) → (t : Bool) → f x ≡ t → In v (cond t (x ∷ filter f xs) (filter f xs)) → In v (x ∷ xs) × (f v ≡ true)
    go rec true e (inl p) = (inl p, rw p at e)
    go rec true e (inr p) = (inr (rec p).0, (rec p).1)
    go rec false e p = (inr (rec p).0, (rec p).1)

pub filter_in : (f : ℕ → Bool) (xs : List ℕ) (v : ℕ) → In v xs → f v ≡ true → In v (filter f xs)
unfolding filter
filter_in f [] v m h = absurd m
filter_in f (x ∷ xs) v m h = go (λ p. filter_in f xs v p h) (f x) refl m
  where
    go : (In v xs → In v (filter f xs)) → (t : Bool) → f x ≡ t → In v (x ∷ xs) → In v (cond t (x ∷ filter f xs) (filter f xs))
    go rec true e (inl p) = inl p
    go rec true e (inr p) = inr (rec p)
    go rec false e (inl p) = never (f v) h (rw p at e)
    go rec false e (inr p) = rec p

pub member_filter : (f : ℕ → Bool) (xs : List ℕ) (v : ℕ) → In v xs → member v (filter f xs) ≡ f v
member_filter f xs v m =
    ⊎_elim (λ e. in_member v (filter f xs) (filter_in f xs v m e) ∙ sym e)
    (λ e. not_member v (filter f xs) (λ p. never (f v) (in_filter f xs v p).1 e) ∙ sym e) (bool_cases (f v))

pub count_filter : (g f : ℕ → Bool) (xs : List ℕ) → count g (filter f xs) ≡ count (λ x. f x && g x) xs
unfolding filter count
count_filter g f [] = refl
count_filter g f (x ∷ xs) = go (count_filter g f xs) (f x)
  where
    go : count g (filter f xs) ≡ count (λ x. f x && g x) xs → (t : Bool)
        → count g (cond t (x ∷ filter f xs) (filter f xs)) ≡ cond (t && g x) 1 0 + count (λ x. f x && g x) xs
    go rec true = omega arith
    go rec false = omega arith

pub length_filter : (f : ℕ → Bool) (xs : List ℕ) → length (filter f xs) ≡ count f xs
unfolding filter count
length_filter f [] = refl
length_filter f (x ∷ xs) = go (length_filter f xs) (f x)
  where
    go : length (filter f xs) ≡ count f xs → (t : Bool) → length (cond t (x ∷ filter f xs) (filter f xs)) ≡ cond t 1 0 + count f xs
    go rec true = omega arith
    go rec false = omega arith

pub filter_all : (f : ℕ → Bool) (xs : List ℕ) → ((v : ℕ) → In v xs → f v ≡ true) → filter f xs ≡ xs
unfolding filter
filter_all f [] h = refl
filter_all f (x ∷ xs) h = rw (h x (inl refl), filter_all f xs (λ v m. h v (inr m)))

pub filter_ext : (f g : ℕ → Bool) (xs : List ℕ) → ((v : ℕ) → In v xs → f v ≡ g v) → filter f xs ≡ filter g xs
unfolding filter
filter_ext f g [] h = refl
filter_ext f g (x ∷ xs) h = rw (h x (inl refl), filter_ext f g xs (λ v m. h v (inr m)))

pub filter_append : (f : ℕ → Bool) (xs ys : List ℕ) → filter f (xs ++ ys) ≡ filter f xs ++ filter f ys
unfolding filter
filter_append f [] ys = refl
filter_append f (x ∷ xs) ys = go (filter_append f xs ys) (f x)
  where
    go : filter f (xs ++ ys) ≡ filter f xs ++ filter f ys → (t : Bool)
        → cond t (x ∷ filter f (xs ++ ys)) (filter f (xs ++ ys)) ≡ cond t (x ∷ filter f xs) (filter f xs) ++ filter f ys
    go rec true = ap {B = List ℕ} (λ z. x ∷ z) rec
    go rec false = rec

pub filter_keep_mid : (f : ℕ → Bool) (x : ℕ) (ps qs : List ℕ) → f x ≡ true → filter f (ps ++ x ∷ qs) ≡ filter f ps ++ x ∷ filter f qs
unfolding filter
filter_keep_mid f x ps qs e = filter_append f ps (x ∷ qs) ∙ rw e

pub filter_drop_mid : (f : ℕ → Bool) (x : ℕ) (ps qs : List ℕ) → f x ≡ false → filter f (ps ++ x ∷ qs) ≡ filter f (ps ++ qs)
unfolding filter
filter_drop_mid f x ps qs e = filter_append f ps (x ∷ qs) ∙ rw e (sym (filter_append f ps qs))

pub filter_filter : (f g : ℕ → Bool) (xs : List ℕ) → filter f (filter g xs) ≡ filter (λ x. g x && f x) xs
unfolding filter
filter_filter f g [] = refl
filter_filter f g (x ∷ xs) = go (filter_filter f g xs) (g x)
  where
    go : filter f (filter g xs) ≡ filter (λ x. g x && f x) xs → (t : Bool)
        → filter f (cond t (x ∷ filter g xs) (filter g xs)) ≡ cond (t && f x) (x ∷ filter (λ x. g x && f x) xs) (filter (λ x. g x && f x) xs)
    go rec true = rw rec
    go rec false = rec

pub distinct_filter : (f : ℕ → Bool) (xs : List ℕ) → Distinct xs → Distinct (filter f xs)
unfolding filter
distinct_filter f [] d = tt
distinct_filter f (x ∷ xs) d = go (distinct_filter f xs d.1) (f x)
  where
    go : Distinct (filter f xs) → (t : Bool) → Distinct (cond t (x ∷ filter f xs) (filter f xs))
    go rec true = (λ m. d.0 (in_filter f xs x m).0, rec)
    go rec false = rec

-- both parts make up the list
pub count_parts : (f q : ℕ → Bool) (xs : List ℕ) → count f (filter (λ v. not (q v)) xs) + count f (filter q xs) ≡ count f xs
unfolding filter count
count_parts f q [] = refl
count_parts f q (x ∷ xs) = go (count_parts f q xs) (q x)
  where
    go : count f (filter (λ v. not (q v)) xs) + count f (filter q xs) ≡ count f xs → (t : Bool)
        → count f (cond (not t) (x ∷ filter (λ v. not (q v)) xs) (filter (λ v. not (q v)) xs)) + count f (cond t (x ∷ filter q xs) (filter q xs))
        ≡ cond (f x) 1 0 + count f xs
    go rec true = omega arith
    go rec false = omega arith

-- a test that nothing passes from n on
pub filter_range_within : (f : ℕ → Bool) (n m : ℕ) → n ≤ m → ((v : ℕ) → n ≤ v → f v ≡ false) → filter f (range 0 m) ≡ filter f (range 0 n)
filter_range_within f n m h none =
    let parts : m ≡ n + (m - n) = omega arith in
    let rest = range (0 + n) (m - n) in
    ap (λ (k : ℕ). filter f (range 0 k)) parts
    ∙ ap (filter f) (range_append 0 n (m - n))
    ∙ filter_append f (range 0 n) rest
    ∙ ap (λ (xs : List ℕ). filter f (range 0 n) ++ xs) (filter_none f rest (λ v i. none v (omega (arith, (range_in (0 + n) (m - n) v i).0))))
    ∙ append-nil (filter f (range 0 n))

pub filter_member_filter : (f : ℕ → Bool) (xs : List ℕ) → filter (λ v. member v (filter f xs)) xs ≡ filter f xs
filter_member_filter f xs = filter_ext (λ v. member v (filter f xs)) f xs (λ v m. member_filter f xs v m)

pub filter_le : (f : ℕ → Bool) (xs : List ℕ) (k : ℕ) → length xs ≡ k → length (filter f xs) ≤ k
filter_le f xs k e = omega (arith, length_filter f xs, count_le_length f xs)
