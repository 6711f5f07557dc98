-- Laws of membership, as a type (`In`) and as a test (`member`), and of the first entry.
use Rattle.std.specs.Prelude.{◌≡◌, ◌⊎◌, ◌||◌, ◌∷◌, ◌++◌, ◌<◌}
use Rattle.lists.specs.Kit.{refl, ap, inl, inr, Bool, true, false, or-true, List, [], ℕ, zero, suc, arith, eqb, length}
use Rattle.lists.specs.Kit.{get_or, eqb-true, eq-eqb, ⊎_elim}
use Rattle.lists.specs.Lists.{member, In, head_or}
use Rattle.lists.proofs.Tests.{never, bool_cases}

pub member_append : (w : ℕ) (xs ys : List ℕ) → member w (xs ++ ys) ≡ (member w xs || member w ys)
unfolding member
member_append w [] ys = refl
member_append w (x ∷ xs) ys = go (eqb x w) (member_append w xs ys)
  where
    go : (b : Bool) → member w (xs ++ ys) ≡ (member w xs || member w ys)
        → (b || member w (xs ++ ys)) ≡ ((b || member w xs) || member w ys)
    go true e = refl
    go false e = e

pub in_get_d : (xs : List ℕ) (j : ℕ) → j < length xs → In (get_or xs j 0) xs
in_get_d [] j h = absurd (omega arith)
in_get_d (x ∷ xs) zero h = inl refl
in_get_d (x ∷ xs) (suc j) h = inr (in_get_d xs j (omega arith))

-- a head below the default is an entry
pub head_or_below : (d : ℕ) (xs : List ℕ) → head_or d xs < d → In (head_or d xs) xs
unfolding head_or
head_or_below d [] l = absurd (omega arith)
head_or_below d (x ∷ xs) l = inl refl

pub head_or_in : (d v : ℕ) (xs : List ℕ) → In v xs → In (head_or d xs) xs
unfolding head_or
head_or_in d v [] m = elim m [ ]
head_or_in d v (x ∷ xs) m = inl refl

pub head_or_any : (c d v : ℕ) (xs : List ℕ) → In v xs → head_or c xs ≡ head_or d xs
unfolding head_or
head_or_any c d v [] m = elim m [ ]
head_or_any c d v (x ∷ xs) m = refl

pub in_left : (v : ℕ) (xs ys : List ℕ) → In v xs → In v (xs ++ ys)
in_left v [] ys x' = elim x' [ ]
in_left v (x ∷ xs) ys (inl e) = inl e
in_left v (x ∷ xs) ys (inr m) = inr (in_left v xs ys m)

pub in_right : (v : ℕ) (xs ys : List ℕ) → In v ys → In v (xs ++ ys)
in_right v [] ys m = m
in_right v (x ∷ xs) ys m = inr (in_right v xs ys m)

pub in_cases : (v : ℕ) (xs ys : List ℕ) → In v (xs ++ ys) → In v xs ⊎ In v ys
in_cases v [] ys m = inr m
in_cases v (x ∷ xs) ys (inl e) = inl (inl e)
in_cases v (x ∷ xs) ys (inr m) = ⊎_elim (λ a. inl (inr a)) (λ b. inr b) (in_cases v xs ys m)

pub member_in : (v : ℕ) (xs : List ℕ) → member v xs ≡ true → In v xs
unfolding member
member_in v [] h = never false h refl
member_in v (x ∷ xs) h = go (member_in v xs) (eqb x v) refl h
  where
    go : (InRest : member v xs ≡ true → In v xs) → (b : Bool) → eqb x v ≡ b → (b || member v xs) ≡ true → In v (x ∷ xs)
    go r true e q = inl (eqb-true x v e)
    go r false e q = inr (r q)

pub in_member : (v : ℕ) (xs : List ℕ) → In v xs → member v xs ≡ true
unfolding member
in_member v [] x' = elim x' [ ]
in_member v (x ∷ xs) (inl e) = rw (eq-eqb x v e)
in_member v (x ∷ xs) (inr m) = rw (in_member v xs m) (or-true (eqb x v))

pub not_member : (v : ℕ) (xs : List ℕ) → (In v xs → ⊥) → member v xs ≡ false
not_member v xs h = ⊎_elim (λ e. absurd (h (member_in v xs e))) (λ e. e) (bool_cases (member v xs))

-- an entry, with what stands before and after it
pub split_in : (v : ℕ) (xs : List ℕ) → In v xs → (ps : List ℕ) × (qs : List ℕ) × (xs ≡ ps ++ v ∷ qs)
split_in v [] x' = elim x' [ ]
split_in v (x ∷ xs) (inl e) = ([], xs, ap {B = List ℕ} (λ y. y ∷ xs) e)
split_in v (x ∷ xs) (inr m) =
    let r = split_in v xs m in (x ∷ r.0, r.1, ap {B = List ℕ} (λ ys. x ∷ ys) r.2)

pub in_drop : (y x : ℕ) (ps qs : List ℕ) → (x ≡ y → ⊥) → In y (ps ++ x ∷ qs) → In y (ps ++ qs)
in_drop y x ps qs ne m = go (in_cases y ps (x ∷ qs) m)
  where
    go : In y ps ⊎ In y (x ∷ qs) → In y (ps ++ qs)
    go (inl a) = in_left y ps qs a
    go (inr (inl e)) = absurd (ne e)
    go (inr (inr b)) = in_right y ps qs b

pub get_d_of_in : (v : ℕ) (xs : List ℕ) → In v xs → (i : ℕ) × (i < length xs) × (get_or xs i 0 ≡ v)
get_d_of_in v [] x' = elim x' [ ]
get_d_of_in v (x ∷ xs) (inl e) = (0, omega arith, e)
get_d_of_in v (x ∷ xs) (inr m) = let r = get_d_of_in v xs m in (suc r.0, omega (arith, r.1), r.2)
