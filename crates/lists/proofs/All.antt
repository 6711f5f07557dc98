-- Laws of `all` and `same`: tests of every entry, and equality of two lists.
use Rattle.std.specs.Prelude.{◌≡◌, ◌&&◌, ◌∷◌, ◌++◌, ◌<◌}
use Rattle.lists.specs.Kit.{refl, ap₂, ap, sym, ◌∙◌, inl, inr, Bool, true, false, List, [], ℕ, arith, length, eqb, eq-eqb}
use Rattle.lists.specs.Kit.{eqb-true, ⊎_elim}
use Rattle.lists.specs.Lists.{all, In, range, same}
use Rattle.lists.proofs.{Tests.{and_left, and_right, and_both, never, bool_cases, iff_eq}, Range.{in_range, range_in}}

pub all_in : (f : ℕ → Bool) (xs : List ℕ) → all f xs ≡ true → (v : ℕ) → In v xs → f v ≡ true
unfolding all
all_in f [] h v x'' = elim x'' [ ]
all_in f (x ∷ xs) h v (inl e) = rw (← e) (and_left (f x) (all f xs) h)
all_in f (x ∷ xs) h v (inr m) = all_in f xs (and_right (f x) (all f xs) h) v m

pub in_all : (f : ℕ → Bool) (xs : List ℕ) → ((v : ℕ) → In v xs → f v ≡ true) → all f xs ≡ true
unfolding all
in_all f [] h = refl
in_all f (x ∷ xs) h = and_both (f x) (all f xs) (h x (inl refl)) (in_all f xs (λ v m. h v (inr m)))

-- the same over a range from 0
pub all_below : (f : ℕ → Bool) (n : ℕ) → all f (range 0 n) ≡ true → (v : ℕ) → v < n → f v ≡ true
all_below f n h v l = all_in f (range 0 n) h v (in_range 0 n v (omega arith) (omega arith))

pub below_all : (f : ℕ → Bool) (n : ℕ) → ((v : ℕ) → v < n → f v ≡ true) → all f (range 0 n) ≡ true
below_all f n h = in_all f (range 0 n) (λ v m. h v (omega (arith, range_in 0 n v m)))

pub same_refl : (xs : List ℕ) → same xs xs ≡ true
unfolding same
same_refl [] = refl
same_refl (x ∷ xs) = rw (eq-eqb x x refl, same_refl xs)

pub same_eq : (xs ys : List ℕ) → same xs ys ≡ true → xs ≡ ys
unfolding same
same_eq [] [] h = refl
same_eq [] (y ∷ ys) h = never false h refl
same_eq (x ∷ xs) [] h = never false h refl
same_eq (x ∷ xs) (y ∷ ys) h =
    ap₂ {C = List ℕ} (λ z zs. z ∷ zs) (eqb-true x y (and_left (eqb x y) (same xs ys) h)) (same_eq xs ys (and_right (eqb x y) (same xs ys) h))

pub same_lengths : (xs ys : List ℕ) → (length xs ≡ length ys → ⊥) → same xs ys ≡ false
same_lengths xs ys h = ⊎_elim (λ e. absurd (h (ap length (same_eq xs ys e)))) (λ e. e) (bool_cases (same xs ys))

pub all_range_ext : (f h : ℕ → Bool) (n : ℕ) → ((v : ℕ) → v < n → f v ≡ h v) → all f (range 0 n) ≡ all h (range 0 n)
all_range_ext f h n e = iff_eq (all f (range 0 n)) (all h (range 0 n))
    (λ a. below_all h n (λ v l. sym (e v l) ∙ all_below f n a v l)) (λ a. below_all f n (λ v l. e v l ∙ all_below h n a v l))

pub all_append : (f : ℕ → Bool) (xs ys : List ℕ) → all f (xs ++ ys) ≡ (all f xs && all f ys)
unfolding all
all_append f [] ys = refl
all_append f (x ∷ xs) ys = rw (all_append f xs ys) (go (f x) (all f xs) (all f ys))
  where
    go : (a b c : Bool) → (a && (b && c)) ≡ ((a && b) && c)
    go true b c = refl
    go false b c = refl
