-- Laws of `range`, and of lists that hold each number below n once.
use Rattle.std.specs.Prelude.{◌≡◌, ◌∷◌, ◌++◌, ◌+◌, ◌-◌, ◌≤◌, ◌<◌}
use Rattle.lists.specs.Kit.{ap, ◌∙◌, refl, sym, inl, inr, Bool, false, not, true, List, [], ℕ, zero, suc, arith}
use Rattle.lists.specs.Kit.{eq-or-lt_of_le, add-one, eqb, get_or, length, eq-eqb, ⊎_elim}
use Rattle.lists.specs.{Lists.{range, count, In}, Facts.{EachOnce, Distinct}}
use Rattle.lists.proofs.{Count.{count_append, count_none, count_pos, count_not, count_all}, Distinct.{distinct_one, count_sub, permutation_in}}
use Rattle.lists.proofs.Distinct.{permutation_distinct}

pub range_in : (i k v : ℕ) → In v (range i k) → (i ≤ v) × (v < i + k)
unfolding range
range_in i zero v m = absurd m
range_in i (suc k) v (inl e) = omega arith
range_in i (suc k) v (inr m) = omega (arith, range_in (suc i) k v m)

pub range_append : (i j k : ℕ) → range i (j + k) ≡ range i j ++ range (i + j) k
unfolding range
range_append i zero k =
    let e : 0 + k ≡ k = omega arith in
    let f : i + 0 ≡ i = omega arith in rw (e, f)
range_append i (suc j) k =
    let e : suc j + k ≡ suc (j + k) = omega arith in
    let f : suc i + j ≡ i + suc j = omega arith in
    ap (range i) e ∙ ap {B = List ℕ} (λ xs. i ∷ xs) (range_append (suc i) j k ∙ ap (λ (m : ℕ). range (suc i) j ++ range m k) f)

-- what passes is below n
pub count_below : (f : ℕ → Bool) (n m : ℕ) → n ≤ m → ((b : ℕ) → n ≤ b → b < m → f b ≡ false) → count f (range 0 m) ≡ count f (range 0 n)
count_below f n m h out =
    let e : m ≡ n + (m - n) = omega arith in
    let z = count_none f (range (0 + n) (m - n)) (λ b i. let r = range_in (0 + n) (m - n) b i in out b (omega (arith, r.0)) (omega (arith, r.1))) in
    ap (λ (k : ℕ). count f (range 0 k)) e ∙ ap (count f) (range_append 0 n (m - n))
    ∙ omega (arith, z, count_append f (range 0 n) (range (0 + n) (m - n)))

pub in_range : (i k v : ℕ) → i ≤ v → v < i + k → In v (range i k)
unfolding range
in_range i zero v h l = absurd (omega arith)
in_range i (suc k) v h l = let rec = in_range (suc i) k v in ⊎_elim (λ e. inl e) (λ q. inr (rec q (omega arith))) (eq-or-lt_of_le h)

pub distinct_range : (i k : ℕ) → Distinct (range i k)
unfolding range
distinct_range i zero = tt
distinct_range i (suc k) = (λ m. omega (arith, range_in (suc i) k i m), distinct_range (suc i) k)

pub count_range_one : (n v : ℕ) → v < n → count (λ x. eqb x v) (range 0 n) ≡ 1
count_range_one n v h = omega (
  arith,
  distinct_one v (range 0 n) (distinct_range 0 n),
  count_pos (λ x. eqb x v) v (range 0 n) (in_range 0 n v (omega arith) (omega arith)) (eq-eqb v v refl),
)

pub get_d_range : (i k v : ℕ) → v < k → get_or (range i k) v 0 ≡ i + v
unfolding range
get_d_range i zero v h = absurd (omega arith)
get_d_range i (suc k) zero h = omega arith
get_d_range i (suc k) (suc v) h = omega (arith, get_d_range (suc i) k v (omega arith))

pub length_range : (i k : ℕ) → length (range i k) ≡ k
unfolding range
length_range i zero = refl
length_range i (suc k) = ap suc (length_range (suc i) k)

-- as many entries as radios, and every radio among them
pub once_from : (n : ℕ) (xs : List ℕ) → length xs ≡ n → ((v : ℕ) → v < n → In v xs) → EachOnce n xs
once_from n xs e h f =
    let le : (g : ℕ → Bool) → count g (range 0 n) ≤ count g xs =
    λ g. count_sub g g (range 0 n) xs (distinct_range 0 n) (λ v m p. (h v (omega (arith, range_in 0 n v m)), p)) in
    omega (arith, le f, le (λ x. not (f x)), count_not f xs, count_not f (range 0 n), length_range 0 n)

pub once_in : (n : ℕ) (xs : List ℕ) → EachOnce n xs → (v : ℕ) → v < n → In v xs
once_in n xs o v l = permutation_in (range 0 n) xs (λ f. sym (o f)) v (in_range 0 n v (omega arith) (omega arith))

pub once_below : (n : ℕ) (xs : List ℕ) → EachOnce n xs → (v : ℕ) → In v xs → v < n
once_below n xs o v m = omega (arith, range_in 0 n v (permutation_in xs (range 0 n) o v m))

-- as many as there are, below n and without repeats, are each radio once
pub once_of : (n : ℕ) (xs : List ℕ) → Distinct xs → ((v : ℕ) → In v xs → v < n) → length xs ≡ n → EachOnce n xs
once_of n xs d b e f =
    let le : (g : ℕ → Bool) → count g xs ≤ count g (range 0 n) =
    λ g. count_sub g g xs (range 0 n) d (λ v m p. (in_range 0 n v (omega arith) (omega (arith, b v m)), p)) in
    omega (arith, le f, le (λ x. not (f x)), count_not f xs, count_not f (range 0 n), length_range 0 n)

pub once_distinct : (n : ℕ) (xs : List ℕ) → EachOnce n xs → Distinct xs
once_distinct n xs o = permutation_distinct xs (range 0 n) o (distinct_range 0 n)

pub once_length : (n : ℕ) (xs : List ℕ) → EachOnce n xs → length xs ≡ n
once_length n xs o = omega (arith, o (λ x. true), count_all xs, count_all (range 0 n), length_range 0 n)

pub range_suc : (i k : ℕ) → range i (suc k) ≡ range i k ++ (i + k) ∷ []
unfolding range
range_suc i k = ap (range i) (sym (add-one k)) ∙ range_append i k 1

pub count_front : (f : ℕ → Bool) (v n : ℕ) → v ≤ n → count f (range 0 v) ≤ count f (range 0 n)
count_front f v n l =
    let e : n ≡ v + (n - v) = omega arith in
    omega (arith, ap (λ (j : ℕ). count f (range 0 j)) e, ap (count f) (range_append 0 v (n - v)), count_append f (range 0 v) (range (0 + v) (n - v)))
