-- Laws of `count`: parts, other tests, tests that pass nowhere or somewhere.
use Rattle.std.specs.Prelude.{◌≡◌, ◌⊎◌, ◌||◌, ◌&&◌, ◌∷◌, ◌++◌, ◌+◌, ◌<◌, ◌≤◌}
use Rattle.lists.specs.Kit.{sym, ◌∙◌, refl, ap, inl, inr, Bool, true, false, cond, not, and_comm, List, [], map, ℕ, suc}
use Rattle.lists.specs.Kit.{zero, le_antisymm, arith, length, ⊎_elim}
use Rattle.lists.specs.Lists.{count, In}
use Rattle.lists.proofs.Tests.{never, bit_one, bit_le, bit_true, bool_cases, bit_false}

pub count_mono : (f g : ℕ → Bool) (xs : List ℕ) → ((x : ℕ) → In x xs → f x ≡ true → g x ≡ true) → count f xs ≤ count g xs
unfolding count
count_mono f g [] h = omega arith
count_mono f g (x ∷ xs) h = omega (arith, bit_le (f x) (g x) (h x (inl refl)), count_mono f g xs (λ y m. h y (inr m)))

-- where one entry passes the other test alone
pub count_less :
    (f g : ℕ → Bool) (b : ℕ) (xs : List ℕ) → In b xs → f b ≡ false → g b ≡ true → ((x : ℕ) → In x xs → f x ≡ true → g x ≡ true) →
    count f xs < count g xs
unfolding count
count_less f g b [] x4 h k sub = elim x4 [ ]
count_less f g b (x ∷ xs) (inl e) h k sub =
    omega (arith, bit_false (f x) (ap f e ∙ h), bit_true (g x) (ap g e ∙ k), count_mono f g xs (λ y m. sub y (inr m)))
count_less f g b (x ∷ xs) (inr i) h k sub =
    omega (arith, bit_le (f x) (g x) (sub x (inl refl)), count_less f g b xs i h k (λ y m. sub y (inr m)))

pub count_cong : (f h : ℕ → Bool) (xs : List ℕ) → ((x : ℕ) → f x ≡ h x) → count f xs ≡ count h xs
count_cong f h xs e = le_antisymm (count_mono f h xs (λ x m p. sym (e x) ∙ p)) (count_mono h f xs (λ x m p. e x ∙ p))

-- tests that never pass together
pub count_or : (f h : ℕ → Bool) (xs : List ℕ) → ((x : ℕ) → f x ≡ true → h x ≡ false) → count (λ x. f x || h x) xs ≡ count f xs + count h xs
unfolding count
count_or f h [] e = refl
count_or f h (x ∷ xs) e = omega (arith, count_or f h xs e, bits (f x) (h x) (e x))
  where
    bits : (s t : Bool) → (s ≡ true → t ≡ false) → cond (s || t) 1 0 ≡ cond {A = ℕ} s 1 0 + cond t 1 0
    bits true true k = never true refl (k refl)
    bits true false k = refl
    bits false t k = omega arith

pub count_append : (f : ℕ → Bool) (xs ys : List ℕ) → count f (xs ++ ys) ≡ count f xs + count f ys
unfolding count
count_append f [] ys = omega arith
count_append f (x ∷ xs) ys = omega (arith, count_append f xs ys)

pub count_le_length : (f : ℕ → Bool) (xs : List ℕ) → count f xs ≤ length xs
unfolding count
count_le_length f [] = omega arith
count_le_length f (x ∷ xs) = omega (arith, bit_one (f x), count_le_length f xs)

pub count_all : (xs : List ℕ) → count (λ x. true) xs ≡ length xs
unfolding count
count_all [] = refl
count_all (x ∷ xs) = omega (arith, count_all xs)

pub count_ext : (f g : ℕ → Bool) (xs : List ℕ) → ((x : ℕ) → In x xs → f x ≡ g x) → count f xs ≡ count g xs
count_ext f g xs h = le_antisymm (count_mono f g xs (λ x m e. sym (h x m) ∙ e)) (count_mono g f xs (λ x m e. h x m ∙ e))

pub count_mid : (g : ℕ → Bool) (x : ℕ) (ps qs : List ℕ) → count g (ps ++ x ∷ qs) ≡ cond (g x) 1 0 + count g (ps ++ qs)
unfolding count
count_mid g x ps qs = omega (arith, count_append g ps (x ∷ qs), count_append g ps qs)

-- both kinds of entry make up the list
pub count_not : (f : ℕ → Bool) (xs : List ℕ) → count f xs + count (λ x. not (f x)) xs ≡ length xs
unfolding count
count_not f [] = refl
count_not f (x ∷ xs) = omega (arith, count_not f xs, both (f x))
  where
    both : (a : Bool) → cond {A = ℕ} a 1 0 + cond (not a) 1 0 ≡ 1
    both true = refl
    both false = refl

pub count_both : (f g : ℕ → Bool) (xs : List ℕ) → count (λ x. f x && g x) xs ≡ count (λ x. g x && f x) xs
unfolding count
count_both f g [] = refl
count_both f g (x ∷ xs) = rw (and_comm (f x) (g x), count_both f g xs)

pub count_pos : (f : ℕ → Bool) (v : ℕ) (xs : List ℕ) → In v xs → f v ≡ true → 1 ≤ count f xs
unfolding count
count_pos f v [] x'' h = elim x'' [ ]
count_pos f v (x ∷ xs) (inl e) h = omega (arith, bit_true (f x) (rw e h))
count_pos f v (x ∷ xs) (inr m) h = omega (arith, count_pos f v xs m h)

pub count_some : (f : ℕ → Bool) (xs : List ℕ) → 1 ≤ count f xs → (v : ℕ) × In v xs × (f v ≡ true)
unfolding count
count_some f [] h = absurd (omega arith)
count_some f (x ∷ xs) h = let rec = count_some f xs in
    ⊎_elim (λ e. (x, inl refl, e)) (λ e. let r = rec (omega (arith, bit_false (f x) e)) in (r.0, inr r.1, r.2)) (bool_cases (f x))

pub count_none : (f : ℕ → Bool) (xs : List ℕ) → ((x : ℕ) → In x xs → f x ≡ false) → count f xs ≡ 0
unfolding count
count_none f [] h = refl
count_none f (x ∷ xs) h = omega (arith, bit_false (f x) (h x (inl refl)), count_none f xs (λ y m. h y (inr m)))

-- either all pass, or fewer than all
pub all_or_less : (f : ℕ → Bool) (xs : List ℕ) → ((v : ℕ) → In v xs → f v ≡ true) ⊎ (count f xs < length xs)
all_or_less f xs = go (count (λ x. not (f x)) xs) refl
  where
    go : (k : ℕ) → count (λ x. not (f x)) xs ≡ k → ((v : ℕ) → In v xs → f v ≡ true) ⊎ (count f xs < length xs)
    go zero e = inl (λ v m. pick v m (bool_cases (f v)))
      where
        pick : (v : ℕ) → In v xs → (f v ≡ true) ⊎ (f v ≡ false) → f v ≡ true
        pick v m (inl p) = p
        pick v m (inr p) = absurd (omega (arith, count_pos (λ x. not (f x)) v xs m (rw p)))
    go (suc k) e = inr (omega (arith, count_not f xs))

pub count_add : (f h m : ℕ → Bool) (xs : List ℕ) → ((x : ℕ) → cond {A = ℕ} (f x) 1 0 + cond (h x) 1 0 ≤ cond (m x) 1 0) → count f xs + count h xs ≤ count m xs
unfolding count
count_add f h m [] e = omega arith
count_add f h m (x ∷ xs) e = omega (arith, e x, count_add f h m xs e)

pub count_map : (f : ℕ → Bool) (h : ℕ → ℕ) (xs : List ℕ) → count f (map h xs) ≡ count (λ x. f (h x)) xs
unfolding count
count_map f h [] = refl
count_map f h (x ∷ xs) = ap (λ (y : ℕ). cond (f (h x)) 1 0 + y) (count_map f h xs)
