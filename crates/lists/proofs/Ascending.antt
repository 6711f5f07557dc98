-- Laws of lists in order: `Ascending` (each entry below the later ones), `Rising` (numbers never fall), `AscendingBelow`.
use Rattle.std.specs.Prelude.{◌≡◌, ◌⊎◌, ◌∷◌, ◌++◌, ◌≤◌, ◌<◌, ◌+◌}
use Rattle.lists.specs.Kit.{refl, sym, ap, ◌∙◌, inl, inr, Bool, true, false, cond, List, [], ℕ, zero, suc, arith}
use Rattle.lists.specs.Kit.{length, get_or}
use Rattle.lists.specs.{Lists.{In, head_or, Ascending, range, filter, member}, Facts.{Rising, AscendingBelow, Distinct}}
use Rattle.lists.proofs.{Member.{in_cases, in_left, member_in, in_member, get_d_of_in}, Filter.{member_filter, filter_ext, filter_one, distinct_filter}}
use Rattle.lists.proofs.{Filter.{in_filter}, Range.{in_range, distinct_range, range_in}}

pub rising_append : (num : ℕ → ℕ) (xs ys : List ℕ) → Rising num xs → Rising num ys
    → ((x y : ℕ) → In x xs → In y ys → num x ≤ num y) → Rising num (xs ++ ys)
rising_append num [] ys a b h = b
rising_append num (x ∷ xs) ys a b h =
    (λ w m. go w (in_cases w xs ys m), rising_append num xs ys a.1 b (λ x y m p. h x y (inr m) p))
  where
    go : (w : ℕ) → In w xs ⊎ In w ys → num x ≤ num w
    go w (inl m) = a.0 w m
    go w (inr m) = h x w (inl refl) m

pub rising_left : (num : ℕ → ℕ) (xs ys : List ℕ) → Rising num (xs ++ ys) → Rising num xs
rising_left num [] ys r = tt
rising_left num (x ∷ xs) ys r = (λ w m. r.0 w (in_left w xs ys m), rising_left num xs ys r.1)

pub rising_right : (num : ℕ → ℕ) (xs ys : List ℕ) → Rising num (xs ++ ys) → Rising num ys
rising_right num [] ys r = r
rising_right num (x ∷ xs) ys r = rising_right num xs ys r.1

pub rising_level : (num : ℕ → ℕ) (k : ℕ) (xs : List ℕ) → ((x : ℕ) → In x xs → num x ≡ k) → Rising num xs
rising_level num k [] h = tt
rising_level num k (x ∷ xs) h = (λ w m. omega (arith, h x (inl refl), h w (inr m)), rising_level num k xs (λ w m. h w (inr m)))

pub rising_cong : (num new : ℕ → ℕ) (xs : List ℕ) → ((x : ℕ) → In x xs → num x ≡ new x) → Rising num xs → Rising new xs
rising_cong num new [] h r = tt
rising_cong num new (x ∷ xs) h r =
    (λ w m. omega (arith, h x (inl refl), h w (inr m), r.0 w m), rising_cong num new xs (λ w m. h w (inr m)) r.1)

pub head_or_lowest : (d v : ℕ) (xs : List ℕ) → Ascending xs → In v xs → head_or d xs ≤ v
unfolding head_or
head_or_lowest d v [] a x'' = elim x'' [ ]
head_or_lowest d v (x ∷ xs) a (inl e) = omega arith
head_or_lowest d v (x ∷ xs) a (inr m) = omega (arith, a.0 v m)

pub ascending_below_filter : (n : ℕ) (f : ℕ → Bool) → AscendingBelow n (filter f (range 0 n))
ascending_below_filter n f = filter_ext f (λ w. member w (filter f (range 0 n))) (range 0 n) (λ w m. sym (member_filter f (range 0 n) w m))

pub ascending_below_one : (n v : ℕ) → v < n → AscendingBelow n (v ∷ [])
ascending_below_one n v l =
    sym (filter_one (λ w. member w (v ∷ [])) v (range 0 n) (distinct_range 0 n) (in_range 0 n v (omega arith) (omega arith))
    (in_member v (v ∷ []) (inl refl)) (λ w p. only w (member_in w (v ∷ []) p)))
  where
    only : (w : ℕ) → In w (v ∷ []) → w ≡ v
    only w (inr x') = elim x' [ ]
    only w (inl e) = sym e

pub ascending_below_distinct : (n : ℕ) (xs : List ℕ) → AscendingBelow n xs → Distinct xs
ascending_below_distinct n xs a = rw a (distinct_filter (λ w. member w xs) (range 0 n) (distinct_range 0 n))

pub ascending_below_lt : (n : ℕ) (xs : List ℕ) → AscendingBelow n xs → (w : ℕ) → In w xs → w < n
ascending_below_lt n xs a w m = omega (arith, range_in 0 n w (in_filter (λ w. member w xs) (range 0 n) w (rw a at m)).0)

pub ascending_range : (i k : ℕ) → Ascending (range i k)
unfolding range
ascending_range i zero = tt
ascending_range i (suc k) = (λ v m. omega (arith, range_in (suc i) k v m), ascending_range (suc i) k)

pub ascending_filter : (f : ℕ → Bool) (xs : List ℕ) → Ascending xs → Ascending (filter f xs)
unfolding filter
ascending_filter f [] h = tt
ascending_filter f (x ∷ xs) h = go (ascending_filter f xs h.1) (f x)
  where
    go : Ascending (filter f xs) → (t : Bool) → Ascending (cond t (x ∷ filter f xs) (filter f xs))
    go rec true = (λ v m. h.0 v (in_filter f xs v m).0, rec)
    go rec false = rec

pub rising_filter : (num : ℕ → ℕ) (f : ℕ → Bool) (xs : List ℕ) → Rising num xs → Rising num (filter f xs)
unfolding filter
rising_filter num f [] h = tt
rising_filter num f (x ∷ xs) h = go (rising_filter num f xs h.1) (f x)
  where
    go : Rising num (filter f xs) → (t : Bool) → Rising num (cond t (x ∷ filter f xs) (filter f xs))
    go rec true = (λ w m. h.0 w (in_filter f xs w m).0, rec)
    go rec false = rec

-- entries that rise with their places
pub rising_index : (num : ℕ → ℕ) (i : ℕ) (xs : List ℕ) → ((j : ℕ) → j < length xs → num (get_or xs j 0) ≡ i + j) → Rising num xs
rising_index num i [] h = tt
rising_index num i (x ∷ xs) h = (
  λ w m. (let r = get_d_of_in w xs m in later w r.0 r.1 r.2),
  rising_index num (suc i) xs (λ j l. h (suc j) (omega arith) ∙ omega arith),
)
  where
    later : (w j : ℕ) → j < length xs → get_or xs j 0 ≡ w → num x ≤ num w
    later w j l e = omega (arith, h 0 (omega arith), h (suc j) (omega arith), ap num e)

pub rising_before : (num : ℕ → ℕ) (x : ℕ) (ps qs : List ℕ) → Rising num (ps ++ x ∷ qs) → (w : ℕ) → In w ps → num w ≤ num x
rising_before num x [] qs h w x3 = elim x3 [ ]
rising_before num x (p ∷ ps) qs h w (inl e) = rw (← e) (h.0 x (after ps))
  where
    after : (zs : List ℕ) → In x (zs ++ x ∷ qs)
    after [] = inl refl
    after (z ∷ zs) = inr (after zs)
rising_before num x (p ∷ ps) qs h w (inr m) = rising_before num x ps qs h.1 w m
