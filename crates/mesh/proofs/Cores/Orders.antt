-- Laws of orders: the conditions of a k-order as types, with a bridge to each test, and how they pass along parts of a list.
use Rattle.std.specs.Prelude.{◌≡◌, ◌∷◌, ◌++◌, ◌≤◌, ◌<◌}
use Rattle.lists.{specs.Kit.{refl, inl, inr, Bool, true, List, [], ℕ, arith, le_trans, leb, eqb, length, leb-true, le-leb, eqb-true}}
use Rattle.lists.{specs.Kit.{eq-eqb}, specs.Lists.{range, count, all, In}, specs.Facts.{Distinct, Permutation, EachOnce, Rising}, proofs.Tests.{and_left}}
use Rattle.lists.{proofs.Tests.{and_right, and_both}, proofs.Range.{once_in, once_distinct, once_length, once_from}, proofs.Distinct.{distinct_one}}
use Rattle.lists.{proofs.Count.{count_append, count_mid, count_mono, count_some, count_pos}, proofs.All.{all_below, below_all}}
use Rattle.mesh.specs.{Graph.{Graph, neighbours_among, neighbours_in}, Orders.{each_once, rising, few_later}}

-- ---- each radio once

pub each_once_of : (n : ℕ) (xs : List ℕ) → each_once n xs ≡ true → EachOnce n xs
unfolding each_once
each_once_of n xs h = once_from n xs (eqb-true (length xs) n (and_left (eqb (length xs) n) (all one (range 0 n)) h)) there
  where
    one : ℕ → Bool
    one v = eqb (count (λ x. eqb x v) xs) 1

    there : (v : ℕ) → v < n → In v xs
    there v l =
        let e = eqb-true (count (λ x. eqb x v) xs) 1 (all_below one n (and_right (eqb (length xs) n) (all one (range 0 n)) h) v l) in
        let r = count_some (λ x. eqb x v) xs (omega arith) in rw (eqb-true r.0 v r.2) at r.1

pub of_each_once : (n : ℕ) (xs : List ℕ) → EachOnce n xs → each_once n xs ≡ true
unfolding each_once
of_each_once n xs o =
    and_both (eqb (length xs) n) (all one (range 0 n)) (eq-eqb (length xs) n (once_length n xs o))
    (below_all one n (λ v l. eq-eqb (count (λ x. eqb x v) xs) 1 (omega (
      arith,
      distinct_one v xs (once_distinct n xs o),
      count_pos (λ x. eqb x v) v xs (once_in n xs o v l) (eq-eqb v v refl),
    ))))
  where
    one : ℕ → Bool
    one v = eqb (count (λ x. eqb x v) xs) 1

-- ---- rising

pub rising_of : (num : ℕ → ℕ) (xs : List ℕ) → rising num xs ≡ true → Rising num xs
unfolding rising
rising_of num [] h = tt
rising_of num (x ∷ []) h = (λ w m. absurd m, tt)
rising_of num (x ∷ y ∷ ys) h =
    let r = rising_of num (y ∷ ys) (and_right (leb (num x) (num y)) (rising num (y ∷ ys)) h) in
    (λ w m. go (leb-true (num x) (num y) (and_left (leb (num x) (num y)) (rising num (y ∷ ys)) h)) r w m, r)
  where
    go : num x ≤ num y → Rising num (y ∷ ys) → (w : ℕ) → In w (y ∷ ys) → num x ≤ num w
    go l r w (inl e) = rw (← e) l
    go l r w (inr m) = le_trans l (r.0 w m)

pub of_rising : (num : ℕ → ℕ) (xs : List ℕ) → Rising num xs → rising num xs ≡ true
unfolding rising
of_rising num [] r = refl
of_rising num (x ∷ []) r = refl
of_rising num (x ∷ y ∷ ys) r =
    and_both (leb (num x) (num y)) (rising num (y ∷ ys)) (le-leb (num x) (num y) (r.0 y (inl refl))) (of_rising num (y ∷ ys) r.1)

-- ---- few later neighbours

-- no entry has more later neighbours than its number
abbrev pub FewLater : (neighbour : ℕ → ℕ → Bool) → (num : ℕ → ℕ) → List ℕ → Type 0
FewLater f num [] = Unit {0}
FewLater f num (x ∷ xs) = (count (f x) xs ≤ num x) × FewLater f num xs

pub few_later_of : (f : ℕ → ℕ → Bool) (num : ℕ → ℕ) (xs : List ℕ) → few_later f num xs ≡ true → FewLater f num xs
unfolding few_later neighbours_among
few_later_of f num [] h = tt
few_later_of f num (x ∷ xs) h = (
  leb-true (count (f x) xs) (num x) (and_left (leb (count (f x) xs) (num x)) (few_later f num xs) h),
  few_later_of f num xs (and_right (leb (count (f x) xs) (num x)) (few_later f num xs) h),
)

pub of_few_later : (f : ℕ → ℕ → Bool) (num : ℕ → ℕ) (xs : List ℕ) → FewLater f num xs → few_later f num xs ≡ true
unfolding few_later neighbours_among
of_few_later f num [] h = refl
of_few_later f num (x ∷ xs) h =
    and_both (leb (count (f x) xs) (num x)) (few_later f num xs) (le-leb (count (f x) xs) (num x) h.0) (of_few_later f num xs h.1)

pub few_later_right : (f : ℕ → ℕ → Bool) (num : ℕ → ℕ) (xs ys : List ℕ) → FewLater f num (xs ++ ys) → FewLater f num ys
few_later_right f num [] ys h = h
few_later_right f num (x ∷ xs) ys h = few_later_right f num xs ys h.1

-- an entry less in the middle
pub few_later_drop : (f : ℕ → ℕ → Bool) (num : ℕ → ℕ) (x : ℕ) (ps qs : List ℕ) → FewLater f num (ps ++ x ∷ qs) → FewLater f num (ps ++ qs)
few_later_drop f num x [] qs h = h.1
few_later_drop f num x (p ∷ ps) qs h = (omega (arith, h.0, count_mid (f p) x ps qs), few_later_drop f num x ps qs h.1)

-- other neighbours and numbers, and what stands behind in another order
pub few_later_front : (f h : ℕ → ℕ → Bool) (num new : ℕ → ℕ) (ps ys zs : List ℕ) → Permutation ys zs → Distinct (ps ++ zs)
    → ((v : ℕ) (ws : List ℕ) → In v ps → Distinct ws → count (f v) ws ≤ num v → count (h v) ws ≤ new v)
    → FewLater f num (ps ++ ys) → FewLater h new zs → FewLater h new (ps ++ zs)
few_later_front f h num new [] ys zs e d k a b = b
few_later_front f h num new (p ∷ ps) ys zs e d k a b = (
  k p (ps ++ zs) (inl refl) d.1 (omega (arith, a.0, count_append (f p) ps ys, count_append (f p) ps zs, e (f p))),
  few_later_front f h num new ps ys zs e d.1 (λ v ws m dw q. k v ws (inr m) dw q) a.1 b,
)

-- the whole list at once, where a condition may speak of its entries
pub few_later_cong : (f h : ℕ → ℕ → Bool) (num new : ℕ → ℕ) (zs : List ℕ)
    → ((v w : ℕ) → In v zs → In w zs → h v w ≡ true → f v w ≡ true) → ((v : ℕ) → In v zs → num v ≤ new v) → FewLater f num zs → FewLater h new zs
few_later_cong f h num new [] k l a = tt
few_later_cong f h num new (z ∷ zs) k l a = (
  le_trans (count_mono (h z) (f z) zs (λ w m q. k z w (inl refl) (inr m) q)) (le_trans a.0 (l z (inl refl))),
  few_later_cong f h num new zs (λ v w m p q. k v w (inr m) (inr p) q) (λ v m. l v (inr m)) a.1,
)

-- ---- enough neighbours that are not below

abbrev pub Enough : Graph → (num : ℕ → ℕ) → Type 0
Enough g num = (v : ℕ) → v < g.n → num v ≤ neighbours_in g v (λ w. leb (num v) (num w))
