-- The neighbours of a radio that stand after it in an order.
--   later_in_at         they are the neighbours among the entries after its place
--   in_later_in         each stands in the order
--   first_is_first      the first of them is a neighbour, and there is none between
--   nobody_none         nobody exactly when there are none
use Rattle.std.specs.Prelude.{◌≡◌, ◌⊎◌, ◌↔◌, ◌∷◌, ◌++◌, ◌<◌}
use Rattle.lists.{specs.Kit.{refl, ap, inl, inr, Bool, true, false, List, [], ℕ, zero, suc, arith, eqb, length, get_or, drop}}
use Rattle.lists.{specs.Kit.{eqb-true, eq-eqb, ne_eqb}, specs.Lists.{filter, head_or, In}, proofs.Tests.{bool_cases}, proofs.Filter.{in_filter}}
use Rattle.lists.specs.Kit.{⊎_elim}
use Rattle.mesh.specs.{Orders.{later_in, nobody, FirstLater}}

-- ---- the first entry that passes a test

record FirstPassing (g : ℕ → Bool) (w : ℕ) (xs : List ℕ) : Type 0 where
  front : List ℕ
  back : List ℕ
  is : xs ≡ front ++ (w ∷ back)
  passes : g w ≡ true
  none_before : (u : ℕ) → In u front → g u ≡ false

first_passing : (g : ℕ → Bool) (xs : List ℕ) (w : ℕ) (ws : List ℕ) → filter g xs ≡ w ∷ ws → FirstPassing g w xs
unfolding filter head_or
first_passing g [] w ws e = absurd (omega (arith, ap length e))
first_passing g (x ∷ xs) w ws e = go (first_passing g xs w ws) (bool_cases (g x))
  where
    go : (filter g xs ≡ w ∷ ws → FirstPassing g w xs) → (g x ≡ true) ⊎ (g x ≡ false) → FirstPassing g w (x ∷ xs)
    go rec (inl t) =
        let same : x ≡ w = ap (head_or 0) (rw t at e) in
        record { front = []; back = xs; is = ap {B = List ℕ} (λ y. y ∷ xs) same; passes = rw (← same) t; none_before = λ u m. absurd m }
    go rec (inr t) =
        let r = rec (rw t at e) in
        record {
          front = x ∷ r.front;
          back = r.back;
          is = ap {B = List ℕ} (λ ys. x ∷ ys) r.is;
          passes = r.passes;
          none_before = λ u m. before r.front u (r.none_before u) m;
        }
      where
        before : (ys : List ℕ) (u : ℕ) → (In u ys → g u ≡ false) → (x ≡ u) ⊎ In u ys → g u ≡ false
        before ys u h (inl q) = rw (← q) t
        before ys u h (inr m) = h m

-- ---- later_in

module _ (f : ℕ → ℕ → Bool) (v : ℕ) where
  pub later_in_at : (xs : List ℕ) (p : ℕ) → p < length xs → get_or xs p 0 ≡ v → ((j : ℕ) → j < p → get_or xs j 0 ≡ v → ⊥)
      → later_in f v xs ≡ filter (f v) (drop (suc p) xs)
  unfolding later_in
  later_in_at [] p l e none = absurd (omega arith)
  later_in_at (x ∷ xs) zero l e none = rw (eq-eqb x v e)
  later_in_at (x ∷ xs) (suc p) l e none =
      rw (ne_eqb x v (none 0 (omega arith))) (later_in_at xs p (omega arith) e (λ j k. none (suc j) (omega arith)))

  pub in_later_in : (xs : List ℕ) (u : ℕ) → In u (later_in f v xs) → In u xs
  unfolding later_in
  in_later_in [] u m = m
  in_later_in (x ∷ xs) u m = let rec = in_later_in xs u in
      ⊎_elim (λ t. inr (in_filter (f v) xs u (rw t at m)).0) (λ t. inr (rec (rw t at m))) (bool_cases (eqb x v))

  pub first_is_first : (xs : List ℕ) → 0 < length (later_in f v xs) → FirstLater f v (head_or nobody (later_in f v xs)) xs
  unfolding later_in head_or
  first_is_first [] h = absurd (omega arith)
  first_is_first (x ∷ xs) h = go (first_is_first xs) (bool_cases (eqb x v))
    where
      here : (ys : List ℕ) → x ≡ v → filter (f v) xs ≡ ys → 0 < length ys → FirstLater f v (head_or nobody ys) (x ∷ xs)
      here [] q e l = absurd (omega arith)
      here (w ∷ ws) q e l =
          let r = first_passing (f v) xs w ws e in
          record {
            before = [];
            between = r.front;
            after = r.back;
            is = rw q (ap {B = List ℕ} (λ ys. v ∷ ys) r.is);
            neighbour = r.passes;
            none_between = r.none_before;
          }

      go : (0 < length (later_in f v xs) → FirstLater f v (head_or nobody (later_in f v xs)) xs) → (eqb x v ≡ true) ⊎ (eqb x v ≡ false)
          → FirstLater f v (head_or nobody (later_in f v (x ∷ xs))) (x ∷ xs)
      go rec (inl t) = rw t (here (filter (f v) xs) (eqb-true x v t) refl (rw t at h))
      go rec (inr t) =
          let r = rec (rw t at h) in
          rw t (record {
            before = x ∷ r.before;
            between = r.between;
            after = r.after;
            is = ap {B = List ℕ} (λ ys. x ∷ ys) r.is;
            neighbour = r.neighbour;
            none_between = r.none_between;
          })

  pub nobody_none : (xs : List ℕ) → ((u : ℕ) → In u xs → u < nobody)
      → (head_or nobody (later_in f v xs) ≡ nobody) ↔ (length (later_in f v xs) ≡ 0)
  unfolding head_or
  nobody_none xs small = go (later_in f v xs) (in_later_in xs)
    where
      go : (ys : List ℕ) → ((u : ℕ) → In u ys → In u xs) → (head_or nobody ys ≡ nobody) ↔ (length ys ≡ 0)
      go [] m = (λ e. refl, λ e. refl)
      go (w ∷ ws) m = (λ e. absurd (omega (arith, small w (m w (inl refl)), e)), λ e. absurd (omega arith))
