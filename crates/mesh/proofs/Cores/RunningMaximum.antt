-- Along a k-order the numbers are the running maxima of the later-neighbour counts.
-- At least: each count is at most its radio's number, and numbers never fall. At most: while the maximum so far is below the
-- number of the next radio v, everybody before v has a smaller number, so the largest group that has v stands from v on, and
-- v's neighbours in it are later.
use Rattle.std.specs.Prelude.{◌≡◌, ◌⊎◌, ◌&&◌, ◌∷◌, ◌≤◌, ◌<◌}
use Rattle.lists.{specs.Kit.{refl, ap, ap₂, ◌∙◌, inl, inr, Bool, true, false, List, [], map, ℕ, max, arith, le_trans}}
use Rattle.lists.{specs.Lists.{range, count, In}, specs.Facts.{EachOnce, Rising}, proofs.Tests.{never, and_left, and_right, trichotomy}}
use Rattle.lists.{proofs.Range.{range_in, distinct_range, once_in, once_below}, proofs.Distinct.{count_sub}}
use Rattle.mesh.specs.{Graph.{Graph, radios, linked, neighbours_among, neighbours_in}, Cores.{Group, Core, number}, Orders.{is_k_order}}
use Rattle.mesh.proofs.Cores.{Orders.{FewLater}, Peeling.{number_core}, KOrders.{k_order_certificate}}

-- for each radio of a list, the greatest count of later neighbours up to it, and at least `top`, the maximum so far: so a read image's
-- numbers are worked out
unfoldable pub running_maxima : (neighbour : ℕ → ℕ → Bool) → (top : ℕ) → List ℕ → List ℕ
running_maxima f m [] = []
running_maxima f m (x ∷ xs) = let top = max m (neighbours_among f x xs) in top ∷ running_maxima f top xs

module _ (g : Graph) (num : ℕ → ℕ) (apart : (w : ℕ) → linked g w w ≡ false) (core : (v : ℕ) → v < g.n → Core g v (num v)) where
  -- x comes next, xs after it; whoever is in neither has at most the maximum so far
  num_le_later : (m x : ℕ) (xs : List ℕ) → x < g.n → ((w : ℕ) → w < g.n → In w (x ∷ xs) ⊎ (num w ≤ m)) → m < num x → num x ≤ count (linked g x) xs
  unfolding Group neighbours_in radios
  num_le_later m x xs l rest h =
      le_trans ((core x l).is_group x l (core x l).has)
      (count_sub (λ b. linked g x b && (core x l).group b) (linked g x) (range 0 g.n) xs (distinct_range 0 g.n)
      (λ b i p. let e = and_left (linked g x b) ((core x l).group b) p in
      (later b e (omega (arith, range_in 0 g.n b i)) (and_right (linked g x b) ((core x l).group b) p), e)))
    where
      later : (b : ℕ) → linked g x b ≡ true → b < g.n → (core x l).group b ≡ true → In b xs
      later b e lb s = go (rest b lb)
        where
          go : In b (x ∷ xs) ⊎ (num b ≤ m) → In b xs
          go (inl (inl q)) = never (linked g x b) e (rw (← q) (apart x))
          go (inl (inr i)) = i
          go (inr q) = absurd (omega (arith, (core b lb).largest (num x) (core x l).group (core x l).is_group s))

  numbers_running_from : (m : ℕ) (xs : List ℕ) → ((v : ℕ) → In v xs → v < g.n) → Rising num xs → FewLater (linked g) num xs
      → ((v : ℕ) → In v xs → m ≤ num v) → ((w : ℕ) → w < g.n → In w xs ⊎ (num w ≤ m)) → map num xs ≡ running_maxima (linked g) m xs
  unfolding running_maxima neighbours_among
  numbers_running_from m [] below r o low rest = refl
  numbers_running_from m (x ∷ xs) below r o low rest =
      ap₂ {C = List ℕ} (λ y ys. y ∷ ys) top
      (numbers_running_from (num x) xs (λ v i. below v (inr i)) r.1 o.1 r.0 next ∙ ap (λ (t : ℕ). running_maxima (linked g) t xs) top)
    where
      top : num x ≡ max m (count (linked g x) xs)
      top = go (trichotomy m (num x))
        where
          go : (m < num x) ⊎ ((m ≡ num x) ⊎ (num x < m)) → num x ≡ max m (count (linked g x) xs)
          go (inl h) = omega (arith, o.0, num_le_later m x xs (below x (inl refl)) rest h)
          go (inr (inl h)) = omega (arith, o.0)
          go (inr (inr h)) = absurd (omega (arith, low x (inl refl)))

      next : (w : ℕ) → w < g.n → In w xs ⊎ (num w ≤ num x)
      next w l = go (rest w l)
        where
          go : In w (x ∷ xs) ⊎ (num w ≤ m) → In w xs ⊎ (num w ≤ num x)
          go (inl (inl e)) = inr (rw e (omega arith))
          go (inl (inr i)) = inl i
          go (inr h) = inr (omega (arith, low x (inl refl)))

  pub numbers_running : (xs : List ℕ) → EachOnce g.n xs → Rising num xs → FewLater (linked g) num xs → map num xs ≡ running_maxima (linked g) 0 xs
  numbers_running xs once r o =
      numbers_running_from 0 xs (once_below g.n xs once) r o (λ v i. omega arith) (λ w l. inl (once_in g.n xs once w l))

pub numbers_k_order : (g : Graph) → ((w : ℕ) → linked g w w ≡ false) → (xs : List ℕ) → is_k_order g xs ≡ true
    → map (number g) xs ≡ running_maxima (linked g) 0 xs
numbers_k_order g apart xs h =
    let c = k_order_certificate g xs h in numbers_running g (number g) apart (number_core g) xs c.once c.rising c.few
