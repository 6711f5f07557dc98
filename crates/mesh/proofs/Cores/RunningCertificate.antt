-- How a reader decides that an order is a k-order: it takes the running maxima of the later-neighbour counts for numbers, and
-- asks of them only that each radio has at least its number of neighbours whose number is not below its own.
-- The other conditions hold by themselves: running maxima never fall, and none is below its radio's count.
use Rattle.std.specs.Prelude.{◌≡◌, ◌↔◌, ◌∷◌, ◌≤◌, ◌<◌}
use Rattle.lists.{specs.Kit.{sym, ap, ◌∙◌, inl, inr, Bool, true, false, List, [], map, ℕ, max, arith, le_trans, le_of_eq, leb}}
use Rattle.lists.{specs.Kit.{leb-true, le-leb}, specs.Lists.{count, In}, specs.Facts.{EachOnce, Rising}, proofs.Range.{once_in}, proofs.Map.{head_eq, tail_eq}}
use Rattle.lists.{proofs.Map.{map_eq_in}}
use Rattle.mesh.specs.{Graph.{Graph, linked, neighbours_among}, Cores.{number}, Orders.{is_k_order}}
use Rattle.mesh.proofs.{Cores.RunningMaximum.{running_maxima, numbers_k_order}, GraphLaws.{neighbours_in_subset}, Cores.Orders.{FewLater, Enough}}
use Rattle.mesh.proofs.{Cores.KOrders.{k_order_certificate, certificate_k_order}}

-- ---- running maxima as numbers

module _ (f : ℕ → ℕ → Bool) (num : ℕ → ℕ) where
  running_cons : (m x : ℕ) (xs : List ℕ) → map num (x ∷ xs) ≡ running_maxima f m (x ∷ xs)
      → (num x ≡ max m (count (f x) xs)) × (map num xs ≡ running_maxima f (num x) xs)
  unfolding running_maxima neighbours_among
  running_cons m x xs e =
      let top : ℕ = max m (count (f x) xs) in
      let here : num x ≡ top = head_eq (num x) top (map num xs) (running_maxima f top xs) e in
      (here, tail_eq (num x) top (map num xs) (running_maxima f top xs) e ∙ ap (λ (k : ℕ). running_maxima f k xs) (sym here))

  running_above : (m : ℕ) (xs : List ℕ) → map num xs ≡ running_maxima f m xs → (v : ℕ) → In v xs → m ≤ num v
  running_above m [] e v x'' = elim x'' [ ]
  running_above m (x ∷ xs) e v (inl q) = rw (← q) (omega (arith, (running_cons m x xs e).0))
  running_above m (x ∷ xs) e v (inr i) =
      let r = running_cons m x xs e in omega (arith, r.0, running_above (num x) xs r.1 v i)

  rising_running : (m : ℕ) (xs : List ℕ) → map num xs ≡ running_maxima f m xs → Rising num xs
  rising_running m [] e = tt
  rising_running m (x ∷ xs) e =
      let r = running_cons m x xs e in (running_above (num x) xs r.1, rising_running (num x) xs r.1)

  few_later_running : (m : ℕ) (xs : List ℕ) → map num xs ≡ running_maxima f m xs → FewLater f num xs
  few_later_running m [] e = tt
  few_later_running m (x ∷ xs) e =
      let r = running_cons m x xs e in (omega (arith, r.0), few_later_running (num x) xs r.1)

-- ---- the decision

module _ (g : Graph) (apart : (w : ℕ) → linked g w w ≡ false) (num : ℕ → ℕ) (xs : List ℕ) (once : EachOnce g.n xs)
    (runs : map num xs ≡ running_maxima (linked g) 0 xs) where
  enough_k_order : Enough g num → is_k_order g xs ≡ true
  enough_k_order h = certificate_k_order g num xs apart (record {
    once = once;
    rising = rising_running (linked g) num 0 xs runs;
    few = few_later_running (linked g) num 0 xs runs;
    enough = h;
  })

  -- then they are the core numbers
  pub running_number : is_k_order g xs ≡ true → (v : ℕ) → v < g.n → num v ≡ number g v
  running_number k v l = map_eq_in num (number g) xs (runs ∙ sym (numbers_k_order g apart xs k)) v (once_in g.n xs once v l)

  k_order_enough : is_k_order g xs ≡ true → Enough g num
  k_order_enough k v l =
      let same = running_number k in
      le_trans (le_of_eq (same v l)) (le_trans ((k_order_certificate g xs k).enough v l)
      (neighbours_in_subset g v (λ w. leb (number g v) (number g w)) (λ w. leb (num v) (num w))
      (λ w lw q. le-leb (num v) (num w) (omega (arith, leb-true (number g v) (number g w) q, same v l, same w lw)))))

  pub is_k_order_running : (is_k_order g xs ≡ true) ↔ Enough g num
  is_k_order_running = (k_order_enough, enough_k_order)
