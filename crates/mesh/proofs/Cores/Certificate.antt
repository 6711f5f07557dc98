-- The order is a certificate: numbers that meet the local conditions along an order are the core numbers.
-- Why: the first member, in the order, of any group has all its group neighbours later, so the group's k is at most that
-- member's number, which is at most any later member's; and the radios numbered k or more are a group.
use Rattle.std.specs.Prelude.{◌≡◌, ◌⊎◌, ◌&&◌, ◌∷◌, ◌≤◌, ◌<◌}
use Rattle.lists.{specs.Kit.{refl, inl, inr, Bool, true, false, and-false, List, [], ℕ, arith, le_antisymm, le_trans, le_refl}}
use Rattle.lists.{specs.Kit.{le_of_eq, leb, leb-true, le-leb}, specs.Lists.{count, In}, specs.Facts.{EachOnce, Rising}, proofs.Tests.{bool_cases, never}}
use Rattle.lists.{proofs.Tests.{bit_false, and_left}, proofs.Count.{count_mono}, proofs.Range.{once_in, once_below}}
use Rattle.mesh.specs.{Graph.{Graph, linked}, Cores.{Group, Core}}
use Rattle.mesh.proofs.{GraphLaws.{neighbours_in_list, neighbours_in_subset}, Cores.Orders.{FewLater, Enough}}

-- the local conditions on numbers and order
pub record Certificate (g : Graph) (num : ℕ → ℕ) (xs : List ℕ) : Type 0 where
  pub once : EachOnce g.n xs
  pub rising : Rising num xs
  pub few : FewLater (linked g) num xs
  pub enough : Enough g num

-- a radio has one core number
pub core_unique : (g : Graph) (v j k : ℕ) → Core g v j → Core g v k → j ≡ k
core_unique g v j k a b =
    le_antisymm (b.largest j a.group a.is_group a.has) (a.largest k b.group b.is_group b.has)

-- the upper bound, over the end of the order in which a group stands whole
upper : (g : Graph) (num : ℕ → ℕ) → ((w : ℕ) → linked g w w ≡ false) → (j : ℕ) (s : ℕ → Bool) (xs : List ℕ)
    → FewLater (linked g) num xs → Rising num xs → ((w : ℕ) → In w xs → s w ≡ true → j ≤ count (λ b. linked g w b && s b) xs)
    → (v : ℕ) → In v xs → s v ≡ true → j ≤ num v
unfolding count
upper g num irr j s [] few r h v m q = absurd m
upper g num irr j s (x ∷ xs) few r h v m q = go (λ k p. upper g num irr j s xs few.1 r.1 k v p q) (bool_cases (s x)) m
  where
    low : In v (x ∷ xs) → num x ≤ num v
    low (inl p) = rw p (le_refl (num v))
    low (inr p) = r.0 v p

    go : (((w : ℕ) → In w xs → s w ≡ true → j ≤ count (λ b. linked g w b && s b) xs) → In v xs → j ≤ num v)
        → (s x ≡ true) ⊎ (s x ≡ false) → In v (x ∷ xs) → j ≤ num v
    go rec (inl e) m =
        omega (
          arith,
          h x (inl refl) e,
          bit_false (linked g x x && s x) (rw (irr x)),
          count_mono (λ b. linked g x b && s b) (linked g x) xs (λ y t u. and_left (linked g x y) (s y) u),
          few.0,
          low m,
        )
    go rec (inr e) (inl p) = never (s x) (rw p q) e
    go rec (inr e) (inr p) = rec (λ w t u. omega (arith, h w (inr t) u, bit_false (linked g w x && s x) (rw e (and-false (linked g w x))))) p

-- local conditions give core numbers
pub certificate_core : (g : Graph) (num : ℕ → ℕ) (xs : List ℕ) → ((w : ℕ) → linked g w w ≡ false) → Certificate g num xs
    → (v : ℕ) → v < g.n → Core g v (num v)
unfolding Group
certificate_core g num xs irr c v l =
    record {
      group = λ w. leb (num v) (num w);
      is_group = λ w lw q. le_trans (leb-true (num v) (num w) q) (le_trans (c.enough w lw)
          (neighbours_in_subset g w (λ b. leb (num w) (num b)) (λ b. leb (num v) (num b))
          (λ b lb p. le-leb (num v) (num b) (le_trans (leb-true (num v) (num w) q) (leb-true (num w) (num b) p)))));
      has = le-leb (num v) (num v) (le_refl (num v));
      largest = λ j s gr q. upper g num irr j s xs c.few c.rising
          (λ w m u. le_trans (gr w (once_below g.n xs c.once w m) u) (le_of_eq (neighbours_in_list g w s xs c.once)))
          v (once_in g.n xs c.once v l) q;
    }

-- core numbers give each radio enough neighbours that are not below it
pub core_enough : (g : Graph) (num : ℕ → ℕ) → ((v : ℕ) → v < g.n → Core g v (num v)) → Enough g num
unfolding Group
core_enough g num c v l =
    le_trans ((c v l).is_group v l (c v l).has)
    (neighbours_in_subset g v (c v l).group (λ w. leb (num v) (num w))
    (λ w lw q. le-leb (num v) (num w) ((c w lw).largest (num v) (c v l).group (c v l).is_group q)))
