-- The least weight along the kept links is the greatest that any way has.
--   staircase_way       joined radios have a way over kept links that uses none twice
--   staircase_widest    and the least weight along any such way is no less than along any way of the graph
--   staircase_core      two radios are in one connected core at level k exactly if kept links of weight k or more join them
use Rattle.std.specs.Prelude.{◌≡◌, ◌⊎◌, ◌↔◌, ◌∷◌, ◌++◌, ◌≤◌, ◌<◌}
use Rattle.lists.{specs.Kit.{refl, sym, ap, subst, inl, inr, true, false, List, [], ℕ, arith, leb, leb-true, leb-false}}
use Rattle.lists.{specs.Kit.{le-leb}, proofs.Tests.{bool_cases, trichotomy}}
use Rattle.mesh.{specs.Graph.{Link, Graph, link, link_of, linked, proper, InLinks}, specs.Cores.{number}, specs.Connected.{Reachable, here, onward, at_least}}
use Rattle.mesh.{specs.Connected.{InCore}, specs.Staircase.{Joined, Between, Way, stay, along, Once, OnceWay, least, weight, heavy, staircase}}
use Rattle.mesh.{proofs.GraphLaws.{proper_of}, proofs.Tables.AscendingLinks.{in_links_left, in_links_right, in_links_cases, link_less, link_more, linked_in}}
use Rattle.mesh.{proofs.Trees.CoreLevels.{in_core_below, in_core_level}, proofs.Trees.Reach.{reachable_trans}}
use Rattle.forests.proofs.{JoinedLaws.{in_joins, linked_some, joined_sym, joined_mono}, Keeping.{in_heavy}, Heaviest.{links_inside, staircase_inside}}
use Rattle.forests.proofs.{Heaviest.{staircase_acyclic, staircase_joins, staircase_spanning}, Ways.{split_links, way_joined, way_at, joined_way}}
use Rattle.forests.proofs.{Ways.{least_le, le_least}}

module _ (g : Graph) (p : proper g.n g.links ≡ true) where
  pub staircase_way : (a b : ℕ) → Joined g.n g.links a b → OnceWay (staircase g) a b
  staircase_way a b r = joined_way g.n (staircase g) ((staircase_spanning g p).spans a b r)

  -- a link on the kept way with less than w could be left out, were its ends' radios joined by heavier ones
  no_lighter : (a b w : ℕ) → a < g.n → Joined g.n (heavy (weight g) w (staircase g)) a b → (qs : List Link) → Way (staircase g) a b qs → Once qs
      → (l : Link) → InLinks l qs → InLinks l (staircase g) → weight g l < w → ⊥
  no_lighter a b w la r qs q o l i k less = go (split_links l (staircase g) k)
    where
      n : ℕ
      n = g.n

      at_place : (ps rs : List Link) → staircase g ≡ ps ++ (l ∷ rs) → ⊥
      at_place ps rs e = close (way_at n (staircase g) (ps ++ rs) (staircase_inside g p) l others q o i)
        where
          pick : (m : Link) → (m ≡ l → ⊥) → InLinks m ps ⊎ InLinks m (l ∷ rs) → InLinks m (ps ++ rs)
          pick m ne (inl j) = in_links_left m ps rs j
          pick m ne (inr (inl x)) = absurd (ne (sym x))
          pick m ne (inr (inr j)) = in_links_right m ps rs j

          others : (m : Link) → InLinks m (staircase g) → (m ≡ l → ⊥) → InLinks m (ps ++ rs)
          others m j ne = pick m ne (in_links_cases m ps (l ∷ rs) (rw e at j))

          heavier : (m : Link) → InLinks m (heavy (weight g) w (staircase g)) → InLinks m (ps ++ rs)
          heavier m j = let x = in_heavy (weight g) w (staircase g) m j in others m x.0 (λ y. omega (arith, x.1, ap (weight g) y))

          straight : Joined n (ps ++ rs) a b
          straight = joined_mono n (heavy (weight g) w (staircase g)) (ps ++ rs)
              (λ m j. staircase_inside g p m (in_heavy (weight g) w (staircase g) m j).0) heavier r

          turn : (v x : ℕ) → Joined n (ps ++ rs) v x → v < n → Between l v x → ⊥
          turn v x j h (inl y) = staircase_acyclic g p ps rs l e (rw (← y.0, ← y.1) j)
          turn v x j h (inr y) = staircase_acyclic g p ps rs l e (rw (← y.0, ← y.1) (joined_sym n (ps ++ rs) h j))

          below : (v x : ℕ) → Between l v x → (v < n) × (x < n)
          below v x (inl y) = let z = staircase_inside g p l k in (omega (arith, y.0, z.0), omega (arith, y.1, z.1))
          below v x (inr y) = let z = staircase_inside g p l k in (omega (arith, y.0, z.1), omega (arith, y.1, z.0))

          close : (v : ℕ) × (x : ℕ) × Joined n (ps ++ rs) a v × Between l v x × Joined n (ps ++ rs) x b → ⊥
          close z = let h = below z.0 z.1 z.3 in
              turn z.0 z.1 (reachable_trans (joined_sym n (ps ++ rs) la z.2) (reachable_trans straight (joined_sym n (ps ++ rs) h.1 z.4))) h.0
              z.3

      go : (ps : List Link) × (rs : List Link) × (staircase g ≡ ps ++ (l ∷ rs)) → ⊥
      go z = at_place z.0 z.1 z.2

  way_links : {a b : ℕ} {qs : List Link} → Way (staircase g) a b qs → (l : Link) → InLinks l qs → InLinks l (staircase g)
  way_links {a = a} stay l x4 = elim x4 [ ]
  way_links (along {v} {w} {qs} {l = m} r i e) l (inl x) = subst (λ (z : Link). InLinks z (staircase g)) x i
  way_links (along {v} {w} {qs} {l = m} r i e) l (inr j) = way_links r l j

  pub staircase_widest : (a b : ℕ) → a < g.n → (a ≡ b → ⊥) → (ps qs : List Link) → Way g.links a b ps → Way (staircase g) a b qs → Once qs
      → least (weight g) ps ≤ least (weight g) qs
  staircase_widest a b la ne ps [] wp stay o = absurd (ne refl)
  staircase_widest a b la ne ps (m ∷ qs) wp wq o = le_least (weight g) (least (weight g) ps) m qs
      (λ l i. heavy_enough l i (bool_cases (leb (least (weight g) ps) (weight g l))))
    where
      joined_heavy : Joined g.n (heavy (weight g) (least (weight g) ps) (staircase g)) a b
      joined_heavy = way_joined g.n g.links (heavy (weight g) (least (weight g) ps) (staircase g)) (links_inside g p) wp
          (λ l i j. staircase_joins g p (least (weight g) ps) l j (least_le (weight g) ps l i))

      heavy_enough : (l : Link) → InLinks l (m ∷ qs) → (leb (least (weight g) ps) (weight g l) ≡ true) ⊎ (leb (least (weight g) ps) (weight g l) ≡ false)
          → least (weight g) ps ≤ weight g l
      heavy_enough l i (inl e) = leb-true (least (weight g) ps) (weight g l) e
      heavy_enough l i (inr e) = absurd (no_lighter a b (least (weight g) ps) la joined_heavy (m ∷ qs) wq o l i (way_links wq l i)
          (leb-false (least (weight g) ps) (weight g l) e))

  -- ---- connected cores

  core_staircase : (a k b : ℕ) → a < g.n → k ≤ number g a → InCore g a k b → Joined g.n (heavy (weight g) k (staircase g)) a b
  unfolding InCore weight linked
  core_staircase a k b l h here = here
  core_staircase a k b l h (onward {w} {x} r e lx o) =
      reachable_trans (core_staircase a k w l h r) (step (in_core_below g a k w l r) (in_core_level g a k w h r) (trichotomy w x))
    where
      high : k ≤ number g x
      high = in_core_level g a k x h (onward r e lx o)

      is_link : InLinks (link w x) g.links
      is_link = linked_in g.n g.links w x (proper_of g.n g.links p) e

      step : w < g.n → k ≤ number g w → (w < x) ⊎ ((w ≡ x) ⊎ (x < w)) → Joined g.n (heavy (weight g) k (staircase g)) w x
      step lw hw (inl s) = staircase_joins g p k (link_of w x) (rw (link_less w x s) at is_link) (omega (arith, high))
      step lw hw (inr (inl s)) = rw s here
      step lw hw (inr (inr s)) = joined_sym g.n (heavy (weight g) k (staircase g)) lx
          (staircase_joins g p k (link_of x w) (rw (link_more w x s) at is_link) (omega (arith, high)))

  staircase_in_core : (a k b : ℕ) → a < g.n → k ≤ number g a → Joined g.n (heavy (weight g) k (staircase g)) a b → InCore g a k b
  unfolding InCore weight linked at_least
  staircase_in_core a k b l h here = here
  staircase_in_core a k b l h (onward {w} {x} r e lx o) = go (staircase_in_core a k w l h r) (linked_some (heavy (weight g) k (staircase g)) w x e)
    where
      ends : (m : Link) → k ≤ weight g m → Between m w x → k ≤ number g x
      ends m q (inl s) = omega (arith, ap (number g) s.1)
      ends m q (inr s) = omega (arith, ap (number g) s.1)

      go : Reachable g (at_least g k) a w → (m : Link) × InLinks m (heavy (weight g) k (staircase g)) × Between m w x → Reachable g (at_least g k) a x
      go rec m =
          let q = in_heavy (weight g) k (staircase g) m.0 m.1 in
          onward rec (in_joins g.links m.0 ((staircase_spanning g p).of_graph m.0 q.0) w x m.2) lx
          (le-leb k (number g x) (ends m.0 q.1 m.2))

  pub staircase_core : (a b k : ℕ) → a < g.n → k ≤ number g a → Joined g.n (heavy (weight g) k (staircase g)) a b ↔ InCore g a k b
  staircase_core a b k l h = (staircase_in_core a k b l h, core_staircase a k b l h)
