-- Ways over links.
--   way_joined     a way joins its ends
--   way_at         a way that has a link once leads to it, and from it on, over the other links
--   joined_way     joined radios have a way that uses no link twice
--   least-..       the least weight along a way
use Rattle.std.specs.Prelude.{◌≡◌, ◌⊎◌, ◌∷◌, ◌++◌, ◌≤◌, ◌<◌}
use Rattle.lists.specs.Kit.{refl, sym, ap, subst, ◌∙◌, inl, inr, List, [], ℕ, arith}
use Rattle.mesh.{specs.Graph.{Link, InLinks}, specs.Connected.{here, onward}, specs.Staircase.{Joined, Between, Way, stay, along, Once, OnceWay, least}}
use Rattle.mesh.{proofs.Tables.AscendingLinks.{Before, before_irreflexive, before_cases}, proofs.Trees.Reach.{reachable_trans}}
use Rattle.forests.proofs.JoinedLaws.{Inside, linked_graph, linked_some, joined_next, joined_ends}

-- ---- membership decided, and a list split at a member

equal_link : (l m : Link) → (l ≡ m) ⊎ (l ≡ m → ⊥)
equal_link l m = go (before_cases l m)
  where
    go : Before l m ⊎ ((l ≡ m) ⊎ Before m l) → (l ≡ m) ⊎ (l ≡ m → ⊥)
    go (inl b) = inr (λ e. before_irreflexive m (subst (λ (z : Link). Before z m) e b))
    go (inr (inl e)) = inl e
    go (inr (inr b)) = inr (λ e. before_irreflexive m (subst (λ (z : Link). Before m z) e b))

in_or_not : (l : Link) (qs : List Link) → InLinks l qs ⊎ (InLinks l qs → ⊥)
in_or_not l [] = inr (λ i. i)
in_or_not l (q ∷ qs) = go (equal_link q l) (in_or_not l qs)
  where
    neither : (q ≡ l → ⊥) → (InLinks l qs → ⊥) → InLinks l (q ∷ qs) → ⊥
    neither a b (inl e) = a e
    neither a b (inr i) = b i

    go : (q ≡ l) ⊎ (q ≡ l → ⊥) → InLinks l qs ⊎ (InLinks l qs → ⊥) → InLinks l (q ∷ qs) ⊎ (InLinks l (q ∷ qs) → ⊥)
    go (inl e) r = inl (inl e)
    go (inr a) (inl i) = inl (inr i)
    go (inr a) (inr b) = inr (neither a b)

pub split_links : (l : Link) (ls : List Link) → InLinks l ls → (ps : List Link) × (qs : List Link) × (ls ≡ ps ++ (l ∷ qs))
split_links l [] x' = elim x' [ ]
split_links l (m ∷ ls) (inl e) = ([], ls, ap {B = List Link} (λ z. z ∷ ls) e)
split_links l (m ∷ ls) (inr i) = go (split_links l ls i)
  where
    go : (ps : List Link) × (qs : List Link) × (ls ≡ ps ++ (l ∷ qs)) → (ps : List Link) × (qs : List Link) × ((m ∷ ls) ≡ ps ++ (l ∷ qs))
    go r = (m ∷ r.0, r.1, ap {B = List Link} (λ zs. m ∷ zs) r.2)

-- ---- ways and joined radios

module _ (n : ℕ) (ls ms : List Link) (inside : Inside n ls) where
  end_below : (l : Link) (v w : ℕ) → InLinks l ls → Between l v w → (v < n) × (w < n)
  end_below l v w i (inl e) = let r = inside l i in (omega (arith, e.0, r.0), omega (arith, e.1, r.1))
  end_below l v w i (inr e) = let r = inside l i in (omega (arith, e.0, r.1), omega (arith, e.1, r.0))

  pub way_joined : {a b : ℕ} {ps : List Link} → Way ls a b ps → ((l : Link) → InLinks l ps → InLinks l ls → Joined n ms l.low l.high) → Joined n ms a b
  way_joined stay f = here
  way_joined (along {v} {w} {qs} {l} r i e) f =
      reachable_trans (way_joined r (λ m j k. f m (inr j) k)) (joined_ends n ms l v w (inside l i).0 (f l (inl refl) i) e)

  -- where ms has all links of ls but l
  module _ (l : Link) (others : (m : Link) → InLinks m ls → (m ≡ l → ⊥) → InLinks m ms) where
    way_without : {a b : ℕ} {qs : List Link} → Way ls a b qs → (InLinks l qs → ⊥) → Joined n ms a b
    way_without stay no_l = here
    way_without (along {v} {w} {qs} {l = m} r i e) no_l =
        joined_next n ms m (others m i (λ q. no_l (inl q))) (end_below m v w i e).1 e (way_without r (λ j. no_l (inr j)))

    pub way_at : {a b : ℕ} {qs : List Link} → Way ls a b qs → Once qs → InLinks l qs → (v : ℕ) × (w : ℕ) × Joined n ms a v × Between l v w × Joined n ms w b
    way_at {a = a} stay o x7 = elim x7 [ ]
    way_at {a} (along {v} {w} {qs} {l = m} r i e) o (inl q) =
        (v, w, way_without r (λ j. o.0 (subst (λ (z : Link). InLinks z qs) (sym q) j)), subst (λ (z : Link). Between z v w) q e, here)
    way_at {a} (along {v} {w} {qs} {l = m} r i e) o (inr j) = go (way_at r o.1 j)
      where
        other : m ≡ l → ⊥
        other q = o.0 (subst (λ (z : Link). InLinks z qs) (sym q) j)

        go : (x : ℕ) × (y : ℕ) × Joined n ms a x × Between l x y × Joined n ms y v → (x : ℕ) × (y : ℕ) × Joined n ms a x × Between l x y × Joined n ms y w
        go p = (p.0, p.1, p.2, p.3, joined_next n ms m (others m i other) (end_below m v w i e).1 e p.4)

-- ---- a way that uses no link twice

-- a way up to the first use of l
pub record UpTo (ls : List Link) (a : ℕ) (l : Link) : Type 0 where
  pub at : ℕ
  pub links : List Link
  pub way : Way ls a at links
  pub once : Once links
  pub free : InLinks l links → ⊥
  pub end : (at ≡ l.low) ⊎ (at ≡ l.high)

up_to : {ls : List Link} {a b : ℕ} {qs : List Link} (l : Link) → Way ls a b qs → Once qs → InLinks l qs → UpTo ls a l
up_to {ls = ls} {a = a} l stay o x7 = elim x7 [ ]
up_to {ls} {a} l (along {v} {w} {qs} {l = m} r i e) o (inl q) = record {
  at = v;
  links = qs;
  way = r;
  once = o.1;
  free = λ j. o.0 (subst (λ (z : Link). InLinks z qs) (sym q) j);
  end = end (subst (λ (z : Link). Between z v w) q e);
}
  where
    end : Between l v w → (v ≡ l.low) ⊎ (v ≡ l.high)
    end (inl p) = inl p.0
    end (inr p) = inr p.0
up_to l (along r i e) o (inr j) = up_to l r o.1 j

next_way : (ls : List Link) (a v w : ℕ) (l : Link) → InLinks l ls → Between l v w → OnceWay ls a v → OnceWay ls a w
next_way ls a v w l i e r = go (in_or_not l r.links)
  where
    -- at w already, or one step before it
    cut : (u : UpTo ls a l) → (u.at ≡ w) ⊎ (u.at ≡ v) → OnceWay ls a w
    cut u (inl q) = record { links = u.links; way = subst (λ (z : ℕ). Way ls a z u.links) q u.way; once = u.once }
    cut u (inr q) =
        record { links = l ∷ u.links; way = along (subst (λ (z : ℕ). Way ls a z u.links) q u.way) i e; once = (u.free, u.once) }

    place : (x : ℕ) → (x ≡ l.low) ⊎ (x ≡ l.high) → Between l v w → (x ≡ w) ⊎ (x ≡ v)
    place x (inl p) (inl q) = inr (p ∙ sym q.0)
    place x (inl p) (inr q) = inl (p ∙ sym q.1)
    place x (inr p) (inl q) = inl (p ∙ sym q.1)
    place x (inr p) (inr q) = inr (p ∙ sym q.0)

    go : InLinks l r.links ⊎ (InLinks l r.links → ⊥) → OnceWay ls a w
    go (inl j) = let u = up_to l r.way r.once j in cut u (place u.at u.end e)
    go (inr f) = record { links = l ∷ r.links; way = along r.way i e; once = (f, r.once) }

pub joined_way : (n : ℕ) (ls : List Link) {a b : ℕ} → Joined n ls a b → OnceWay ls a b
joined_way n ls here = record { links = []; way = stay; once = tt }
joined_way n ls {a} (onward {w} {x} r e lx o) = go (joined_way n ls r) (linked_some ls w x (sym (linked_graph n ls w x) ∙ e))
  where
    go : OnceWay ls a w → (l : Link) × InLinks l ls × Between l w x → OnceWay ls a x
    go q p = next_way ls a w x p.0 p.1 p.2 q

-- ---- the least weight

pub least_le : (wt : Link → ℕ) (qs : List Link) (l : Link) → InLinks l qs → least wt qs ≤ wt l
unfolding least
least_le wt (m ∷ []) l (inr i) = elim i [ ]
least_le wt [] l x' = elim x' [ ]
least_le wt (m ∷ []) l (inl e) = omega (arith, ap wt e)
least_le wt (m ∷ k ∷ qs) l (inl e) = omega (arith, ap wt e)
least_le wt (m ∷ k ∷ qs) l (inr i) = omega (arith, least_le wt (k ∷ qs) l i)

pub le_least : (wt : Link → ℕ) (w : ℕ) (m : Link) (qs : List Link) → ((l : Link) → InLinks l (m ∷ qs) → w ≤ wt l) → w ≤ least wt (m ∷ qs)
unfolding least
le_least wt w m [] h = h m (inl refl)
le_least wt w m (k ∷ qs) h = omega (arith, h m (inl refl), le_least wt w k qs (λ l i. h l (inr i)))
