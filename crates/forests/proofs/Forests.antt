-- Acyclic lists of links: as many links as there are parts fewer than radios.
--   Grows n fs        each link joins two radios that the later ones do not: what acyclic gives at once
--   rank              every list has labels, and parts and links together are at least n; exactly n where the list grows
--   Tight n fs        the labels of fs, with parts and links exactly n together
--   tight_acyclic     a tight list is acyclic, whatever its order
--   grows_filter      a list that grows, filtered, grows
--   forest_le         of two acyclic lists the one that joins more is not shorter
use Rattle.std.specs.Prelude.{◌≡◌, ◌⊎◌, ◌∷◌, ◌++◌, ◌+◌, ◌≤◌, ◌<◌}
use Rattle.lists.{specs.Kit.{refl, sym, ap, subst, ◌∙◌, inl, inr, Bool, true, false, cond, List, [], ℕ, arith, length}}
use Rattle.lists.{specs.Kit.{length-append}, proofs.Tests.{bool_cases, trichotomy}}
use Rattle.mesh.{specs.Graph.{Link, InLinks}, specs.Staircase.{Joined, Acyclic, filter_links}, proofs.Tables.AscendingLinks.{in_links_left, in_links_right}}
use Rattle.mesh.{proofs.Tables.AscendingLinks.{in_links_cases}, proofs.Trees.Reach.{reachable_trans}}
use Rattle.forests.proofs.{JoinedLaws.{Inside, joined_sym, joined_link, joined_mono, joined_same, joined_by_links}, Labels.{Labels, relabel, parts}}
use Rattle.forests.proofs.{Labels.{OneMore, labels_none, parts_none, labels_new, parts_new, parts_le}}

-- ---- links that pass a test

pub in_filter_links : (t : Link → Bool) (ls : List Link) (m : Link) → InLinks m (filter_links t ls) → InLinks m ls × (t m ≡ true)
unfolding filter_links
in_filter_links t [] m i = elim i [ ]
in_filter_links t (l ∷ ls) m i = go (in_filter_links t ls m) (bool_cases (t l)) i
  where
    pick : (InLinks m (filter_links t ls) → InLinks m ls × (t m ≡ true)) → t l ≡ true → InLinks m (l ∷ filter_links t ls) → InLinks m (l ∷ ls) ×
        (t m ≡ true)
    pick rec e (inl q) = (inl q, ap t (sym q) ∙ e)
    pick rec e (inr k) = let r = rec k in (inr r.0, r.1)

    go : (InLinks m (filter_links t ls) → InLinks m ls × (t m ≡ true)) → (t l ≡ true) ⊎ (t l ≡ false) → InLinks m (filter_links t (l ∷ ls))
        → InLinks m (l ∷ ls) × (t m ≡ true)
    go rec (inl e) k = pick rec e (rw e at k)
    go rec (inr e) k = let r = rec (rw e at k) in (inr r.0, r.1)

pub filter_links_in : (t : Link → Bool) (ls : List Link) (m : Link) → InLinks m ls → t m ≡ true → InLinks m (filter_links t ls)
unfolding filter_links
filter_links_in t [] m x'' e = elim x'' [ ]
filter_links_in t (l ∷ ls) m (inl q) e = rw (ap t q ∙ e) (inl q)
filter_links_in t (l ∷ ls) m (inr i) e = go (filter_links_in t ls m i e) (bool_cases (t l))
  where
    go : InLinks m (filter_links t ls) → (t l ≡ true) ⊎ (t l ≡ false) → InLinks m (filter_links t (l ∷ ls))
    go k (inl p) = rw p (inr k)
    go k (inr p) = rw p k

pub filter_links_append : (f : Link → Bool) (ls ms : List Link) → filter_links f (ls ++ ms) ≡ filter_links f ls ++ filter_links f ms
unfolding filter_links
filter_links_append f [] ms = refl
filter_links_append f (l ∷ ls) ms = go (filter_links_append f ls ms) (f l)
  where
    go : filter_links f (ls ++ ms) ≡ filter_links f ls ++ filter_links f ms → (t : Bool)
        → cond t (l ∷ filter_links f (ls ++ ms)) (filter_links f (ls ++ ms)) ≡ cond t (l ∷ filter_links f ls) (filter_links f ls) ++ filter_links f ms
    go e true = ap {B = List Link} (λ zs. l ∷ zs) e
    go e false = e

pub filter_links_none : (f : Link → Bool) (ls : List Link) → ((m : Link) → InLinks m ls → f m ≡ false) → filter_links f ls ≡ []
unfolding filter_links
filter_links_none f [] h = refl
filter_links_none f (l ∷ ls) h = rw (h l (inl refl)) (filter_links_none f ls (λ m i. h m (inr i)))

pub filter_links_ext : (f h : Link → Bool) (ls : List Link) → ((m : Link) → InLinks m ls → f m ≡ h m) → filter_links f ls ≡ filter_links h ls
unfolding filter_links
filter_links_ext f h [] e = refl
filter_links_ext f h (l ∷ ls) e = rw (e l (inl refl), filter_links_ext f h ls (λ m i. e m (inr i)))

-- ---- rank

abbrev pub Grows : ℕ → List Link → Type 0
Grows n [] = Unit {0}
Grows n (l ∷ ls) = (Joined n ls l.low l.high → ⊥) × Grows n ls

pub record Rank (n : ℕ) (fs : List Link) : Type 0 where
  pub label : ℕ → ℕ
  pub labels : Labels n fs label
  pub enough : n ≤ parts n label + length fs
  pub exact : Grows n fs → parts n label + length fs ≡ n

-- radios of one label are joined
pub same_label : (n : ℕ) (ks : List Link) (f : ℕ → ℕ) → Labels n ks f → (u v : ℕ) → u < n → v < n → f u ≡ f v → Joined n ks u v
same_label n ks f a u v lu lv e = reachable_trans (joined_sym n ks (omega (arith, a.low u)) (a.leads u lu)) (rw e (a.leads v lv))

-- a link between joined radios changes no label
labels_again : (n : ℕ) (ks ms : List Link) (l : Link) → Inside n ms → OneMore ks ms l → (f : ℕ → ℕ) → Labels n ks f → f l.low ≡ f l.high → Labels n ms f
labels_again n ks ms l s more f a e = record {
  low = a.low;
  settled = a.settled;
  same = λ r. joined_same n ms f (λ m i. ends m (more.from m i)) r;
  leads = λ v h. joined_mono n ks ms (λ m i. s m (more.keeps m i)) more.keeps (a.leads v h);
}
  where
    ends : (m : Link) → (m ≡ l) ⊎ InLinks m ks → f m.low ≡ f m.high
    ends m (inl q) = ap (λ (z : Link). f z.low) q ∙ e ∙ sym (ap (λ (z : Link). f z.high) q)
    ends m (inr i) = a.same (joined_link n ks m i (s m (more.keeps m i)).1)

more_cons : (l : Link) (ls : List Link) → OneMore ls (l ∷ ls) l
more_cons l ls = record { from = λ m i. go m i; keeps = λ m i. inr i; has = inl refl }
  where
    go : (m : Link) → InLinks m (l ∷ ls) → (m ≡ l) ⊎ InLinks m ls
    go m (inl e) = inl (sym e)
    go m (inr i) = inr i

rank_cons : (n : ℕ) (l : Link) (ls : List Link) → Inside n (l ∷ ls) → (r : Rank n ls)
    → (r.label l.low < r.label l.high) ⊎ ((r.label l.low ≡ r.label l.high) ⊎ (r.label l.high < r.label l.low)) → Rank n (l ∷ ls)
rank_cons n l ls s r (inl h) =
    let x = s l (inl refl) in
    let p = parts_new n ls (l ∷ ls) l s (more_cons l ls) r.label r.labels l.low l.high (inl (refl, refl)) x.0 x.1 h in record {
      label = relabel (r.label l.low) (r.label l.high) r.label;
      labels = labels_new n ls (l ∷ ls) l s (more_cons l ls) r.label r.labels l.low l.high (inl (refl, refl)) x.0 x.1 h;
      enough = omega (arith, p, r.enough);
      exact = λ g. omega (arith, p, r.exact g.1);
    }
rank_cons n l ls s r (inr (inl e)) =
    let x = s l (inl refl) in record {
      label = r.label;
      labels = labels_again n ls (l ∷ ls) l s (more_cons l ls) r.label r.labels e;
      enough = omega (arith, r.enough);
      exact = λ g. absurd (g.0 (same_label n ls r.label r.labels l.low l.high x.0 x.1 e));
    }
rank_cons n l ls s r (inr (inr h)) =
    let x = s l (inl refl) in
    let p = parts_new n ls (l ∷ ls) l s (more_cons l ls) r.label r.labels l.high l.low (inr (refl, refl)) x.1 x.0 h in record {
      label = relabel (r.label l.high) (r.label l.low) r.label;
      labels = labels_new n ls (l ∷ ls) l s (more_cons l ls) r.label r.labels l.high l.low (inr (refl, refl)) x.1 x.0 h;
      enough = omega (arith, p, r.enough);
      exact = λ g. omega (arith, p, r.exact g.1);
    }

pub rank : (n : ℕ) (fs : List Link) → Inside n fs → Rank n fs
rank n [] s = record { label = λ v. v; labels = labels_none n; enough = omega (arith, parts_none n); exact = λ g. omega (arith, parts_none n) }
rank n (l ∷ ls) s =
    let r = rank n ls (λ m i. s m (inr i)) in rank_cons n l ls s r (trichotomy (r.label l.low) (r.label l.high))

-- ---- tight lists

pub record Tight (n : ℕ) (fs : List Link) : Type 0 where
  pub label : ℕ → ℕ
  pub labels : Labels n fs label
  pub counted : parts n label + length fs ≡ n

pub grows_tight : (n : ℕ) (fs : List Link) → Inside n fs → Grows n fs → Tight n fs
grows_tight n fs s g = let r = rank n fs s in record { label = r.label; labels = r.labels; counted = r.exact g }

-- without one link whose ends the others join there would be too few parts
pub tight_acyclic : (n : ℕ) (fs : List Link) → Inside n fs → Tight n fs → Acyclic n fs
tight_acyclic n fs s t ps qs m e r = go (rank n (ps ++ qs) (λ k i. s k (back k i)))
  where
    back : (k : Link) → InLinks k (ps ++ qs) → InLinks k fs
    back k i = pick (in_links_cases k ps qs i)
      where
        pick : InLinks k ps ⊎ InLinks k qs → InLinks k fs
        pick (inl j) = rw e (in_links_left k ps (m ∷ qs) j)
        pick (inr j) = rw e (in_links_right k ps (m ∷ qs) (inr j))

    each : (k : Link) → InLinks k ps ⊎ InLinks k (m ∷ qs) → InLinks k fs → Joined n (ps ++ qs) k.low k.high
    each k (inl j) i = joined_link n (ps ++ qs) k (in_links_left k ps qs j) (s k i).1
    each k (inr (inl q)) i = subst (λ (z : Link). Joined n (ps ++ qs) z.low z.high) q r
    each k (inr (inr j)) i = joined_link n (ps ++ qs) k (in_links_right k ps qs j) (s k i).1

    go : Rank n (ps ++ qs) → ⊥
    go k = omega (
      arith,
      t.counted,
      k.enough,
      parts_le n fs (ps ++ qs) t.label k.label t.labels k.labels
          (λ u v j. joined_by_links n fs (ps ++ qs) s (λ l i. each l (in_links_cases l ps (m ∷ qs) (rw e at i)) i) j),
      length-append ps qs,
      length-append ps (m ∷ qs),
      ap length e,
    )

-- ---- acyclic lists grow

pub acyclic_grows : (n : ℕ) (fs : List Link) → Inside n fs → Acyclic n fs → Grows n fs
acyclic_grows n [] s a = tt
acyclic_grows n (l ∷ ls) s a = (a [] ls l refl, acyclic_grows n ls (λ m i. s m (inr i)) tail)
  where
    tail : (ps qs : List Link) (m : Link) → ls ≡ ps ++ (m ∷ qs) → Joined n (ps ++ qs) m.low m.high → ⊥
    tail ps qs m e r =
        a (l ∷ ps) qs m (ap {B = List Link} (λ zs. l ∷ zs) e)
        (joined_mono n (ps ++ qs) (l ∷ (ps ++ qs)) (λ k i. s k (inr (back k (in_links_cases k ps qs i)))) (λ k i. inr i) r)
      where
        back : (k : Link) → InLinks k ps ⊎ InLinks k qs → InLinks k ls
        back k (inl j) = rw e (in_links_left k ps (m ∷ qs) j)
        back k (inr j) = rw e (in_links_right k ps (m ∷ qs) (inr j))

pub grows_filter : (n : ℕ) (t : Link → Bool) (fs : List Link) → Inside n fs → Grows n fs → Grows n (filter_links t fs)
unfolding filter_links
grows_filter n t [] s g = tt
grows_filter n t (l ∷ ls) s g = go (grows_filter n t ls (λ m i. s m (inr i)) g.1) (bool_cases (t l))
  where
    go : Grows n (filter_links t ls) → (t l ≡ true) ⊎ (t l ≡ false) → Grows n (filter_links t (l ∷ ls))
    go k (inl e) = rw e (
      λ r. g.0 (joined_mono n (filter_links t ls) ls (λ m i. s m (inr (in_filter_links t ls m i).0)) (λ m i. (in_filter_links t ls m i).0) r),
      k,
    )
    go k (inr e) = rw e k

-- ---- of two, the one that joins more is not shorter

pub forest_le : (n : ℕ) (fs ks : List Link) → Inside n fs → Inside n ks → Grows n fs → Grows n ks → ((u v : ℕ) → Joined n fs u v → Joined n ks u v)
    → length fs ≤ length ks
forest_le n fs ks s t a b sub = go (grows_tight n fs s a) (grows_tight n ks t b)
  where
    go : Tight n fs → Tight n ks → length fs ≤ length ks
    go f k = omega (arith, f.counted, k.counted, parts_le n fs ks f.label k.label f.labels k.labels sub)
