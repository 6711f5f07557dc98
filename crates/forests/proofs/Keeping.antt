-- The links taken in turn.
--   keep_keeps, keep_from   kept links stay, and come from the links taken
--   keep_tight              the kept links stay tight, so acyclic
--   keep_joins              taken by weight falling: a link of weight w or more has its ends joined by kept ones of weight w or more
--   falling-..              the links by weight falling
use Rattle.std.specs.Prelude.{◌≡◌, ◌⊎◌, ◌∷◌, ◌++◌, ◌≤◌, ◌<◌}
use Rattle.lists.{specs.Kit.{refl, sym, ap, subst, inl, inr, true, false, cond, List, [], ℕ, zero, suc, arith, eqb, leb}}
use Rattle.lists.{specs.Kit.{length-append, eqb-true, eq-eqb, le-leb, leb-true}, proofs.Tests.{bool_cases, never, trichotomy}}
use Rattle.mesh.{specs.Graph.{Link, InLinks}, specs.Staircase.{Joined, joined, keep, of_weight, falling, heavy}, proofs.Tables.AscendingLinks.{in_links_left}}
use Rattle.mesh.{proofs.Tables.AscendingLinks.{in_links_right, in_links_cases}}
use Rattle.forests.proofs.{JoinedLaws.{Inside, joined_link, joined_mono, joined_iff, not_joined}, Labels.{relabel, OneMore, labels_none, parts_none}}
use Rattle.forests.proofs.{Labels.{labels_new, parts_new}, Forests.{Tight, same_label, in_filter_links, filter_links_in}}

-- ---- one link more at the end

pub more_end : (l : Link) (ks : List Link) → OneMore ks (ks ++ (l ∷ [])) l
more_end l ks = record {
  from = λ m i. go m (in_links_cases m ks (l ∷ []) i);
  keeps = λ m i. in_links_left m ks (l ∷ []) i;
  has = in_links_right l ks (l ∷ []) (inl refl);
}
  where
    go : (m : Link) → InLinks m ks ⊎ InLinks m (l ∷ []) → (m ≡ l) ⊎ InLinks m ks
    go m (inl i) = inr i
    go m (inr (inr x'')) = elim x'' [ ]
    go m (inr (inl e)) = inl (sym e)

pub inside_end : (n : ℕ) (l : Link) (ks : List Link) → Inside n ks → (l.low < n) × (l.high < n) → Inside n (ks ++ (l ∷ []))
inside_end n l ks s h m i = go (in_links_cases m ks (l ∷ []) i)
  where
    go : InLinks m ks ⊎ InLinks m (l ∷ []) → (m.low < n) × (m.high < n)
    go (inl j) = s m j
    go (inr (inr x'')) = elim x'' [ ]
    go (inr (inl e)) = subst (λ (z : Link). (z.low < n) × (z.high < n)) e h

-- the kept ones after the link l
abbrev pub now : (n : ℕ) → List Link → Link → List Link
now n ks l = cond (joined n ks l.low l.high) ks (ks ++ (l ∷ []))

-- what holds of both outcomes holds of the next
pub by_outcome : (n : ℕ) (ks : List Link) (l : Link) (P : List Link → Type 0) → (joined n ks l.low l.high ≡ true → P ks)
    → (joined n ks l.low l.high ≡ false → P (ks ++ (l ∷ []))) → P (now n ks l)
by_outcome n ks l P old new = go (bool_cases (joined n ks l.low l.high))
  where
    go : (joined n ks l.low l.high ≡ true) ⊎ (joined n ks l.low l.high ≡ false) → P (now n ks l)
    go (inl e) = rw e (old e)
    go (inr e) = rw e (new e)

now_keeps : (n : ℕ) (ks : List Link) (l m : Link) → InLinks m ks → InLinks m (now n ks l)
now_keeps n ks l m i = by_outcome n ks l (λ zs. InLinks m zs) (λ e. i) (λ e. in_links_left m ks (l ∷ []) i)

now_from : (n : ℕ) (ks : List Link) (l m : Link) → InLinks m (now n ks l) → InLinks m ks ⊎ (m ≡ l)
now_from n ks l m = by_outcome n ks l (λ zs. InLinks m zs → InLinks m ks ⊎ (m ≡ l)) (λ e i. inl i) (λ e i. go (in_links_cases m ks (l ∷ []) i))
  where
    go : InLinks m ks ⊎ InLinks m (l ∷ []) → InLinks m ks ⊎ (m ≡ l)
    go (inl i) = inl i
    go (inr (inr x'')) = elim x'' [ ]
    go (inr (inl e)) = inr (sym e)

pub now_inside : (n : ℕ) (ks : List Link) (l : Link) → Inside n ks → (l.low < n) × (l.high < n) → Inside n (now n ks l)
now_inside n ks l s h = by_outcome n ks l (λ zs. Inside n zs) (λ e. s) (λ e. inside_end n l ks s h)

tight_end : (n : ℕ) (l : Link) (ks : List Link) → Inside n ks → (l.low < n) × (l.high < n) → (Joined n ks l.low l.high → ⊥)
    → (t : Tight n ks) → Tight n (ks ++ (l ∷ []))
tight_end n l ks s h new t = go (trichotomy (t.label l.low) (t.label l.high))
  where
    go : (t.label l.low < t.label l.high) ⊎ ((t.label l.low ≡ t.label l.high) ⊎ (t.label l.high < t.label l.low))
        → Tight n (ks ++ (l ∷ []))
    go (inl less) = record {
      label = relabel (t.label l.low) (t.label l.high) t.label;
      labels = labels_new n ks (ks ++ (l ∷ [])) l (inside_end n l ks s h) (more_end l ks) t.label t.labels l.low l.high (inl (refl, refl)) h.0
          h.1 less;
      counted = omega (
        arith,
        t.counted,
        parts_new n ks (ks ++ (l ∷ [])) l (inside_end n l ks s h) (more_end l ks) t.label t.labels l.low l.high (inl (refl, refl)) h.0 h.1
            less,
        length-append ks (l ∷ []),
      );
    }
    go (inr (inl e)) = absurd (new (same_label n ks t.label t.labels l.low l.high h.0 h.1 e))
    go (inr (inr less)) = record {
      label = relabel (t.label l.high) (t.label l.low) t.label;
      labels = labels_new n ks (ks ++ (l ∷ [])) l (inside_end n l ks s h) (more_end l ks) t.label t.labels l.high l.low (inr (refl, refl)) h.1
          h.0 less;
      counted = omega (
        arith,
        t.counted,
        parts_new n ks (ks ++ (l ∷ [])) l (inside_end n l ks s h) (more_end l ks) t.label t.labels l.high l.low (inr (refl, refl)) h.1 h.0
            less,
        length-append ks (l ∷ []),
      );
    }

now_tight : (n : ℕ) (ks : List Link) (l : Link) → Inside n ks → (l.low < n) × (l.high < n) → Tight n ks → Tight n (now n ks l)
now_tight n ks l s h t =
    by_outcome n ks l (λ zs. Tight n zs) (λ e. t) (λ e. tight_end n l ks s h (not_joined n ks l.low h.0 l.high e) t)

now_joins : (n : ℕ) (ks : List Link) (l : Link) → (l.low < n) × (l.high < n) → Joined n (now n ks l) l.low l.high
now_joins n ks l h = by_outcome n ks l (λ zs. Joined n zs l.low l.high) (λ e. (joined_iff n ks l.low h.0 l.high).0 e)
    (λ e. joined_link n (ks ++ (l ∷ [])) l (in_links_right l ks (l ∷ []) (inl refl)) h.1)

-- ---- all of them

pub tight_none : (n : ℕ) → Tight n []
tight_none n = record { label = λ v. v; labels = labels_none n; counted = omega (arith, parts_none n) }

pub keep_keeps : (n : ℕ) (ls ks : List Link) (m : Link) → InLinks m ks → InLinks m (keep n ks ls)
unfolding keep
keep_keeps n [] ks m i = i
keep_keeps n (l ∷ ls) ks m i = keep_keeps n ls (now n ks l) m (now_keeps n ks l m i)

pub keep_from : (n : ℕ) (ls ks : List Link) (m : Link) → InLinks m (keep n ks ls) → InLinks m ks ⊎ InLinks m ls
unfolding keep
keep_from n [] ks m i = inl i
keep_from n (l ∷ ls) ks m i = go (keep_from n ls (now n ks l) m i)
  where
    first : InLinks m ks ⊎ (m ≡ l) → InLinks m ks ⊎ InLinks m (l ∷ ls)
    first (inl j) = inl j
    first (inr e) = inr (inl (sym e))

    go : InLinks m (now n ks l) ⊎ InLinks m ls → InLinks m ks ⊎ InLinks m (l ∷ ls)
    go (inl j) = first (now_from n ks l m j)
    go (inr j) = inr (inr j)

pub keep_tight : (n : ℕ) (ls ks : List Link) → Inside n ls → Inside n ks → Tight n ks → Tight n (keep n ks ls)
unfolding keep
keep_tight n [] ks s u t = t
keep_tight n (l ∷ ls) ks s u t =
    let h = s l (inl refl) in keep_tight n ls (now n ks l) (λ m i. s m (inr i)) (now_inside n ks l u h) (now_tight n ks l u h t)

-- ---- by weight falling

abbrev pub Falling : (weight : Link → ℕ) → List Link → Type 0
Falling wt [] = Unit {0}
Falling wt (l ∷ ls) = ((m : Link) → InLinks m ls → wt m ≤ wt l) × Falling wt ls

pub heavy_in : (wt : Link → ℕ) (w : ℕ) (ls : List Link) (m : Link) → InLinks m ls → w ≤ wt m → InLinks m (heavy wt w ls)
heavy_in wt w ls m i h = filter_links_in (λ l. leb w (wt l)) ls m i (le-leb w (wt m) h)

pub in_heavy : (wt : Link → ℕ) (w : ℕ) (ls : List Link) (m : Link) → InLinks m (heavy wt w ls) → InLinks m ls × (w ≤ wt m)
in_heavy wt w ls m i = let r = in_filter_links (λ l. leb w (wt l)) ls m i in (r.0, leb-true w (wt m) r.1)

pub keep_joins : (n : ℕ) (wt : Link → ℕ) (w : ℕ) (ls ks : List Link) → Inside n ls → Inside n ks → Falling wt ls
    → ((k m : Link) → InLinks k ks → InLinks m ls → wt m ≤ wt k)
    → (m : Link) → InLinks m ls → w ≤ wt m → Joined n (heavy wt w (keep n ks ls)) m.low m.high
unfolding keep
keep_joins n wt w [] ks s u f above m x6 h = elim x6 [ ]
keep_joins n wt w (l ∷ ls) ks s u f above m (inl e) h =
    let x = s l (inl refl) in
    subst (λ (z : Link). Joined n (heavy wt w (keep n (now n ks l) ls)) z.low z.high) e
    (joined_mono n (now n ks l) (heavy wt w (keep n (now n ks l) ls)) (now_inside n ks l u x)
    (λ k i. heavy_in wt w (keep n (now n ks l) ls) k (keep_keeps n ls (now n ks l) k i) (enough k (now_from n ks l k i))) (now_joins n ks l x))
  where
    enough : (k : Link) → InLinks k ks ⊎ (k ≡ l) → w ≤ wt k
    enough k (inl i) = omega (arith, above k l i (inl refl), ap wt e)
    enough k (inr q) = omega (arith, ap wt q, ap wt e)
keep_joins n wt w (l ∷ ls) ks s u f above m (inr i) h =
    keep_joins n wt w ls (now n ks l) (λ k j. s k (inr j)) (now_inside n ks l u (s l (inl refl))) f.1 (λ k p j o. next k p o (now_from n ks l k j)) m i h
  where
    next : (k p : Link) → InLinks p ls → InLinks k ks ⊎ (k ≡ l) → wt p ≤ wt k
    next k p o (inl j) = above k p j (inr o)
    next k p o (inr q) = omega (arith, f.0 p o, ap wt q)

-- ---- the links in that order

falling_append : (wt : Link → ℕ) (xs ys : List Link) → Falling wt xs → Falling wt ys → ((x y : Link) → InLinks x xs → InLinks y ys → wt y ≤ wt x)
    → Falling wt (xs ++ ys)
falling_append wt [] ys f g h = g
falling_append wt (x ∷ xs) ys f g h = (λ m i. go m (in_links_cases m xs ys i), falling_append wt xs ys f.1 g (λ a b i j. h a b (inr i) j))
  where
    go : (m : Link) → InLinks m xs ⊎ InLinks m ys → wt m ≤ wt x
    go m (inl i) = f.0 m i
    go m (inr i) = h x m (inl refl) i

falling_level : (wt : Link → ℕ) (w : ℕ) (ls : List Link) → ((m : Link) → InLinks m ls → wt m ≡ w) → Falling wt ls
falling_level wt w [] h = tt
falling_level wt w (l ∷ ls) h = (λ m i. omega (arith, h m (inr i), h l (inl refl)), falling_level wt w ls (λ m i. h m (inr i)))

pub in_of_weight : (wt : Link → ℕ) (w : ℕ) (ls : List Link) (m : Link) → InLinks m (of_weight wt w ls) → InLinks m ls × (wt m ≡ w)
in_of_weight wt w ls m i = let r = in_filter_links (λ l. eqb (wt l) w) ls m i in (r.0, eqb-true (wt m) w r.1)

pub in_falling : (wt : Link → ℕ) (top : ℕ) (ls : List Link) (m : Link) → InLinks m (falling wt top ls) → InLinks m ls × (wt m ≤ top)
unfolding falling
in_falling wt zero ls m i = let r = in_of_weight wt 0 ls m i in (r.0, omega (arith, r.1))
in_falling wt (suc w) ls m i = go (in_falling wt w ls m) (in_links_cases m (of_weight wt (suc w) ls) (falling wt w ls) i)
  where
    go : (InLinks m (falling wt w ls) → InLinks m ls × (wt m ≤ w)) → InLinks m (of_weight wt (suc w) ls) ⊎ InLinks m (falling wt w ls)
        → InLinks m ls × (wt m ≤ suc w)
    go rec (inl j) = let r = in_of_weight wt (suc w) ls m j in (r.0, omega (arith, r.1))
    go rec (inr j) = let r = rec j in (r.0, omega (arith, r.1))

pub falling_in : (wt : Link → ℕ) (top : ℕ) (ls : List Link) (m : Link) → InLinks m ls → wt m ≤ top → InLinks m (falling wt top ls)
unfolding falling
falling_in wt zero ls m i h = filter_links_in (λ l. eqb (wt l) 0) ls m i (eq-eqb (wt m) 0 (omega arith))
falling_in wt (suc w) ls m i h = go (falling_in wt w ls m i) (bool_cases (eqb (wt m) (suc w)))
  where
    level : List Link
    level = of_weight wt (suc w) ls

    go : (wt m ≤ w → InLinks m (falling wt w ls)) → (eqb (wt m) (suc w) ≡ true) ⊎ (eqb (wt m) (suc w) ≡ false) → InLinks m (level ++ falling wt w ls)
    go rec (inl e) = in_links_left m level (falling wt w ls) (filter_links_in (λ l. eqb (wt l) (suc w)) ls m i e)
    go rec (inr e) = in_links_right m level (falling wt w ls) (rec (low (trichotomy (wt m) (suc w))))
      where
        low : (wt m < suc w) ⊎ ((wt m ≡ suc w) ⊎ (suc w < wt m)) → wt m ≤ w
        low (inl q) = omega arith
        low (inr (inl q)) = never (eqb (wt m) (suc w)) (eq-eqb (wt m) (suc w) q) e
        low (inr (inr q)) = omega arith

pub falling_falling : (wt : Link → ℕ) (top : ℕ) (ls : List Link) → Falling wt (falling wt top ls)
unfolding falling
falling_falling wt zero ls = falling_level wt 0 (of_weight wt 0 ls) (λ m i. (in_of_weight wt 0 ls m i).1)
falling_falling wt (suc w) ls =
    falling_append wt (of_weight wt (suc w) ls) (falling wt w ls)
    (falling_level wt (suc w) (of_weight wt (suc w) ls) (λ m i. (in_of_weight wt (suc w) ls m i).1))
    (falling_falling wt w ls) (λ x y i j. omega (arith, (in_of_weight wt (suc w) ls x i).1, (in_falling wt w ls y j).1))
