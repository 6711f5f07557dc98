-- Laws of links and neighbours.
-- In order: what a list of links joins, a link put in or taken out, proper links, graphs one link apart, neighbours in a set.
use Rattle.std.specs.Prelude.{◌≡◌, ◌⊎◌, ◌&&◌, ◌||◌, ◌∷◌, ◌≤◌, ◌<◌}
use Rattle.lists.specs.Kit.{refl, sym, ap, ◌∙◌, inl, inr, Bool, true, false, not, cond, and-true, and-false, or_comm, or-true, List, []}
use Rattle.lists.{specs.Kit.{ℕ, arith, le_antisymm, ltb, eqb, ltb-true, ltb-false, lt-ltb, eqb-true, eq-eqb}, specs.Lists.{range, count, filter}}
use Rattle.lists.specs.Kit.{⊎_elim}
use Rattle.lists.{specs.Lists.{member, In}, specs.Facts.{Distinct, EachOnce}, proofs.Tests.{bool_cases, never, and_left, and_right, and_both, or_cases}}
use Rattle.lists.{proofs.Tests.{or_left, or_right, iff_eq, swap_or}, proofs.Member.{member_in, in_member}, proofs.Range.{in_range, range_in, distinct_range}}
use Rattle.lists.{proofs.Count.{count_mono, count_both}, proofs.Distinct.{count_sub}, proofs.Filter.{count_filter}}
use Rattle.mesh.specs.Graph.{Link, Graph, radios, other_ends, linked, neighbours_in, degree, neighbours_among, link, link_before, same_link, with_link}
use Rattle.mesh.specs.{Graph.{without_link, new_links, relinked, proper}, Valid.{smaller, larger}}

-- ---- what links join

-- v and w are a and b, in either order
unfoldable pub ends : (a b v w : ℕ) → Bool
ends a b v w = (eqb a v && eqb b w) || (eqb a w && eqb b v)

abbrev pub Ends : (a b v w : ℕ) → Type 0
Ends a b v w = ((v ≡ a) × (w ≡ b)) ⊎ ((v ≡ b) × (w ≡ a))

abbrev pub joins : Link → (v w : ℕ) → Bool
joins l v w = ends l.low l.high v w

both_eq : (a b v w : ℕ) → (eqb a v && eqb b w) ≡ true → (v ≡ a) × (w ≡ b)
both_eq a b v w h = (sym (eqb-true a v (and_left (eqb a v) (eqb b w) h)), sym (eqb-true b w (and_right (eqb a v) (eqb b w) h)))

pub ends_of : (a b v w : ℕ) → ends a b v w ≡ true → Ends a b v w
unfolding ends
ends_of a b v w h =
    ⊎_elim (λ e. inl (both_eq a b v w e)) (λ e. let r = both_eq a b w v e in inr (r.1, r.0)) (or_cases (eqb a v && eqb b w) (eqb a w && eqb b v) h)

pub of_ends : (a b v w : ℕ) → Ends a b v w → ends a b v w ≡ true
unfolding ends
of_ends a b v w (inl e) = rw (eq-eqb a v (sym e.0), eq-eqb b w (sym e.1))
of_ends a b v w (inr e) = rw (eq-eqb a w (sym e.1), eq-eqb b v (sym e.0)) (or-true (eqb a v && eqb b w))

pub ends_sym : (a b v w : ℕ) → ends a b v w ≡ ends a b w v
unfolding ends
ends_sym a b v w = or_comm (eqb a v && eqb b w) (eqb a w && eqb b v)

-- the links of the list join v and w
abbrev pub linked_by : List Link → (v w : ℕ) → Bool
linked_by ls v w = member w (other_ends v ls)

pub linked_by_cons : (l : Link) (ls : List Link) (v w : ℕ) → linked_by (l ∷ ls) v w ≡ (joins l v w || linked_by ls v w)
unfolding other_ends member ends
linked_by_cons l ls v w = go (eqb l.low v) (eqb l.high v) refl refl
  where
    go : (s t : Bool) → eqb l.low v ≡ s → eqb l.high v ≡ t
        → member w (cond s (l.high ∷ other_ends v ls) (cond t (l.low ∷ other_ends v ls) (other_ends v ls)))
        ≡ (((s && eqb l.high w) || (eqb l.low w && t)) || linked_by ls v w)
    go true t p q = ap (λ (x : Bool). x || member w (other_ends v ls)) (iff_eq (eqb l.high w) (eqb l.high w || (eqb l.low w && t))
        (λ h. or_left (eqb l.high w) (eqb l.low w && t) h) (λ h. pick (or_cases (eqb l.high w) (eqb l.low w && t) h)))
      where
        pick : (eqb l.high w ≡ true) ⊎ ((eqb l.low w && t) ≡ true) → eqb l.high w ≡ true
        pick (inl h) = h
        pick (inr h) = eq-eqb l.high w (omega (
          arith,
          eqb-true l.low v p,
          eqb-true l.low w (and_left (eqb l.low w) t h),
          eqb-true l.high v (q ∙ and_right (eqb l.low w) t h),
        ))
    go false true p q = rw (and-true (eqb l.low w))
    go false false p q = rw (and-false (eqb l.low w))

pub linked_by_sym : (ls : List Link) (v w : ℕ) → linked_by ls v w ≡ linked_by ls w v
unfolding other_ends member
linked_by_sym [] v w = refl
linked_by_sym (l ∷ ls) v w =
    rw (linked_by_cons l ls v w, linked_by_cons l ls w v, linked_by_sym ls v w, ends_sym l.low l.high v w)

pub linked_sym : (g : Graph) (v w : ℕ) → linked g v w ≡ linked g w v
unfolding linked
linked_sym g v w = linked_by_sym g.links v w

-- ---- a link put in or taken out

pub linked_by_with : (l : Link) (ls : List Link) (v w : ℕ) → linked_by (with_link l ls) v w ≡ (joins l v w || linked_by ls v w)
unfolding with_link
linked_by_with l [] v w = linked_by_cons l [] v w
linked_by_with l (m ∷ ms) v w = go (linked_by_with l ms v w) (link_before l m)
  where
    go : linked_by (with_link l ms) v w ≡ (joins l v w || linked_by ms v w) → (t : Bool)
        → linked_by (cond t (l ∷ m ∷ ms) (m ∷ with_link l ms)) v w ≡ (joins l v w || linked_by (m ∷ ms) v w)
    go rec true = linked_by_cons l (m ∷ ms) v w
    go rec false =
        linked_by_cons m (with_link l ms) v w ∙ ap (λ (x : Bool). joins m v w || x) rec
        ∙ swap_or (joins m v w) (joins l v w) (linked_by ms v w) ∙ ap (λ (x : Bool). joins l v w || x) (sym (linked_by_cons m ms v w))

-- whether a link of the list is the given one
pub same_link_eq : (l m : Link) → same_link l m ≡ true → (l.low ≡ m.low) × (l.high ≡ m.high)
unfolding same_link
same_link_eq l m h = (
  eqb-true l.low m.low (and_left (eqb l.low m.low) (eqb l.high m.high) h),
  eqb-true l.high m.high (and_right (eqb l.low m.low) (eqb l.high m.high) h),
)

pub linked_by_without : (l : Link) (ls : List Link) (v w : ℕ)
    → (joins l v w || linked_by (without_link l ls) v w) ≡ (joins l v w || linked_by ls v w)
unfolding without_link
linked_by_without l [] v w = refl
linked_by_without l (m ∷ ms) v w = go (linked_by_without l ms v w) (same_link m l) refl
  where
    twice : (x y : Bool) → (x || y) ≡ (x || (x || y))
    twice true y = refl
    twice false y = refl

    go : (joins l v w || linked_by (without_link l ms) v w) ≡ (joins l v w || linked_by ms v w) → (t : Bool) → same_link m l ≡ t
        → (joins l v w || linked_by (cond t ms (m ∷ without_link l ms)) v w) ≡ (joins l v w || linked_by (m ∷ ms) v w)
    go rec true e =
        let r = same_link_eq m l e in
        let j : joins m v w ≡ joins l v w = rw (r.0, r.1) in
        rw (linked_by_cons m ms v w, j) (twice (joins l v w) (linked_by ms v w))
    go rec false e =
        rw (linked_by_cons m (without_link l ms) v w, linked_by_cons m ms v w)
        (swap_or (joins l v w) (joins m v w) (linked_by (without_link l ms) v w)
        ∙ ap (λ (x : Bool). joins m v w || x) rec ∙ swap_or (joins m v w) (joins l v w) (linked_by ms v w))

-- ---- the link of two radios

pub joins_link : (a b v w : ℕ) → joins (link a b) v w ≡ ends a b v w
unfolding link ends
joins_link a b v w = go (ltb a b)
  where
    go : (t : Bool) → let l : Link = cond {A = Link} t (record { low = a; high = b }) (record { low = b; high = a }) in joins l v w ≡ ends a b v w
    go true = refl
    go false = flip (eqb a v) (eqb b w) (eqb a w) (eqb b v)
      where
        flip : (p q r s : Bool) → ((s && r) || (q && p)) ≡ ((p && q) || (r && s))
        flip true true true true = refl
        flip true true true false = refl
        flip true true false true = refl
        flip true true false false = refl
        flip true false true true = refl
        flip true false true false = refl
        flip true false false true = refl
        flip true false false false = refl
        flip false true true true = refl
        flip false true true false = refl
        flip false true false true = refl
        flip false true false false = refl
        flip false false true true = refl
        flip false false true false = refl
        flip false false false true = refl
        flip false false false false = refl

-- ---- proper links

abbrev pub Proper : ℕ → List Link → Type 0
Proper n [] = Unit {0}
Proper n (l ∷ ls) = (l.low < l.high) × (l.high < n) × Proper n ls

pub proper_of : (n : ℕ) (ls : List Link) → proper n ls ≡ true → Proper n ls
unfolding proper
proper_of n [] h = tt
proper_of n (l ∷ ls) h =
    let one = and_left (ltb l.low l.high && ltb l.high n) (proper n ls) h in (
      ltb-true l.low l.high (and_left (ltb l.low l.high) (ltb l.high n) one),
      ltb-true l.high n (and_right (ltb l.low l.high) (ltb l.high n) one),
      proper_of n ls (and_right (ltb l.low l.high && ltb l.high n) (proper n ls) h),
    )

pub of_proper : (n : ℕ) (ls : List Link) → Proper n ls → proper n ls ≡ true
unfolding proper
of_proper n [] p = refl
of_proper n (l ∷ ls) p = rw (lt-ltb l.low l.high p.0, lt-ltb l.high n p.1) (of_proper n ls p.2)

-- proper links join two different radios below n
pub linked_by_proper : (n : ℕ) (ls : List Link) → Proper n ls → (v w : ℕ) → linked_by ls v w ≡ true → (v < n) × (w < n) × (v ≡ w → ⊥)
unfolding other_ends member
linked_by_proper n [] p v w h = never false h refl
linked_by_proper n (l ∷ ls) p v w h = go (linked_by_proper n ls p.2 v w) (or_cases (joins l v w) (linked_by ls v w) (sym (linked_by_cons l ls v w) ∙ h))
  where
    at : Ends l.low l.high v w → (v < n) × (w < n) × (v ≡ w → ⊥)
    at (inl e) = (omega (arith, p.0, p.1, e.0), omega (arith, p.1, e.1), λ q. omega (arith, p.0, e.0, e.1, q))
    at (inr e) = (omega (arith, p.1, e.0), omega (arith, p.0, p.1, e.1), λ q. omega (arith, p.0, e.0, e.1, q))

    go : (linked_by ls v w ≡ true → (v < n) × (w < n) × (v ≡ w → ⊥)) → (joins l v w ≡ true) ⊎ (linked_by ls v w ≡ true)
        → (v < n) × (w < n) × (v ≡ w → ⊥)
    go rec (inl e) = at (ends_of l.low l.high v w e)
    go rec (inr e) = rec e

-- no radio is its own neighbour
pub linked_self : (g : Graph) → proper g.n g.links ≡ true → (v : ℕ) → linked g v v ≡ false
unfolding linked
linked_self g p v = ⊎_elim (λ e. absurd ((linked_by_proper g.n g.links (proper_of g.n g.links p) v v e).2 refl)) (λ e. e) (bool_cases (linked g v v))

proper_link : (n a b : ℕ) → a < n → b < n → (a ≡ b → ⊥) → ((link a b).low < (link a b).high) × ((link a b).high < n)
unfolding link
proper_link n a b la lb ne = ⊎_elim (λ e. rw e (ltb-true a b e, lb)) (λ e. rw e (omega (arith, ltb-false a b e, ne), la)) (bool_cases (ltb a b))

proper_with : (n : ℕ) (l : Link) (ls : List Link) → l.low < l.high → l.high < n → Proper n ls → Proper n (with_link l ls)
unfolding with_link
proper_with n l [] h g p = (h, g, tt)
proper_with n l (m ∷ ms) h g p = go (proper_with n l ms h g p.2) (link_before l m)
  where
    go : Proper n (with_link l ms) → (t : Bool) → Proper n (cond t (l ∷ m ∷ ms) (m ∷ with_link l ms))
    go rec true = (h, g, p)
    go rec false = (p.0, p.1, rec)

proper_without : (n : ℕ) (l : Link) (ls : List Link) → Proper n ls → Proper n (without_link l ls)
unfolding without_link
proper_without n l [] p = tt
proper_without n l (m ∷ ms) p = go (proper_without n l ms p.2) (same_link m l)
  where
    go : Proper n (without_link l ms) → (t : Bool) → Proper n (cond t ms (m ∷ without_link l ms))
    go rec true = p.2
    go rec false = (p.0, p.1, rec)

pub proper_new_links : (u : Bool) (a b n : ℕ) (ls : List Link) → a < n → b < n → (a ≡ b → ⊥) → Proper n ls → Proper n (new_links u a b ls)
unfolding new_links
proper_new_links true a b n ls la lb ne p = let q = proper_link n a b la lb ne in proper_with n (link a b) ls q.0 q.1 p
proper_new_links false a b n ls la lb ne p = proper_without n (link a b) ls p

-- ---- graphs one link apart

-- q is p with the link between a and b
pub record Adds (p q : Graph) (a b : ℕ) : Type 0 where
  pub same_n : p.n ≡ q.n
  pub differ : a ≡ b → ⊥
  pub adds : (v w : ℕ) → linked q v w ≡ (ends a b v w || linked p v w)

-- up and down alike: the larger graph is the smaller one with the link
pub relinked_adds : (u : Bool) (a b : ℕ) (g : Graph) → (a ≡ b → ⊥) → linked g a b ≡ not u → Adds (smaller u a b g) (larger u a b g) a b
unfolding smaller larger relinked new_links linked
relinked_adds true a b g ne s = record {
  same_n = refl;
  differ = ne;
  adds = λ v w. linked_by_with (link a b) g.links v w ∙ ap (λ (x : Bool). x || linked_by g.links v w) (joins_link a b v w);
}
relinked_adds false a b g ne s = record {
  same_n = refl;
  differ = ne;
  adds = λ v w. there v w ∙ sym (linked_by_without (link a b) g.links v w)
      ∙ ap (λ (x : Bool). x || linked_by (without_link (link a b) g.links) v w) (joins_link a b v w);
}
  where
    at : (v w : ℕ) → Ends a b v w → linked_by g.links v w ≡ true
    at v w (inl e) = rw (e.0, e.1) s
    at v w (inr e) = rw (e.0, e.1) (linked_by_sym g.links b a ∙ s)

    there : (v w : ℕ) → linked_by g.links v w ≡ (joins (link a b) v w || linked_by g.links v w)
    there v w = iff_eq (linked_by g.links v w) (joins (link a b) v w || linked_by g.links v w)
        (λ h. or_right (joins (link a b) v w) (linked_by g.links v w) h)
        (λ h. go (or_cases (joins (link a b) v w) (linked_by g.links v w) h))
      where
        go : (joins (link a b) v w ≡ true) ⊎ (linked_by g.links v w ≡ true) → linked_by g.links v w ≡ true
        go (inl e) = at v w (ends_of a b v w (sym (joins_link a b v w) ∙ e))
        go (inr e) = e

module _ {p q : Graph} {a b : ℕ} (apart : Adds p q a b) where
  pub adds_keeps : (v w : ℕ) → linked p v w ≡ true → linked q v w ≡ true
  adds_keeps v w h = apart.adds v w ∙ or_right (ends a b v w) (linked p v w) h

  pub adds_cases : (v w : ℕ) → linked q v w ≡ true → (linked p v w ≡ true) ⊎ Ends a b v w
  adds_cases v w h = ⊎_elim (λ e. inr (ends_of a b v w e)) (λ e. inl e) (or_cases (ends a b v w) (linked p v w) (sym (apart.adds v w) ∙ h))

  pub adds_has : linked q a b ≡ true
  adds_has = apart.adds a b ∙ or_left (ends a b a b) (linked p a b) (of_ends a b a b (inl (refl, refl)))

-- ---- neighbours in a set

-- over any list that holds each radio once
pub neighbours_in_list : (g : Graph) (v : ℕ) (s : ℕ → Bool) (xs : List ℕ) → EachOnce g.n xs
    → neighbours_in g v s ≡ count (λ b. linked g v b && s b) xs
unfolding neighbours_in radios
neighbours_in_list g v s xs o = sym (o (λ b. linked g v b && s b))

-- from one set and graph to another
pub neighbours_in_mono : (g h : Graph) (v : ℕ) (s t : ℕ → Bool) → g.n ≡ h.n
    → ((w : ℕ) → w < g.n → linked g v w ≡ true → s w ≡ true → (linked h v w ≡ true) × (t w ≡ true)) → neighbours_in g v s ≤ neighbours_in h v t
unfolding neighbours_in radios linked
neighbours_in_mono g h v s t e k =
    rw (← e) (count_mono (λ b. linked g v b && s b) (λ b. linked h v b && t b) (range 0 g.n)
    (λ b m p. let r = k b (omega (arith, range_in 0 g.n b m)) (and_left (linked g v b) (s b) p) (and_right (linked g v b) (s b) p) in
    and_both (linked h v b) (t b) r.0 r.1))

pub neighbours_in_subset : (g : Graph) (v : ℕ) (s t : ℕ → Bool) → ((w : ℕ) → w < g.n → s w ≡ true → t w ≡ true) → neighbours_in g v s ≤ neighbours_in g v t
neighbours_in_subset g v s t k = neighbours_in_mono g g v s t refl (λ w l a b. (a, k w l b))

-- a set given as a list of radios without repeats
pub neighbours_in_members : (g : Graph) (v : ℕ) (xs : List ℕ) → Distinct xs → ((x : ℕ) → In x xs → x < g.n)
    → neighbours_in g v (λ b. member b xs) ≡ count (linked g v) xs
unfolding neighbours_in radios
neighbours_in_members g v xs d b = le_antisymm
    (count_sub (λ b. linked g v b && member b xs) (linked g v) (range 0 g.n) xs (distinct_range 0 g.n)
    (λ x m p. (member_in x xs (and_right (linked g v x) (member x xs) p), and_left (linked g v x) (member x xs) p)))
    (count_sub (linked g v) (λ b. linked g v b && member b xs) xs (range 0 g.n) d
    (λ x m p. (in_range 0 g.n x (omega arith) (omega (arith, b x m)), and_both (linked g v x) (member x xs) p (in_member x xs m))))

-- the radios of a set, as a list
pub neighbours_in_filter : (g : Graph) (v : ℕ) (s : ℕ → Bool) → neighbours_in g v s ≡ count (linked g v) (filter s (radios g))
unfolding neighbours_in radios
neighbours_in_filter g v s = count_both (linked g v) s (range 0 g.n) ∙ sym (count_filter (linked g v) s (range 0 g.n))

pub degree_in : (g : Graph) (v : ℕ) → degree g v ≡ neighbours_in g v (λ b. true)
unfolding degree neighbours_among neighbours_in radios count
degree_in g v = le_antisymm
    (count_mono (linked g v) (λ b. linked g v b && true) (range 0 g.n) (λ b m h. and_both (linked g v b) true h refl))
    (count_mono (λ b. linked g v b && true) (linked g v) (range 0 g.n) (λ b m h. and_left (linked g v b) true h))
