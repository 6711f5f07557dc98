-- Links in their order.
-- In order: membership of links, a link before another, sorted lists of links, members and neighbours.
use Rattle.std.specs.Prelude.{◌≡◌, ◌⊎◌, ◌&&◌, ◌||◌, ◌∷◌, ◌++◌, ◌<◌}
use Rattle.lists.specs.Kit.{refl, sym, ap, ap₂, subst, ◌∙◌, inl, inr, true, false, List, [], ℕ, arith, ltb, eqb, ⊎_elim}
use Rattle.lists.{specs.Kit.{ltb-true, lt-ltb, le-ltb, eqb-true, eq-eqb}, specs.Lists.{member}, proofs.Tests.{never, and_left, and_right, and_both, or_cases}}
use Rattle.lists.proofs.Tests.{or_left, or_right, trichotomy}
use Rattle.mesh.specs.Graph.{Link, InLinks, other_ends, link, link_before, ascending}
use Rattle.mesh.proofs.GraphLaws.{Ends, ends_of, of_ends, joins, joins_link, linked_by, linked_by_cons, Proper}

-- ---- membership of links

pub in_links_left : (m : Link) (ls ms : List Link) → InLinks m ls → InLinks m (ls ++ ms)
in_links_left m [] ms x' = elim x' [ ]
in_links_left m (l ∷ ls) ms (inl e) = inl e
in_links_left m (l ∷ ls) ms (inr i) = inr (in_links_left m ls ms i)

pub in_links_right : (m : Link) (ls ms : List Link) → InLinks m ms → InLinks m (ls ++ ms)
in_links_right m [] ms i = i
in_links_right m (l ∷ ls) ms i = inr (in_links_right m ls ms i)

pub in_links_cases : (m : Link) (ls ms : List Link) → InLinks m (ls ++ ms) → InLinks m ls ⊎ InLinks m ms
in_links_cases m [] ms i = inr i
in_links_cases m (l ∷ ls) ms (inl e) = inl (inl e)
in_links_cases m (l ∷ ls) ms (inr i) = ⊎_elim (λ a. inl (inr a)) (λ b. inr b) (in_links_cases m ls ms i)

pub in_links_proper : (n : ℕ) (ls : List Link) (m : Link) → Proper n ls → InLinks m ls → (m.low < m.high) × (m.high < n)
in_links_proper n [] m p x'' = elim x'' [ ]
in_links_proper n (l ∷ ls) m p (inl e) =
    let a : l.low ≡ m.low = ap (λ (x : Link). x.low) e in
    let b : l.high ≡ m.high = ap (λ (x : Link). x.high) e in (omega (arith, p.0), omega (arith, p.1))
in_links_proper n (l ∷ ls) m p (inr i) = in_links_proper n ls m p.2 i

pub proper_in_links : (n : ℕ) (ls : List Link) → ((m : Link) → InLinks m ls → (m.low < m.high) × (m.high < n)) → Proper n ls
proper_in_links n [] h = tt
proper_in_links n (l ∷ ls) h = let p = h l (inl refl) in (p.0, p.1, proper_in_links n ls (λ m i. h m (inr i)))

-- ---- a link before another: by lower radio and then higher

abbrev pub Before : Link → Link → Type 0
Before l m = (l.low < m.low) ⊎ ((l.low ≡ m.low) × (l.high < m.high))

pub before_irreflexive : (l : Link) → Before l l → ⊥
before_irreflexive l (inl h) = omega arith
before_irreflexive l (inr h) = omega (arith, h.1)

pub before_trans : (l m k : Link) → Before l m → Before m k → Before l k
before_trans l m k (inl h) (inl g) = inl (omega arith)
before_trans l m k (inl h) (inr g) = inl (omega (arith, g.0))
before_trans l m k (inr h) (inl g) = inl (omega (arith, h.0))
before_trans l m k (inr h) (inr g) = inr (omega (arith, h.0, g.0), omega (arith, h.1, g.1))

pub link_eq : (l m : Link) → l.low ≡ m.low → l.high ≡ m.high → l ≡ m
link_eq l m p q = λ i. record { low = p i; high = q i }

pub before_of : (l m : Link) → link_before l m ≡ true → Before l m
unfolding link_before
before_of l m h = go (or_cases (ltb l.low m.low) (eqb l.low m.low && ltb l.high m.high) h)
  where
    go : (ltb l.low m.low ≡ true) ⊎ ((eqb l.low m.low && ltb l.high m.high) ≡ true) → Before l m
    go (inl e) = inl (ltb-true l.low m.low e)
    go (inr e) = inr (
      eqb-true l.low m.low (and_left (eqb l.low m.low) (ltb l.high m.high) e),
      ltb-true l.high m.high (and_right (eqb l.low m.low) (ltb l.high m.high) e),
    )

pub of_before : (l m : Link) → Before l m → link_before l m ≡ true
unfolding link_before
of_before l m (inl h) = rw (lt-ltb l.low m.low h)
of_before l m (inr h) = or_right (ltb l.low m.low) (eqb l.low m.low && ltb l.high m.high)
    (rw (eq-eqb l.low m.low h.0) (lt-ltb l.high m.high h.1))

-- of two links one is before the other, or they are the same
pub before_cases : (l m : Link) → Before l m ⊎ ((l ≡ m) ⊎ Before m l)
before_cases l m = low (trichotomy l.low m.low)
  where
    high : l.low ≡ m.low → (l.high < m.high) ⊎ ((l.high ≡ m.high) ⊎ (m.high < l.high)) → Before l m ⊎ ((l ≡ m) ⊎ Before m l)
    high e (inl h) = inl (inr (e, h))
    high e (inr (inl h)) = inr (inl (link_eq l m e h))
    high e (inr (inr h)) = inr (inr (inr (sym e, h)))

    low : (l.low < m.low) ⊎ ((l.low ≡ m.low) ⊎ (m.low < l.low)) → Before l m ⊎ ((l ≡ m) ⊎ Before m l)
    low (inl h) = inl (inl h)
    low (inr (inl e)) = high e (trichotomy l.high m.high)
    low (inr (inr h)) = inr (inr (inl h))

-- ---- sorted lists of links

-- every earlier link is before every later one
abbrev pub Sorted : List Link → Type 0
Sorted [] = Unit {0}
Sorted (l ∷ ls) = ((m : Link) → InLinks m ls → Before l m) × Sorted ls

pub first_before : (l m : Link) (ls : List Link) → Before l m → Sorted (m ∷ ls) → (x : Link) → InLinks x (m ∷ ls) → Before l x
first_before l m ls h s x (inl e) = subst (λ (z : Link). Before l z) e h
first_before l m ls h s x (inr i) = before_trans l m x h (s.0 x i)

pub sorted_of : (ls : List Link) → ascending ls ≡ true → Sorted ls
unfolding ascending
sorted_of [] h = tt
sorted_of (l ∷ []) h = (λ m i. absurd i, tt)
sorted_of (l ∷ m ∷ ls) h =
    let s = sorted_of (m ∷ ls) (and_right (link_before l m) (ascending (m ∷ ls)) h) in
    (first_before l m ls (before_of l m (and_left (link_before l m) (ascending (m ∷ ls)) h)) s, s)

pub of_sorted : (ls : List Link) → Sorted ls → ascending ls ≡ true
unfolding ascending
of_sorted [] s = refl
of_sorted (l ∷ []) s = refl
of_sorted (l ∷ m ∷ ls) s =
    and_both (link_before l m) (ascending (m ∷ ls)) (of_before l m (s.0 m (inl refl))) (of_sorted (m ∷ ls) s.1)

pub sorted_append : (ls ms : List Link) → Sorted ls → Sorted ms → ((l m : Link) → InLinks l ls → InLinks m ms → Before l m) → Sorted (ls ++ ms)
sorted_append [] ms s t h = t
sorted_append (l ∷ ls) ms s t h = (λ m i. go m (in_links_cases m ls ms i), sorted_append ls ms s.1 t (λ x m i k. h x m (inr i) k))
  where
    go : (m : Link) → InLinks m ls ⊎ InLinks m ms → Before l m
    go m (inl i) = s.0 m i
    go m (inr i) = h l m (inl refl) i

-- the rest of a sorted list, by the members of the whole
sorted_tail : (x y : Link) (xs ys : List Link) → x ≡ y → Sorted (x ∷ xs) → ((m : Link) → InLinks m (x ∷ xs) → InLinks m (y ∷ ys))
    → (m : Link) → InLinks m xs → InLinks m ys
sorted_tail x y xs ys e s f m i = ⊎_elim (λ q. absurd (before_irreflexive m (subst (λ (z : Link). Before z m) (e ∙ q) (s.0 m i)))) (λ k. k) (f m (inr i))

-- a sorted list is told by its members
pub sorted_eq : (xs ys : List Link) → Sorted xs → Sorted ys
    → ((m : Link) → InLinks m xs → InLinks m ys) → ((m : Link) → InLinks m ys → InLinks m xs) → xs ≡ ys
sorted_eq [] [] s t f g = refl
sorted_eq [] (y ∷ ys) s t f g = absurd (g y (inl refl))
sorted_eq (x ∷ xs) [] s t f g = absurd (f x (inl refl))
sorted_eq (x ∷ xs) (y ∷ ys) s t f g = go (sorted_eq xs ys s.1 t.1) (f x (inl refl)) (g y (inl refl))
  where
    rest : (((m : Link) → InLinks m xs → InLinks m ys) → ((m : Link) → InLinks m ys → InLinks m xs) → xs ≡ ys) → x ≡ y → x ∷ xs ≡ y ∷ ys
    rest rec e = ap₂ {C = List Link} (λ z zs. z ∷ zs) e (rec (sorted_tail x y xs ys e s f) (sorted_tail y x ys xs (sym e) t g))

    go : (((m : Link) → InLinks m xs → InLinks m ys) → ((m : Link) → InLinks m ys → InLinks m xs) → xs ≡ ys)
        → (y ≡ x) ⊎ InLinks x ys → (x ≡ y) ⊎ InLinks y xs → x ∷ xs ≡ y ∷ ys
    go rec (inl e) q = rest rec (sym e)
    go rec (inr i) (inl e) = rest rec e
    go rec (inr i) (inr k) = absurd (before_irreflexive x (before_trans x y x (s.0 y k) (t.0 x i)))

-- ---- members and neighbours

-- the link of two radios, lower first
pub link_less : (a b : ℕ) → a < b → link a b ≡ record { low = a; high = b }
unfolding link
link_less a b h = rw (lt-ltb a b h)

pub link_more : (a b : ℕ) → b < a → link a b ≡ record { low = b; high = a }
unfolding link
link_more a b h = rw (le-ltb a b (omega arith))

link_of : (l : Link) (v w : ℕ) → l.low < l.high → Ends l.low l.high v w → l ≡ link v w
link_of l v w h (inl e) = link_eq l (record { low = v; high = w }) (sym e.0) (sym e.1) ∙ sym (link_less v w (omega (arith, e.0, e.1)))
link_of l v w h (inr e) = link_eq l (record { low = w; high = v }) (sym e.1) (sym e.0) ∙ sym (link_more v w (omega (arith, e.0, e.1)))

pub in_linked : (ls : List Link) (v w : ℕ) → InLinks (link v w) ls → linked_by ls v w ≡ true
in_linked [] v w i = elim i [ ]
in_linked (l ∷ ls) v w i = linked_by_cons l ls v w ∙ go (in_linked ls v w) i
  where
    go : (InLinks (link v w) ls → linked_by ls v w ≡ true) → InLinks (link v w) (l ∷ ls) → (joins l v w || linked_by ls v w) ≡ true
    go rec (inl e) = or_left (joins l v w) (linked_by ls v w)
        (ap (λ (x : Link). joins x v w) e ∙ joins_link v w v w ∙ of_ends v w v w (inl (refl, refl)))
    go rec (inr k) = or_right (joins l v w) (linked_by ls v w) (rec k)

pub linked_in : (n : ℕ) (ls : List Link) (v w : ℕ) → Proper n ls → linked_by ls v w ≡ true → InLinks (link v w) ls
unfolding other_ends member
linked_in n [] v w p h = never false h refl
linked_in n (l ∷ ls) v w p h = let rec = linked_in n ls v w p.2 in
    ⊎_elim (λ e. inl (link_of l v w p.0 (ends_of l.low l.high v w e))) (λ e. inr (rec e))
    (or_cases (joins l v w) (linked_by ls v w) (sym (linked_by_cons l ls v w) ∙ h))
