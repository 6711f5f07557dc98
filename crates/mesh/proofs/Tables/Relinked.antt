-- One link more or less.
-- In order: the links stay in their order, the neighbours that change, the links table that changes.
use Rattle.std.specs.Prelude.{◌≡◌, ◌⊎◌, ◌||◌, ◌∷◌, ◌≤◌, ◌<◌}
use Rattle.lists.{specs.Kit.{refl, sym, ap, subst, ◌∙◌, inl, inr, Bool, true, false, not, cond, List, [], ℕ, eqb, eq-eqb}}
use Rattle.lists.{proofs.Tests.{bool_cases, never, and_both}}
use Rattle.mesh.specs.{Limits.{max_radios}, Graph.{Link, InLinks, Graph, linked, link, link_before, same_link, with_link, without_link, new_links}}
use Rattle.mesh.specs.{Graph.{relinked, proper, ascending}, Tables.{put_link, links_table}}
use Rattle.mesh.proofs.{GraphLaws.{ends, Ends, ends_of, joins_link, linked_by, linked_by_sym, linked_by_with, linked_by_without, same_link_eq, Proper}}
use Rattle.mesh.proofs.{GraphLaws.{proper_of, proper_new_links}, Tables.Laws.{table_eq, length_put_link, bytes_put_link, marked_put_link}}
use Rattle.mesh.proofs.{Tables.Laws.{length_links_table, bytes_links_table, marked_links_table}, Tables.AscendingLinks.{Before, first_before}}
use Rattle.mesh.proofs.{Tables.AscendingLinks.{before_irreflexive, before_of, of_before, before_cases, link_eq, Sorted, sorted_of, of_sorted, in_linked}}
use Rattle.mesh.proofs.{Tables.AscendingLinks.{linked_in}}

-- ---- the links stay in their order

in_with : (l : Link) (ls : List Link) (x : Link) → InLinks x (with_link l ls) → (l ≡ x) ⊎ InLinks x ls
unfolding with_link
in_with l [] x (inr x4) = elim x4 [ ]
in_with l [] x (inl e) = inl e
in_with l (m ∷ ms) x i = go (in_with l ms x) (link_before l m) i
  where
    later : (l ≡ x) ⊎ InLinks x ms → (l ≡ x) ⊎ InLinks x (m ∷ ms)
    later (inl e) = inl e
    later (inr k) = inr (inr k)

    go : (InLinks x (with_link l ms) → (l ≡ x) ⊎ InLinks x ms) → (t : Bool) → InLinks x (cond t (l ∷ m ∷ ms) (m ∷ with_link l ms))
        → (l ≡ x) ⊎ InLinks x (m ∷ ms)
    go rec true i = i
    go rec false (inl e) = inr (inl e)
    go rec false (inr k) = later (rec k)

sorted_with : (l : Link) (ls : List Link) → Sorted ls → (InLinks l ls → ⊥) → Sorted (with_link l ls)
unfolding with_link
sorted_with l [] s ne = (λ m i. absurd i, tt)
sorted_with l (m ∷ ms) s ne = go (sorted_with l ms s.1 (λ i. ne (inr i))) (link_before l m) refl
  where
    after : link_before l m ≡ false → Before l m ⊎ ((l ≡ m) ⊎ Before m l) → Before m l
    after e (inl h) = never (link_before l m) (of_before l m h) e
    after e (inr (inl h)) = absurd (ne (inl (sym h)))
    after e (inr (inr h)) = h

    go : Sorted (with_link l ms) → (t : Bool) → link_before l m ≡ t → Sorted (cond t (l ∷ m ∷ ms) (m ∷ with_link l ms))
    go rec true e = (first_before l m ms (before_of l m e) s, s)
    go rec false e = (λ x i. first x (in_with l ms x i), rec)
      where
        first : (x : Link) → (l ≡ x) ⊎ InLinks x ms → Before m x
        first x (inl q) = subst (λ (z : Link). Before m z) q (after e (before_cases l m))
        first x (inr i) = s.0 x i

in_without : (l : Link) (ls : List Link) (x : Link) → InLinks x (without_link l ls) → InLinks x ls
unfolding without_link
in_without l [] x i = elim i [ ]
in_without l (m ∷ ms) x i = go (in_without l ms x) (same_link m l) i
  where
    go : (InLinks x (without_link l ms) → InLinks x ms) → (t : Bool) → InLinks x (cond t ms (m ∷ without_link l ms)) → InLinks x (m ∷ ms)
    go rec true k = inr k
    go rec false (inl e) = inl e
    go rec false (inr k) = inr (rec k)

sorted_without : (l : Link) (ls : List Link) → Sorted ls → Sorted (without_link l ls)
unfolding without_link
sorted_without l [] s = tt
sorted_without l (m ∷ ms) s = go (sorted_without l ms s.1) (same_link m l)
  where
    go : Sorted (without_link l ms) → (t : Bool) → Sorted (cond t ms (m ∷ without_link l ms))
    go rec true = s.1
    go rec false = (λ x i. s.0 x (in_without l ms x i), rec)

eq_same_link : (l m : Link) → l ≡ m → same_link l m ≡ true
unfolding same_link
eq_same_link l m e = and_both (eqb l.low m.low) (eqb l.high m.high)
    (eq-eqb l.low m.low (ap (λ (x : Link). x.low) e)) (eq-eqb l.high m.high (ap (λ (x : Link). x.high) e))

-- in a sorted list a link stands once
not_in_without : (l : Link) (ls : List Link) → Sorted ls → InLinks l (without_link l ls) → ⊥
unfolding without_link
not_in_without l [] s i = elim i [ ]
not_in_without l (m ∷ ms) s i = go (not_in_without l ms s.1) (same_link m l) refl i
  where
    go : (InLinks l (without_link l ms) → ⊥) → (t : Bool) → same_link m l ≡ t → InLinks l (cond t ms (m ∷ without_link l ms)) → ⊥
    go rec true e k =
        let q = same_link_eq m l e in before_irreflexive l (subst (λ (z : Link). Before z l) (link_eq m l q.0 q.1) (s.0 l k))
    go rec false e (inl q) = never (same_link m l) (eq_same_link m l q) e
    go rec false e (inr k) = rec k

pub ascending_new_links : (u : Bool) (a b : ℕ) (g : Graph) → ascending g.links ≡ true → linked g a b ≡ not u
    → ascending (new_links u a b g.links) ≡ true
unfolding new_links linked
ascending_new_links true a b g s e = of_sorted (with_link (link a b) g.links)
    (sorted_with (link a b) g.links (sorted_of g.links s) (λ i. never (linked g a b) (in_linked g.links a b i) e))
ascending_new_links false a b g s e =
    of_sorted (without_link (link a b) g.links) (sorted_without (link a b) g.links (sorted_of g.links s))

-- ---- the neighbours that change

linked_by_with_link : (a b : ℕ) (ls : List Link) (v w : ℕ) → linked_by (with_link (link a b) ls) v w ≡ cond (ends a b v w) true (linked_by ls v w)
linked_by_with_link a b ls v w = linked_by_with (link a b) ls v w ∙ rw (joins_link a b v w) (go (ends a b v w))
  where
    go : (t : Bool) → (t || linked_by ls v w) ≡ cond t true (linked_by ls v w)
    go true = refl
    go false = refl

linked_by_without_link : (n a b : ℕ) (ls : List Link) (v w : ℕ) → Proper n (without_link (link a b) ls) → Sorted ls
    → linked_by (without_link (link a b) ls) v w ≡ cond (ends a b v w) false (linked_by ls v w)
linked_by_without_link n a b ls v w p s = go (ends a b v w) refl
  where
    out : linked_by (without_link (link a b) ls) a b ≡ true → ⊥
    out h = not_in_without (link a b) ls s (linked_in n (without_link (link a b) ls) a b p h)

    gone : Ends a b v w → linked_by (without_link (link a b) ls) v w ≡ true → ⊥
    gone (inl e) h = out (rw (e.0, e.1) at h)
    gone (inr e) h = out (linked_by_sym (without_link (link a b) ls) a b ∙ (rw (e.0, e.1) at h))

    unlinked : Ends a b v w → (linked_by (without_link (link a b) ls) v w ≡ true) ⊎ (linked_by (without_link (link a b) ls) v w ≡ false)
        → linked_by (without_link (link a b) ls) v w ≡ false
    unlinked e (inl h) = absurd (gone e h)
    unlinked e (inr h) = h

    go : (t : Bool) → ends a b v w ≡ t → linked_by (without_link (link a b) ls) v w ≡ cond t false (linked_by ls v w)
    go true e = unlinked (ends_of a b v w e) (bool_cases (linked_by (without_link (link a b) ls) v w))
    go false e = rw (joins_link a b v w, e) at (linked_by_without (link a b) ls v w)

-- ---- the graph after the call

module _ (u : Bool) (a b : ℕ) (g : Graph) (links_proper : proper g.n g.links ≡ true) (links_ascending : ascending g.links ≡ true)
    (a_radio : a < g.n) (b_radio : b < g.n) (differ : a ≡ b → ⊥) where
  pub linked_relinked : (v w : ℕ) → linked (relinked u a b g) v w ≡ cond (ends a b v w) u (linked g v w)
  unfolding linked relinked new_links
  linked_relinked v w = go u (proper_new_links u a b g.n g.links a_radio b_radio differ (proper_of g.n g.links links_proper))
    where
      go : (t : Bool) → Proper g.n (new_links t a b g.links) → linked_by (new_links t a b g.links) v w ≡ cond (ends a b v w) t
          (linked_by g.links v w)
      go true p = linked_by_with_link a b g.links v w
      go false p = linked_by_without_link g.n a b g.links v w p (sorted_of g.links links_ascending)

  -- the table of the graph after the call: both bits of the link put
  pub links_table_relinked : g.n ≤ max_radios → links_table (relinked u a b g) ≡ put_link u a b (links_table g)
  unfolding relinked
  links_table_relinked big = table_eq g.n (links_table (relinked u a b g)) (put_link u a b (links_table g))
      (length_links_table (relinked u a b g))
      (length_put_link u a b (links_table g) ∙ length_links_table g)
      (bytes_links_table (relinked u a b g))
      (bytes_put_link u a b (links_table g) (bytes_links_table g))
      (λ v w h l. marked_links_table (relinked u a b g) v w h l
      ∙ linked_relinked v w
      ∙ ap (cond (ends a b v w) u) (sym (marked_links_table g v w h l))
      ∙ sym (marked_put_link u g.n a b (links_table g) v w big (length_links_table g) a_radio b_radio l))
