-- How many links there are: each counts in the degrees of both its ends.
--   degrees_total        the degrees of a graph add up to twice its links
--   row-degrees-total    the bits of the rows add up to twice the links that they mark
--   length-graph-in      the links that rows mark, row by row
--   links_few            so a limit on neighbours limits the links; `links_most`, `block_count_most` with document 01's limits
use Rattle.std.specs.Prelude.{◌≡◌, ◌⊎◌, ◌||◌, ◌∷◌, ◌+◌, ◌*◌, ◌≤◌, ◌<◌}
use Rattle.lists.{specs.Kit.{refl, ap, subst, ◌∙◌, inl, inr, true, false, cond, List, [], ℕ, arith, eqb, length}}
use Rattle.lists.{specs.Kit.{eqb-true, eqb-false, eq-eqb}, specs.Lists.{range, count, member, total}, proofs.Tests.{bool_cases, bit_true, bit_false, iff_eq}}
use Rattle.lists.{proofs.Range.{range_in, length_range, count_range_one}, proofs.Count.{count_none, count_cong, count_or}, proofs.Sums.{total_le, total_cong}}
use Rattle.lists.{proofs.Sums.{total_none, total_bits}}
use Rattle.mesh.specs.{Limits.{max_radios, max_neighbours}, Graph.{Link, InLinks, Graph, radios, linked, neighbours_among, degree, other_ends, proper}}
use Rattle.mesh.specs.{Graph.{ascending}, Image.{blocks_for, order_blocks, block_count}, Valid.{Valid}}
use Rattle.mesh.proofs.{GraphLaws.{Ends, joins, ends_of, of_ends, linked_by, linked_by_cons, linked_by_sym, Proper, proper_of}}
use Rattle.mesh.proofs.{Tables.AscendingLinks.{before_irreflexive, Sorted, sorted_of, link_less, linked_in}}

-- ---- one link more

module _ (n : ℕ) (l : Link) (ls : List Link) (p : Proper n (l ∷ ls)) (s : Sorted (l ∷ ls)) where
  pub fresh : linked_by ls l.low l.high ≡ true → ⊥
  fresh e =
      before_irreflexive l (s.0 l (subst (λ (m : Link). InLinks m ls) (link_less l.low l.high p.0)
      (linked_in n ls l.low l.high p.2 e)))

  -- the link is not among the others
  apart : (v w : ℕ) → joins l v w ≡ true → linked_by ls v w ≡ false
  apart v w h = go (ends_of l.low l.high v w h) (bool_cases (linked_by ls v w))
    where
      go : Ends l.low l.high v w → (linked_by ls v w ≡ true) ⊎ (linked_by ls v w ≡ false) → linked_by ls v w ≡ false
      go e (inr t) = t
      go (inl e) (inl t) = absurd (fresh (rw (← e.0, ← e.1) t))
      go (inr e) (inl t) = absurd (fresh (linked_by_sym ls l.low l.high ∙ rw (← e.0, ← e.1) t))

  -- it joins each end with the other
  count_joins : (v : ℕ) → count (joins l v) (range 0 n) ≡ cond (eqb v l.low) 1 0 + cond (eqb v l.high) 1 0
  count_joins v = go (bool_cases (eqb v l.low)) (bool_cases (eqb v l.high))
    where
      one : (end : ℕ) → end < n → ((w : ℕ) → joins l v w ≡ true → w ≡ end) → joins l v end ≡ true → count (joins l v) (range 0 n) ≡ 1
      one end h only here =
          count_cong (joins l v) (λ w. eqb w end) (range 0 n)
          (λ w. iff_eq (joins l v w) (eqb w end) (λ t. eq-eqb w end (only w t)) (λ t. ap (joins l v) (eqb-true w end t) ∙ here))
          ∙ count_range_one n end h

      when_low : (v ≡ l.high → ⊥) → (w : ℕ) → Ends l.low l.high v w → w ≡ l.high
      when_low ne w (inl e) = e.1
      when_low ne w (inr e) = absurd (ne e.0)

      when_high : (v ≡ l.low → ⊥) → (w : ℕ) → Ends l.low l.high v w → w ≡ l.low
      when_high ne w (inl e) = absurd (ne e.0)
      when_high ne w (inr e) = e.1

      neither : (v ≡ l.low → ⊥) → (v ≡ l.high → ⊥) → (w : ℕ) → (joins l v w ≡ true) ⊎ (joins l v w ≡ false) → joins l v w ≡ false
      neither ne nf w (inr t) = t
      neither ne nf w (inl t) = absurd (no_end (ends_of l.low l.high v w t))
        where
          no_end : Ends l.low l.high v w → ⊥
          no_end (inl e) = ne e.0
          no_end (inr e) = nf e.0

      go : (eqb v l.low ≡ true) ⊎ (eqb v l.low ≡ false) → (eqb v l.high ≡ true) ⊎ (eqb v l.high ≡ false)
          → count (joins l v) (range 0 n) ≡ cond (eqb v l.low) 1 0 + cond (eqb v l.high) 1 0
      go (inl a) (inl b) = absurd (omega (arith, p.0, eqb-true v l.low a, eqb-true v l.high b))
      go (inl a) (inr b) =
          one l.high p.1 (λ w t. when_low (eqb-false v l.high b) w (ends_of l.low l.high v w t))
          (of_ends l.low l.high v l.high (inl (eqb-true v l.low a, refl)))
          ∙ omega (arith, bit_true (eqb v l.low) a, bit_false (eqb v l.high) b)
      go (inr a) (inl b) =
          one l.low (omega (arith, p.0, p.1)) (λ w t. when_high (eqb-false v l.low a) w (ends_of l.low l.high v w t))
          (of_ends l.low l.high v l.low (inr (eqb-true v l.high b, refl)))
          ∙ omega (arith, bit_false (eqb v l.low) a, bit_true (eqb v l.high) b)
      go (inr a) (inr b) =
          count_none (joins l v) (range 0 n) (λ w m. neither (eqb-false v l.low a) (eqb-false v l.high b) w (bool_cases (joins l v w)))
          ∙ omega (arith, bit_false (eqb v l.low) a, bit_false (eqb v l.high) b)

  abbrev near : List Link → (v : ℕ) → ℕ
  near ks v = count (linked_by ks v) (range 0 n)

  near_cons : (v : ℕ) → near (l ∷ ls) v ≡ near ls v + cond (eqb v l.low) 1 0 + cond (eqb v l.high) 1 0
  near_cons v = omega (
    arith,
    count_cong (linked_by (l ∷ ls) v) (λ w. joins l v w || linked_by ls v w) (range 0 n) (linked_by_cons l ls v),
    count_or (joins l v) (linked_by ls v) (range 0 n) (apart v),
    count_joins v,
  )

  total_cons : total (near (l ∷ ls)) (range 0 n) ≡ total (near ls) (range 0 n) + 2
  total_cons = omega (
    arith,
    total_bits (near ls) (near (l ∷ ls)) (λ v. eqb v l.low) (λ v. eqb v l.high) (range 0 n) near_cons,
    count_range_one n l.low (omega (arith, p.0, p.1)),
    count_range_one n l.high p.1,
  )

-- ---- all links

links_total : (n : ℕ) (ls : List Link) → Proper n ls → Sorted ls → total (λ v. count (linked_by ls v) (range 0 n)) (range 0 n) ≡ 2 * length ls
unfolding other_ends member
links_total n [] p s =
    total_cong (λ v. count (linked_by [] v) (range 0 n)) (λ v. 0) (range 0 n) (λ v m. count_none (linked_by [] v) (range 0 n) (λ w k. refl))
    ∙ total_none (range 0 n)
links_total n (l ∷ ls) p s = omega (arith, links_total n ls p.2 s.1, total_cons n l ls p s)

pub degrees_total : (g : Graph) → proper g.n g.links ≡ true → ascending g.links ≡ true → total (degree g) (radios g) ≡ 2 * length g.links
unfolding degree neighbours_among radios linked
degrees_total g p s = links_total g.n g.links (proper_of g.n g.links p) (sorted_of g.links s)

-- document 01's limit on neighbours limits the links
pub links_few : (most : ℕ) (g : Graph) (xs : List ℕ) → Valid most g xs → 2 * length g.links ≤ most * g.n
unfolding radios
links_few most g xs v = omega (
  arith,
  degrees_total g v.links_proper v.links_ascending,
  total_le (degree g) most (range 0 g.n) (λ w m. v.degrees w (omega (arith, range_in 0 g.n w m))),
  ap (λ (k : ℕ). most * k) (length_range 0 g.n),
)

-- so their count fits two bytes, and an image has at most 86 blocks
pub links_most : (g : Graph) (xs : List ℕ) → g.n ≤ max_radios → Valid max_neighbours g xs → length g.links ≤ 10240
links_most g xs small v = omega (arith, links_few max_neighbours g xs v)

pub block_count_most : (g : Graph) (xs : List ℕ) → g.n ≤ max_radios → Valid max_neighbours g xs → block_count g.n (length g.links) ≤ 86
unfolding block_count order_blocks blocks_for
block_count_most g xs small v = omega (arith, links_most g xs small v)

-- ---- the links that a table marks, counted by its rows
