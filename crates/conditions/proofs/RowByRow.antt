-- Soundness row by row: with each radio once in the order and its places known, tables are sound exactly when numbers rise
-- along the order and every row is good.
use Rattle.std.specs.Prelude.{◌≡◌, ◌⊎◌, ◌&&◌, ◌∷◌, ◌+◌, ◌≤◌, ◌<◌}
use Rattle.lists.{specs.Kit.{refl, sym, ap, ◌∙◌, inl, inr, Bool, true, false, not, and-false, and-true, List, [], ℕ, zero, suc}}
use Rattle.lists.{specs.Kit.{arith, le_trans, le_of_eq, ltb, leb, eqb, length, get_or, take, drop, take-append-drop, length-take, length-drop, get_or-take}}
use Rattle.lists.{specs.Kit.{get_or-drop, ltb-true, ltb-false, lt-ltb, leb-true, le-leb, lt-leb, eq-eqb, ne_eqb, not-true}, specs.Lists.{range, count, all, In}}
use Rattle.lists.{specs.Facts.{EachOnce}, proofs.Tests.{bool_cases, never, and_left, and_right, and_both, iff_eq}, proofs.Filter.{filter_in}}
use Rattle.lists.{proofs.Range.{in_range, once_in, once_below, once_length, count_below}, proofs.Count.{count_append, count_none, count_ext}}
use Rattle.lists.{proofs.All.{all_in, in_all, all_below, below_all}, proofs.Member.{in_get_d, get_d_of_in}}
use Rattle.mesh.{specs.Limits.{max_radios}, specs.Orders.{each_once, rising, few_later}, specs.Tables.{Tables, marked}, specs.Sound.{symmetric, irreflexive}}
use Rattle.mesh.{specs.Sound.{within, few, rows_proper, row_degree, enough, number_in, sound_within}, proofs.Cores.Orders.{of_each_once, FewLater}}
use Rattle.mesh.{proofs.Cores.Orders.{few_later_of, of_few_later}, proofs.Tables.Rows.{symmetric_of, of_symmetric, irreflexive_of, of_irreflexive, within_of}}
use Rattle.mesh.{proofs.Tables.Rows.{of_within, few_of, of_few}}
use Rattle.rows.{specs.Rows.{neighbours_of}, proofs.RowListLaws.{in_neighbours_of, length_neighbours_of, count_neighbours_of}}
use Rattle.conditions.specs.Conditions.{Placed, rising_from, later_count, high_count, ends_good, row_good}

-- ---- numbers along the order

rising_cons : (num : ℕ → ℕ) (x : ℕ) (xs : List ℕ) → rising_from num (num x) xs ≡ rising num (x ∷ xs)
unfolding rising_from rising
rising_cons num x [] = refl
rising_cons num x (y ∷ ys) = ap (λ (b : Bool). leb (num x) (num y) && b) (rising_cons num y ys)

pub rising_from_zero : (num : ℕ → ℕ) (xs : List ℕ) → rising_from num 0 xs ≡ rising num xs
unfolding rising_from rising
rising_from_zero num [] = refl
rising_from_zero num (x ∷ xs) = rw (le-leb 0 (num x) (omega arith)) (rising_cons num x xs)

-- ---- later neighbours, entry by entry

pub few_later_at : (f : ℕ → ℕ → Bool) (num : ℕ → ℕ) (xs : List ℕ) → FewLater f num xs
    → (p : ℕ) → p < length xs → count (f (get_or xs p 0)) (drop (suc p) xs) ≤ num (get_or xs p 0)
few_later_at f num [] h p l = absurd (omega arith)
few_later_at f num (x ∷ xs) h zero l = h.0
few_later_at f num (x ∷ xs) h (suc p) l = few_later_at f num xs h.1 p (omega arith)

pub at_few_later : (f : ℕ → ℕ → Bool) (num : ℕ → ℕ) (xs : List ℕ)
    → ((p : ℕ) → p < length xs → count (f (get_or xs p 0)) (drop (suc p) xs) ≤ num (get_or xs p 0)) → FewLater f num xs
at_few_later f num [] h = tt
at_few_later f num (x ∷ xs) h = (h 0 (omega arith), at_few_later f num xs (λ p l. h (suc p) (omega arith)))

-- the entries after place p are the radios whose place is above p
module _ (n : ℕ) (xs places : List ℕ) (once : EachOnce n xs) (placed : Placed n xs places) where
  long : length xs ≡ n
  long = once_length n xs once

  pub count_later : (f : ℕ → Bool) (p : ℕ) → count f (drop p xs) ≡ count (λ b. f b && leb p (get_or places b 0)) (range 0 n)
  count_later f p =
      let g : ℕ → Bool = λ b. f b && leb p (get_or places b 0) in
      let back : count g (drop p xs) ≡ count f (drop p xs) = count_ext g f (drop p xs) (λ b m. late b (get_d_of_in b (drop p xs) m)) in
      let front : count g (take p xs) ≡ 0 = count_none g (take p xs) (λ b m. early b (get_d_of_in b (take p xs) m)) in
      omega (arith, sym (once g), ap (count g) (take-append-drop p xs), count_append g (take p xs) (drop p xs), back, front)
    where
      late : (b : ℕ) → (i : ℕ) × (i < length (drop p xs)) × (get_or (drop p xs) i 0 ≡ b) → (f b && leb p (get_or places b 0)) ≡ f b
      late b r =
          let l : p + r.0 < n = omega (arith, r.1, length-drop p xs, long) in
          let e : get_or xs (p + r.0) 0 ≡ b = sym (get_or-drop p xs r.0 0) ∙ r.2 in
          let q : get_or places b 0 ≡ p + r.0 = ap (λ (v : ℕ). get_or places v 0) (sym e) ∙ placed.at (p + r.0) l in
          let t : leb p (get_or places b 0) ≡ true = le-leb p (get_or places b 0) (omega arith) in rw t (and-true (f b))

      early : (b : ℕ) → (i : ℕ) × (i < length (take p xs)) × (get_or (take p xs) i 0 ≡ b) → (f b && leb p (get_or places b 0)) ≡ false
      early b r =
          let l : r.0 < p = omega (arith, r.1, length-take p xs) in
          let e : get_or xs r.0 0 ≡ b = sym (get_or-take p xs r.0 0 l) ∙ r.2 in
          let q : get_or places b 0 ≡ r.0 =
          ap (λ (v : ℕ). get_or places v 0) (sym e) ∙ placed.at r.0 (omega (arith, r.1, length-take p xs, long)) in
          rw (lt-leb p (get_or places b 0) (omega arith)) (and-false (f b))

  place_below : (a : ℕ) → a < n → get_or places a 0 < n
  place_below a l = let r = get_d_of_in a xs (once_in n xs once a l) in
      let q : get_or places a 0 ≡ r.0 = ap (λ (v : ℕ). get_or places v 0) (sym r.2) ∙ placed.at r.0 (omega (arith, r.1, long)) in
      omega (arith, r.1, long)

  -- a radio's place holds it
  pub place_of : (a : ℕ) → a < n → get_or xs (get_or places a 0) 0 ≡ a
  place_of a l = let r = get_d_of_in a xs (once_in n xs once a l) in
      let q : get_or places a 0 ≡ r.0 = ap (λ (v : ℕ). get_or places v 0) (sym r.2) ∙ placed.at r.0 (omega (arith, r.1, long)) in
      ap (λ (i : ℕ). get_or xs i 0) q ∙ r.2

-- ---- one row

module _ (most n : ℕ) (t : Tables) (places : List ℕ) (small : n ≤ max_radios) (once : EachOnce n t.order) (placed : Placed n t.order places) where
  abbrev ts : List ℕ
  ts = t.links

  abbrev num : ℕ → ℕ
  num = number_in t.numbers

  -- what a row marks is below n
  abbrev Below : ℕ → Type 0
  Below a = (b : ℕ) → n ≤ b → b < max_radios → marked ts a b ≡ false

  count_neighbours : (a : ℕ) (f : ℕ → Bool) → Below a → count f (neighbours_of ts a) ≡ count (λ b. marked ts a b && f b) (range 0 n)
  count_neighbours a f h =
      count_neighbours_of f ts a
      ∙ count_below (λ b. marked ts a b && f b) n max_radios small (λ b l m. rw (h b l m))

  -- later neighbours by the list of a row and by the order
  pub later_count_is : (a : ℕ) → a < n → Below a → later_count places a (neighbours_of ts a) ≡ count (marked ts a) (drop (suc (get_or places a 0)) t.order)
  unfolding later_count
  later_count_is a l h =
      count_neighbours a (λ b. ltb (get_or places a 0) (get_or places b 0)) h
      ∙ sym (count_later n t.order places once placed (marked ts a) (suc (get_or places a 0)))

  pub high_count_is : (a : ℕ) → Below a → high_count t.numbers a (neighbours_of ts a) ≡ count (λ b. marked ts a b && leb (num a) (num b)) (range 0 n)
  unfolding high_count
  high_count_is a h = count_neighbours a (λ b. leb (num a) (num b)) h

  in_neighbours : (a b : ℕ) → b < max_radios → marked ts a b ≡ true → In b (neighbours_of ts a)
  unfolding neighbours_of
  in_neighbours a b l h = filter_in (λ b. marked ts a b) (range 0 max_radios) b (in_range 0 max_radios b (omega arith) (omega arith)) h

  -- a good row, as facts
  pub record Good (a : ℕ) : Type 0 where
    pub few : row_degree ts a ≤ most
    pub ends : (b : ℕ) → b < max_radios → marked ts a b ≡ true → (b < n) × (b ≡ a → ⊥) × (marked ts b a ≡ true)
    pub later : later_count places a (neighbours_of ts a) ≤ num a
    pub high : num a ≤ high_count t.numbers a (neighbours_of ts a)

  abbrev end_good : (a b : ℕ) → Bool
  end_good a b = ltb b n && (not (eqb b a) && marked ts b a)

  good_of : (a : ℕ) → row_good most n t.links t.numbers places a ≡ true → Good a
  unfolding row_good ends_good
  good_of a h =
      let xs = neighbours_of ts a in
      let p = leb (length xs) most in
      let q = all (end_good a) xs in
      let r = leb (later_count places a xs) (num a) in
      let s = leb (num a) (high_count t.numbers a xs) in
      let h1 = and_right p (q && (r && s)) h in
      let h2 = and_right q (r && s) h1 in
      record {
        few = omega (arith, leb-true (length xs) most (and_left p (q && (r && s)) h), length_neighbours_of ts a);
        ends = λ b l m. let e = all_in (end_good a) xs (and_left q (r && s) h1) b (in_neighbours a b l m) in
            let f = and_right (ltb b n) (not (eqb b a) && marked ts b a) e in (
              ltb-true b n (and_left (ltb b n) (not (eqb b a) && marked ts b a) e),
              λ i. never (eqb b a) (eq-eqb b a i) (not-true (eqb b a) (and_left (not (eqb b a)) (marked ts b a) f)),
              and_right (not (eqb b a)) (marked ts b a) f,
            );
        later = leb-true (later_count places a xs) (num a) (and_left r s h2);
        high = leb-true (num a) (high_count t.numbers a xs) (and_right r s h2);
      }

  of_good : (a : ℕ) → Good a → row_good most n t.links t.numbers places a ≡ true
  unfolding row_good ends_good
  of_good a g =
      let xs = neighbours_of ts a in
      let p = leb (length xs) most in
      let q = all (end_good a) xs in
      let r = leb (later_count places a xs) (num a) in
      let s = leb (num a) (high_count t.numbers a xs) in
      and_both p (q && (r && s)) (le-leb (length xs) most (omega (arith, g.few, length_neighbours_of ts a)))
      (and_both q (r && s) (in_all (end_good a) xs (λ b m. one b (in_neighbours_of ts a b m)))
      (and_both r s (le-leb (later_count places a xs) (num a) g.later) (le-leb (num a) (high_count t.numbers a xs) g.high)))
    where
      one : (b : ℕ) → (b < max_radios) × (marked ts a b ≡ true) → end_good a b ≡ true
      one b m = let e = g.ends b m.0 m.1 in rw (lt-ltb b n e.0, ne_eqb b a e.1, e.2)

  below_of : (a : ℕ) → Good a → Below a
  below_of a g b l m = pick (bool_cases (marked ts a b))
    where
      pick : (marked ts a b ≡ true) ⊎ (marked ts a b ≡ false) → marked ts a b ≡ false
      pick (inl e) = absurd (omega (arith, (g.ends b m e).0))
      pick (inr e) = e

  -- ---- all rows

  abbrev rows : Bool
  rows = all (row_good most n t.links t.numbers places) (range 0 n)

  rows_good : rows ≡ true → (a : ℕ) → a < n → Good a
  rows_good h a l = good_of a (all_below (row_good most n t.links t.numbers places) n h a l)

  good_proper : ((a : ℕ) → a < n → Good a) → rows_proper most n ts ≡ true
  unfolding rows_proper
  good_proper g =
      let s = symmetric n ts in
      let i = irreflexive n ts in
      let w = within n ts in
      let f = few most n ts in
      and_both (s && i) (w && f)
      (and_both s i (of_symmetric n ts (λ a b la lb. iff_eq (marked ts a b) (marked ts b a)
      (λ e. ((g a la).ends b (omega arith) e).2) (λ e. ((g b lb).ends a (omega arith) e).2)))
      (of_irreflexive n ts (λ a la. self a la (bool_cases (marked ts a a)))))
      (and_both w f (of_within n ts (λ a b la h m. below_of a (g a la) b h m)) (of_few most n ts (λ a la. (g a la).few)))
    where
      self : (a : ℕ) → a < n → (marked ts a a ≡ true) ⊎ (marked ts a a ≡ false) → marked ts a a ≡ false
      self a la (inl e) = absurd (((g a la).ends a (omega arith) e).1 refl)
      self a la (inr e) = e

  few_good : ((a : ℕ) → a < n → Good a) → few_later (marked ts) num t.order ≡ true
  few_good g =
      of_few_later (marked ts) num t.order (at_few_later (marked ts) num t.order (λ p l.
      let a = get_or t.order p 0 in
      let la = once_below n t.order once a (in_get_d t.order p l) in
      let e : get_or places a 0 ≡ p = placed.at p (omega (arith, once_length n t.order once)) in
      let c = later_count_is a la (below_of a (g a la)) in
      le_trans (le_of_eq (ap (λ (i : ℕ). count (marked ts a) (drop (suc i) t.order)) (sym e) ∙ sym c)) (g a la).later))

  enough_good : ((a : ℕ) → a < n → Good a) → enough n (marked ts) num ≡ true
  unfolding enough
  enough_good g =
      below_all (λ v. leb (num v) (count (λ b. marked ts v b && leb (num v) (num b)) (range 0 n))) n
      (λ v l. le-leb (num v) (count (λ b. marked ts v b && leb (num v) (num b)) (range 0 n))
      (le_trans (g v l).high (le_of_eq (high_count_is v (below_of v (g v l))))))

  -- the other way round
  good_row : rows_proper most n ts ≡ true → few_later (marked ts) num t.order ≡ true → enough n (marked ts) num ≡ true → (a : ℕ) → a < n → Good a
  unfolding rows_proper enough
  good_row h f e a l =
      let s = symmetric n ts in
      let i = irreflexive n ts in
      let w = within n ts in
      let k = few most n ts in
      let h1 = and_left (s && i) (w && k) h in
      let h2 = and_right (s && i) (w && k) h in
      let out : Below a = λ b lb m. within_of n ts (and_left w k h2) a b l lb m in
      let at = few_later_at (marked ts) num t.order (few_later_of (marked ts) num t.order f) (get_or places a 0)
      (omega (arith, place_below n t.order places once placed a l, once_length n t.order once)) in
      record {
        few = few_of most n ts (and_right w k h2) a l;
        ends = λ b lb m. let small = inside out b lb m (bool_cases (ltb b n)) in (
          small,
          λ q. never (marked ts a a) (rw q at m) (irreflexive_of n ts (and_right s i h1) a l),
          sym (symmetric_of n ts (and_left s i h1) a b l small) ∙ m,
        );
        later = le_trans (le_of_eq (later_count_is a l out)) (rw (place_of n t.order places once placed a l) at at);
        high = le_trans (leb-true (num a) (count (λ b. marked ts a b && leb (num a) (num b)) (range 0 n))
            (all_below (λ v. leb (num v) (count (λ b. marked ts v b && leb (num v) (num b)) (range 0 n))) n e a l)) (le_of_eq (sym (high_count_is a out)));
      }
    where
      inside : Below a → (b : ℕ) → b < max_radios → marked ts a b ≡ true → (ltb b n ≡ true) ⊎ (ltb b n ≡ false) → b < n
      inside out b lb m (inl q) = ltb-true b n q
      inside out b lb m (inr q) = never (marked ts a b) m (out b (ltb-false b n q) lb)

  -- soundness, row by row
  pub sound_rows : sound_within most n t ≡ (rising num t.order && rows)
  unfolding sound_within
  sound_rows = iff_eq (sound_within most n t) (rising num t.order && rows) to from
    where
      o : Bool
      o = each_once n t.order

      r : Bool
      r = rising num t.order

      f : Bool
      f = few_later (marked ts) num t.order

      e : Bool
      e = enough n (marked ts) num

      p : Bool
      p = rows_proper most n ts

      to : sound_within most n t ≡ true → (r && rows) ≡ true
      to h =
          let h1 = and_right p (o && (r && (f && e))) h in
          let h2 = and_right o (r && (f && e)) h1 in
          let h3 = and_right r (f && e) h2 in
          and_both r rows (and_left r (f && e) h2)
          (below_all (row_good most n t.links t.numbers places) n
          (λ a l. of_good a (good_row (and_left p (o && (r && (f && e))) h) (and_left f e h3) (and_right f e h3) a l)))

      from : (r && rows) ≡ true → sound_within most n t ≡ true
      from h =
          let g = rows_good (and_right r rows h) in
          and_both p (o && (r && (f && e))) (good_proper g) (and_both o (r && (f && e)) (of_each_once n t.order once)
          (and_both r (f && e) (and_left r rows h) (and_both f e (few_good g) (enough_good g))))
