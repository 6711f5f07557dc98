-- The order of sound tables, by the table of places, and the radios at which a pair may begin.
--   places_ordered    what the places say of the graph (`Ordered`)
--   tight_is          the table's test of a radio is the graph's
--   LaterCounting    the later ones of the first i listed radios are counted
use Rattle.std.specs.Prelude.{◌≡◌, ◌∷◌, ◌+◌, ◌/◌, ◌≤◌, ◌<◌}
use Rattle.lists.{specs.Kit.{sym, ap, subst, ◌∙◌, Bool, false, cond, List, [], ℕ, zero, suc, arith, add-one, le_trans, le_of_eq}}
use Rattle.lists.{specs.Kit.{ltb, eqb, length, get_or, drop, drop_of_length-le, drop-cons, eq-eqb, ne_eqb, le-leb, lt-leb, lt-ltb, le-ltb}, specs.Lists.{In}}
use Rattle.lists.{specs.Lists.{EntriesBelow, count, range, filter}, specs.Facts.{Rising, EachOnce}, proofs.Tests.{bit_one, byte_bit}}
use Rattle.lists.{proofs.Member.{get_d_of_in, in_get_d}, proofs.Range.{once_in, once_length, range_in}, proofs.Filter.{count_filter, in_filter}}
use mir.Val.{bool_byte}
use Rattle.mesh.{specs.Limits.{max_radios, row_bytes}, specs.Graph.{Graph, radios, linked, neighbours_in}, specs.Cores.{number}, specs.Tables.{Tables, tables}}
use Rattle.mesh.{specs.Tables.{graph_in}, proofs.Cores.Certificate.{Certificate}, proofs.Cores.KOrders.{k_order_certificate}}
use Rattle.rows.{specs.Rows.{neighbours_of}, proofs.RowListLaws.{neighbours_of_linked}}
use Rattle.conditions.{specs.Conditions.{later_count}, proofs.RowByRow.{place_of, count_later, few_later_at}}
use Rattle.soundness.proofs.SoundSite.{number_entry}
use Rattle.lifting.specs.Tight.{later, Ordered, tight, first_end}
use Rattle.lift.specs.{Peels.{graph_of, SoundLinks}, Search.{SearchPlaces, later_than, place_in, is_tight}}
use Rattle.lift.proofs.PeelSteps.{links_site, links_valid}
use Rattle.rows.specs.Sets.{in_set}

rising_at : (num : ℕ → ℕ) (xs : List ℕ) → Rising num xs → (i j : ℕ) → i < j → j < length xs → num (get_or xs i 0) ≤ num (get_or xs j 0)
rising_at num [] r i j l m = absurd (omega arith)
rising_at num (x ∷ xs) r i zero l m = absurd (omega arith)
rising_at num (x ∷ xs) r zero (suc j) l m = r.0 (get_or xs j 0) (in_get_d xs j (omega arith))
rising_at num (x ∷ xs) r (suc i) (suc j) l m = rising_at num xs r.1 i j (omega arith) (omega arith)

module _ (links numbers places : List ℕ) (s : SearchPlaces links numbers places) where
  abbrev g : Graph
  g = graph_of links

  abbrev n : ℕ
  n = length links / row_bytes

  abbrev t : Tables
  t = tables links numbers s.order

  abbrev place : ℕ → ℕ
  place = place_in places

  abbrev pub places_links : SoundLinks links
  places_links = record { numbers = numbers; order = s.order; is_sound = s.is_sound }

  pub places_radios : length links / row_bytes ≡ length numbers
  places_radios = sym (links_site links places_links).numbers_long

  pub places_small : length numbers ≤ max_radios
  places_small = omega (arith, places_radios, (links_site links places_links).small)

  certified : Certificate g (number g) s.order
  certified = k_order_certificate g s.order (links_valid links places_links).k_order

  once : EachOnce n s.order
  unfolding graph_in
  once = certified.once

  at_place : (v : ℕ) → v < n → get_or s.order (place v) 0 ≡ v
  at_place v l = place_of n s.order places once s.placed v l

  place_low : (v : ℕ) → v < n → place v < length s.order
  place_low v l =
      let r = get_d_of_in v s.order (once_in n s.order once v l) in
      let q : place v ≡ r.0 = ap place (sym r.2) ∙ s.placed.at r.0 (omega (arith, r.1, once_length n s.order once)) in
      omega (arith, r.1)

  later_order : (v : ℕ) → v < n → later g place v ≡ count (linked g v) (drop (suc (place v)) s.order)
  unfolding later neighbours_in radios graph_in
  later_order v l = sym (count_later n s.order places once s.placed (linked g v) (suc (place v)))

  pub places_ordered : Ordered g place
  unfolding graph_in
  places_ordered = record {
    rises = λ v w lv lw less.
        let h = rising_at (number g) s.order certified.rising (place v) (place w) less (place_low w lw) in
        omega (arith, h, ap (number g) (at_place v lv), ap (number g) (at_place w lw));
    apart = λ v w lv lw e. sym (at_place v lv) ∙ ap (λ (i : ℕ). get_or s.order i 0) e ∙ at_place w lw;
    few = λ v lv.
        let h = few_later_at (linked g) (number g) s.order certified.few (place v) (place_low v lv) in
        le_trans (le_of_eq (later_order v lv)) (rw (at_place v lv) at h);
  }

  later_is : (v : ℕ) → v < n → later_count places v (neighbours_of links v) ≡ later g place v
  unfolding later_count later neighbours_in radios graph_in
  later_is v l =
      let site = links_site links places_links in
      let f : ℕ → Bool = λ w. ltb (place v) (place w) in
      ap (count f) (neighbours_of_linked n links site.small site.symmetric site.irreflexive site.within v l)
      ∙ count_filter f (linked g v) (range 0 n)

  pub tight_is : (k r v : ℕ) → v < n → is_tight k r links numbers places v ≡ tight g place k r v
  unfolding is_tight tight
  tight_is k r v l = rw (number_entry n t (links_site links places_links) v l, later_is v l)

-- ---- is_tight

module _ (k r : ℕ) (ts ns ps : List ℕ) (v : ℕ) where
  pub tight_other : (get_or ns v 0 ≡ k → ⊥) → false ≡ is_tight k r ts ns ps v
  unfolding is_tight
  tight_other ne = rw (ne_eqb (get_or ns v 0) k ne)

  pub tight_late : get_or ns v 0 ≡ k → get_or ps r 0 < get_or ps v 0 → false ≡ is_tight k r ts ns ps v
  unfolding is_tight
  tight_late e l = rw (eq-eqb (get_or ns v 0) k e, lt-leb (get_or ps v 0) (get_or ps r 0) l)

  pub tight_test : (x : ℕ) → get_or ns v 0 ≡ k → get_or ps v 0 ≤ get_or ps r 0 → x ≡ later_count ps v (neighbours_of ts v) → eqb x k ≡ is_tight k r ts ns ps v
  unfolding is_tight
  tight_test x e l q = rw (eq-eqb (get_or ns v 0) k e, le-leb (get_or ps v 0) (get_or ps r 0) l, q)

-- ---- the first end

pub first_second : (ps ks : List ℕ) (a c : ℕ) (x : Bool) → get_or ps c 0 < get_or ps a 0 → x ≡ in_set ks c → x ≡ in_set ks (first_end (place_in ps) a c)
unfolding first_end
first_second ps ks a c x l e = rw (lt-ltb (get_or ps c 0) (get_or ps a 0) l) e

pub first_own : (ps ks : List ℕ) (a c : ℕ) (x : Bool) → get_or ps a 0 ≤ get_or ps c 0 → x ≡ in_set ks a → x ≡ in_set ks (first_end (place_in ps) a c)
unfolding first_end
first_own ps ks a c x l e = rw (le-ltb (get_or ps c 0) (get_or ps a 0) l) e

-- ---- later neighbours counted

-- m of the first i entries are later than the place p
pub record LaterCounting (p : ℕ) (ps xs : List ℕ) (i m : ℕ) : Type 0 where
  pub low : i ≤ length xs
  pub few : m ≤ i
  pub is : m + later_than p ps (drop i xs) ≡ later_than p ps xs

module _ (p : ℕ) (ps xs : List ℕ) where
  pub later_turn : (i m x : ℕ) → i < length xs → x ≡ get_or xs i 0 → LaterCounting p ps xs i m
      → LaterCounting p ps xs (i + 1) (m + bool_byte (ltb p (get_or ps x 0)))
  unfolding later_than count
  later_turn i m x l e h = go (rw (add-one i) (drop-cons xs i 0 l ∙ ap (λ (y : ℕ). y ∷ drop (suc i) xs) (sym e)))
    where
      go : drop i xs ≡ x ∷ drop (i + 1) xs → LaterCounting p ps xs (i + 1) (m + bool_byte (ltb p (get_or ps x 0)))
      go cut =
          let one = byte_bit (ltb p (get_or ps x 0)) in
          let r : later_than p ps (drop i xs) ≡ cond (ltb p (get_or ps x 0)) 1 0 + later_than p ps (drop (i + 1) xs) = ap (later_than p ps) cut in
          record { low = omega arith; few = omega (arith, h.few, one, bit_one (ltb p (get_or ps x 0))); is = omega (arith, h.is, r, one) }

  pub later_end : (i m : ℕ) → length xs ≤ i → LaterCounting p ps xs i m → m ≡ later_than p ps xs
  unfolding later_than count
  later_end i m l h = omega (arith, h.is, ap (later_than p ps) (drop_of_length-le xs l))

-- the neighbours that `row_neighbours` lists have places
module _ (links : List ℕ) (s : SoundLinks links) (v : ℕ) (l : v < length links / row_bytes) (ps : List ℕ) where
  pub near_placed : (xs : List ℕ) → xs ≡ neighbours_of links v → EntriesBelow max_radios xs
  near_placed xs e i q =
      let n = length links / row_bytes in
      let site = links_site links s in
      let is = neighbours_of_linked n links site.small site.symmetric site.irreflexive site.within v l in
      let f : ℕ → Bool = linked (graph_in n links) v in
      let in_row : In (get_or xs i 0) (filter f (range 0 n)) = subst (In (get_or xs i 0)) (e ∙ is) (in_get_d xs i q) in
      omega (arith, site.small, (range_in 0 n (get_or xs i 0) (in_filter f (range 0 n) (get_or xs i 0) in_row).0).1)

  pub near_later : (xs : List ℕ) (x : ℕ) → xs ≡ neighbours_of links v → x ≡ later_than (get_or ps v 0) ps xs → x ≡ later_count ps v (neighbours_of links v)
  unfolding later_than later_count
  near_later xs x e q = q ∙ ap (later_than (get_or ps v 0) ps) e
