-- The level that a link call peels, from sound tables and a call that is allowed: its stretch, its radios, the neighbours after
-- the call.
use Rattle.std.specs.Prelude.{◌≡◌, ◌⊎◌, ◌&&◌, ◌++◌, ◌+◌, ◌-◌, ◌≤◌, ◌<◌}
use Rattle.lists.{specs.Kit.{refl, sym, ap, ap₂, ◌∙◌, inl, inr, Bool, true, false, cond, List, ℕ, min, arith, ltb}}
use Rattle.lists.{specs.Kit.{eqb, length, get_or, length-append, ltb-true, ltb-false, eqb-true, eq-eqb}, specs.Lists.{count, In}, specs.Facts.{EachOnce}}
use Rattle.lists.{proofs.Tests.{bool_cases, never, and_left, and_right}, proofs.Filter.{in_filter, filter_in}, proofs.Range.{once_in, once_below}}
use Rattle.lists.{proofs.Member.{in_get_d, get_d_of_in}, proofs.Count.{count_map}}
use Rattle.mesh.{specs.Limits.{max_radios, max_neighbours}, specs.Graph.{Graph, radios, linked, neighbours_among, degree, relinked, proper}}
use Rattle.mesh.{specs.Cores.{number, numbers}, specs.Levels.{lower_level, stretch_start, stretch_length}, specs.Tables.{tables, marked, put_link, graph_in}}
use Rattle.mesh.{specs.Sound.{symmetric, irreflexive, within, few, rows_proper, sound}, proofs.GraphLaws.{ends, ends_of, linked_self, linked_sym}}
use Rattle.mesh.{proofs.Cores.Certificate.{Certificate}, proofs.Cores.Peeling.{get_d_numbers}, proofs.Cores.KOrders.{k_order_certificate}}
use Rattle.mesh.{proofs.Links.LevelCut.{lows, mids, highs, level_cut, stretch_start_is, stretch_length_is, take_level, drop_above}}
use Rattle.mesh.{proofs.Links.Call.{relinked_proper}, proofs.Links.Laws.{link_valid}, specs.Valid.{Valid}, proofs.Tables.Rows.{within_of, few_of}}
use Rattle.mesh.{proofs.Tables.Rows.{linked_within, row_degree_count}, proofs.Tables.Laws.{marked_put_link}, proofs.Tables.Relinked.{linked_relinked}}
use Rattle.mesh.{proofs.Tables.ReadBack.{proper_graph_in, ascending_graph_in, linked_graph_in, degree_graph_in}, proofs.Tables.Soundness.{Right, sound_right}}
use Rattle.rows.{specs.Rows.{neighbours_of}, proofs.RowListLaws.{length_neighbours_of}}
use Rattle.plan.specs.{Plans.{Ready}, Places.{level_start, level_size}, Peels.{stretch, above, linked_after, Level}}
use Rattle.plan.proofs.StretchLoops.{length_stretch, get_d_stretch}

-- ---- laws of lists

module _ {u : Bool} {a b : ℕ} {ts ns os ps cs : List ℕ} (r : Ready u (length os) a b (tables ts ns os) ps cs) where
  abbrev n : ℕ
  n = length os

  abbrev g : Graph
  g = graph_in n ts

  abbrev after : Graph
  after = relinked u a b g

  abbrev num : ℕ → ℕ
  num = number g

  -- ---- what soundness says

  right : Right max_neighbours n (tables ts ns os)
  unfolding sound
  right = sound_right max_neighbours n (tables ts ns os) r.numbers_length r.is_sound

  pub is_symmetric : symmetric n ts ≡ true
  unfolding rows_proper
  is_symmetric = and_left (symmetric n ts) (irreflexive n ts)
      (and_left (symmetric n ts && irreflexive n ts) (within n ts && few max_neighbours n ts) right.rows)

  pub is_irreflexive : irreflexive n ts ≡ true
  unfolding rows_proper
  is_irreflexive = and_right (symmetric n ts) (irreflexive n ts)
      (and_left (symmetric n ts && irreflexive n ts) (within n ts && few max_neighbours n ts) right.rows)

  pub is_within : within n ts ≡ true
  unfolding rows_proper
  is_within = and_left (within n ts) (few max_neighbours n ts)
      (and_right (symmetric n ts && irreflexive n ts) (within n ts && few max_neighbours n ts) right.rows)

  is_few : few max_neighbours n ts ≡ true
  unfolding rows_proper
  is_few = and_right (within n ts) (few max_neighbours n ts)
      (and_right (symmetric n ts && irreflexive n ts) (within n ts && few max_neighbours n ts) right.rows)

  pub is_valid : Valid max_neighbours g os
  unfolding graph_in
  is_valid = record {
    links_proper = proper_graph_in n ts;
    links_ascending = ascending_graph_in n ts;
    degrees = λ v l. omega (arith, degree_graph_in n ts r.small is_symmetric is_irreflexive is_within v l, few_of max_neighbours n ts is_few v l);
    k_order = right.k_order;
  }

  pub certified : Certificate g num os
  certified = k_order_certificate g os is_valid.k_order

  pub is_once : EachOnce n os
  unfolding graph_in
  is_once = certified.once

  pub number_is : (v : ℕ) → v < n → get_or ns v 0 ≡ num v
  unfolding graph_in
  number_is v l = ap (λ (xs : List ℕ). get_or xs v 0) right.core_numbers ∙ get_d_numbers g v l

  pub a_below : a < n
  unfolding graph_in
  a_below = r.allowed.a_radio

  pub b_below : b < n
  unfolding graph_in
  b_below = r.allowed.b_radio

  pub order_radios : (p : ℕ) → p < n → get_or os p 0 < n
  order_radios p l = once_below n os is_once (get_or os p 0) (in_get_d os p l)

  pub level_is : min (get_or ns a 0) (get_or ns b 0) ≡ lower_level g a b
  unfolding lower_level
  level_is = ap₂ min (number_is a a_below) (number_is b b_below)

  -- ---- the stretch

  module _ (k : ℕ) where
    abbrev start : ℕ
    start = level_start ns k

    abbrev size : ℕ
    size = level_size ns k

    pub start_is : start ≡ stretch_start g k
    unfolding stretch_start numbers
    start_is = ap (count (λ x. ltb x k)) right.core_numbers ∙ count_map (λ x. ltb x k) num (radios g)

    pub size_is : size ≡ stretch_length g k
    unfolding stretch_length numbers
    size_is = ap (count (λ x. eqb x k)) right.core_numbers ∙ count_map (λ x. eqb x k) num (radios g)

    cut : os ≡ lows num k os ++ (mids num k os ++ highs num k os)
    cut = level_cut num k os certified.rising

    start_lows : start ≡ length (lows num k os)
    start_lows = start_is ∙ stretch_start_is g k os certified.once

    size_mids : size ≡ length (mids num k os)
    size_mids = size_is ∙ stretch_length_is g k os certified.once

    pub stretch_is : stretch os start size ≡ mids num k os
    stretch_is = take_level (lows num k os) (mids num k os) (highs num k os) os start size cut start_lows size_mids

    pub above_is : above os start size ≡ highs num k os
    above_is = drop_above (lows num k os) (mids num k os) (highs num k os) os start size cut start_lows size_mids

    pub stretch_fits : start + size ≤ n
    stretch_fits =
        omega (
          arith,
          ap length cut,
          length-append (lows num k os) (mids num k os ++ highs num k os),
          length-append (mids num k os) (highs num k os),
          start_lows,
          size_mids,
        )

    pub stretch_number : (v : ℕ) → In v (stretch os start size) → (v < n) × (num v ≡ k)
    stretch_number v i =
        let m = in_filter (λ v. eqb (num v) k) os v (rw stretch_is at i) in (once_below n os is_once v m.0, eqb-true (num v) k m.1)

    -- ---- neighbours after the call

    after_proper : proper after.n after.links ≡ true
    after_proper = relinked_proper max_neighbours u a b g os is_valid r.allowed

    linked_past : (v w : ℕ) → n ≤ w → linked after v w ≡ false
    unfolding relinked graph_in
    linked_past v w h = linked_within after after_proper v w h

    -- k is the lower end's level
    placed_at : k ≡ min (get_or ns a 0) (get_or ns b 0) → (p : ℕ) → start ≤ p → p < start + size → get_or ps (get_or os p 0) 0 ≡ p
    placed_at ek p low high =
        let e : k ≡ lower_level g a b = ek ∙ level_is in
        let s : start ≡ stretch_start g (lower_level g a b) = start_is ∙ ap (stretch_start g) e in
        let z : size ≡ stretch_length g (lower_level g a b) = size_is ∙ ap (stretch_length g) e in
        r.placed p (omega (arith, stretch_fits)) (omega arith) (omega arith)

    stands_at : k ≡ min (get_or ns a 0) (get_or ns b 0) → (v j : ℕ) → j < size → get_or (stretch os start size) j 0 ≡ v
        → (start ≤ get_or ps v 0) × (get_or ps v 0 < start + size) × (get_or os (get_or ps v 0) 0 ≡ v)
    stands_at ek v j l e =
        let is : get_or os (start + j) 0 ≡ v = sym (get_d_stretch os start size j l) ∙ e in
        let at : get_or ps v 0 ≡ start + j = ap (λ (x : ℕ). get_or ps x 0) (sym is) ∙ placed_at ek (start + j) (omega arith) (omega arith) in
        (omega arith, omega arith, ap (λ (x : ℕ). get_or os x 0) at ∙ is)

    pub is_level : k ≡ min (get_or ns a 0) (get_or ns b 0) → Level (linked_after u a b n ts) ns os ps k start size
    is_level ek = record {
      small = r.small;
      numbers_length = r.numbers_length;
      places_length = r.places_length;
      fits = stretch_fits;
      radios = order_radios;
      placed = placed_at ek;
      numbered = numbered_at;
      stands = λ v l e. (
          let m = get_d_of_in v (stretch os start size)
          (rw stretch_is (filter_in (λ v. eqb (num v) k) os v (once_in n os is_once v l) (eq-eqb (num v) k (sym (number_is v l) ∙ e)))) in
          stands_at ek v m.0 (omega (arith, m.1, length_stretch os start size stretch_fits)) m.2);
      within = λ v w h. past v w h (bool_cases (ltb w n));
      irreflexive = linked_self after after_proper;
      symmetric = linked_sym after;
    }
      where
        numbered_at : (p : ℕ) → start ≤ p → p < start + size → get_or ns (get_or os p 0) 0 ≡ k
        numbered_at p low high =
            let i : start + (p - start) ≡ p = omega arith in
            let at : get_or (stretch os start size) (p - start) 0 ≡ get_or os p 0 =
            get_d_stretch os start size (p - start) (omega arith) ∙ ap (λ (x : ℕ). get_or os x 0) i in
            let m = stretch_number (get_or os p 0) (rw at at
            (in_get_d (stretch os start size) (p - start) (omega (arith, length_stretch os start size stretch_fits)))) in
            number_is (get_or os p 0) m.0 ∙ m.1

        past : (v w : ℕ) → linked after v w ≡ true → (ltb w n ≡ true) ⊎ (ltb w n ≡ false) → w < n
        past v w h (inl e) = ltb-true w n e
        past v w h (inr e) = never (linked after v w) h (linked_past v w (ltb-false w n e))

    pub row_is : (v w : ℕ) → v < n → w < max_radios → marked (put_link u a b ts) v w ≡ linked_after u a b n ts v w
    row_is v w l lw = marked_put_link u n a b ts v w r.small r.links_length a_below b_below lw ∙ go (bool_cases (ltb w n))
      where
        relinked_is : linked after v w ≡ cond (ends a b v w) u (linked g v w)
        relinked_is = linked_relinked u a b g is_valid.links_proper is_valid.links_ascending r.allowed.a_radio r.allowed.b_radio
            r.allowed.differ v w

        not_ends : n ≤ w → (t : Bool) → ends a b v w ≡ t → cond t u (marked ts v w) ≡ false
        not_ends h true e = absurd (no (ends_of a b v w e))
          where
            no : ((v ≡ a) × (w ≡ b)) ⊎ ((v ≡ b) × (w ≡ a)) → ⊥
            no (inl q) = omega (arith, q.1, b_below)
            no (inr q) = omega (arith, q.1, a_below)
        not_ends h false e = within_of n ts is_within v w l h lw

        go : (ltb w n ≡ true) ⊎ (ltb w n ≡ false) → cond (ends a b v w) u (marked ts v w) ≡ linked after v w
        go (inl e) = ap (cond (ends a b v w) u) (sym (linked_graph_in n ts is_symmetric is_irreflexive v w l (ltb-true w n e))) ∙ sym relinked_is
        go (inr e) =
            let h = ltb-false w n e in not_ends h (ends a b v w) refl ∙ sym (linked_past v w h)

    pub row_few : (v : ℕ) → v < n → length (neighbours_of (put_link u a b ts) v) ≤ max_neighbours
    unfolding degree neighbours_among radios relinked graph_in
    row_few v l =
        omega (
          arith,
          length_neighbours_of (put_link u a b ts) v,
          row_degree_count n (put_link u a b ts) v (linked after v) r.small (λ w lw. row_is v w l (omega (arith, r.small)))
              (λ w nw lw. row_is v w l lw ∙ linked_past v w nw),
          (link_valid max_neighbours u a b g os is_valid r.allowed).degrees v l,
        )
