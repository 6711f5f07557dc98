-- The search over pairs: candidates marked, a lower end done, all done.
--   trying_start    the marked radios are the higher ends of a's candidates
--   end-..          the lower end a is done: it may be none, or it has no candidates
--   pair-..         the first pair, or none
use Rattle.std.specs.Prelude.{◌≡◌, ◌⊎◌, ◌&&◌, ◌/◌, ◌≤◌, ◌<◌}
use Rattle.lists.{specs.Kit.{refl, sym, subst, ◌∙◌, inl, inr, Bool, true, false, not, cond, List, ℕ, min, arith, ltb, leb}}
use Rattle.lists.{specs.Kit.{eqb, length, get_or, eqb-true, eq-eqb, ltb-true, lt-ltb, le-leb, lt-leb, leb-true}}
use Rattle.lists.{specs.Kit.{leb-false, not-true}, proofs.Tests.{bool_cases, never, and_left, and_right, and_both}}
use Rattle.mesh.{specs.Limits.{max_radios, max_neighbours, row_bytes}, specs.Graph.{Graph, link_of, linked, degree}, specs.Cores.{number}}
use Rattle.mesh.{specs.Levels.{lower_level}, specs.Tables.{tables, marked}, specs.Valid.{Valid}}
use Rattle.calls.specs.{Questions.{can_switch, has_room}, Lift.{lifts}}
use Rattle.rows.specs.Rows.{row_count}
use Rattle.soundness.proofs.SoundSite.{linked_marked, degree_counted}
use Rattle.lifting.{specs.Search.{candidate, NoneBelow}, specs.Tight.{later, tight, first_end}, proofs.Pairs.{candidate_refutes, candidate_allowed}}
use Rattle.lifting.{proofs.Tight.{tight_refutes}, proofs.Search.{first_found, none_found}}
use Rattle.lift.specs.{Counters.{room_left}, Peels.{graph_of}, Tries.{SearchSite, Trying}, Search.{is_free}}
use Rattle.lift.specs.{Search.{SearchPlaces, place_in, is_tight, may_lift, HigherEnd, PairFound}}
use Rattle.lift.proofs.{PeelSteps.{links_site, links_valid}, OrderLaws.{places_ordered, tight_is}, TrySteps.{candidate_level}}
use Rattle.lift.proofs.{TrySteps.{site_links, site_radios, graph_radios, site_small, number_is, level_is}}
use Rattle.rows.specs.Sets.{in_set, common}
use Rattle.rows.specs.Rows.{first_in}
use Rattle.std.specs.Prelude.{None, Some}
use Rattle.lift.proofs.SetLaws.{lowest_none}
use Rattle.lift.specs.Peels.{Has}

-- a candidate, from its parts
candidate_made : (g : Graph) (k a c : ℕ) → min (number g a) (number g c) ≡ k → linked g a c ≡ false → degree g a < max_neighbours → degree g c < max_neighbours
    → candidate g k a c ≡ true
unfolding candidate lower_level can_switch has_room
candidate_made g k a c e l da dc = rw (
  eq-eqb (min (number g a) (number g c)) k e,
  l,
  lt-ltb (degree g a) max_neighbours da,
  lt-ltb
      (degree g c) max_neighbours dc,
)

module _ (links numbers not_lower : List ℕ) (s : SearchSite links numbers not_lower) (r : ℕ) (lr : r < length numbers) where
  abbrev g : Graph
  g = graph_of links

  abbrev k : ℕ
  k = get_or numbers r 0

  valid : Valid max_neighbours g s.order
  valid = links_valid links (site_links links numbers not_lower s)

  lr_graph : r < g.n
  lr_graph = omega (arith, graph_radios links numbers not_lower s)

  kr : number g r ≡ k
  kr = level_is links numbers not_lower s r lr

  row_degree_is : (v : ℕ) → v < length numbers → row_count max_neighbours links v ≡ degree g v
  row_degree_is v l =
      degree_counted (length links / row_bytes) (tables links numbers s.order) (links_site links (site_links links numbers not_lower s)) v
      (omega (arith, site_radios links numbers not_lower s))

  linked_is : (v w : ℕ) → v < length numbers → w < length numbers → linked g v w ≡ marked links v w
  linked_is v w l m =
      linked_marked (length links / row_bytes) (tables links numbers s.order) (links_site links (site_links links numbers not_lower s)) v w
      (omega (arith, site_radios links numbers not_lower s)) (omega (arith, site_radios links numbers not_lower s))

  -- a radio of a set of those that pass a test
  passes : (f : ℕ → Bool) (set : List ℕ) → Has (length numbers) f set → (v : ℕ) → v < length numbers → in_set set v ≡ f v
  passes f set h v l = h v (omega (arith, l, site_small links numbers not_lower s)) ∙ rw (lt-ltb v (length numbers) l) refl

  module _ (free : List ℕ) (fr : Has (length numbers) (is_free k links numbers) free) where
    free_is : (v : ℕ) → v < length numbers → in_set free v ≡ true → (k ≤ number g v) × (degree g v < max_neighbours)
    unfolding is_free room_left
    free_is v l e =
        let both : (leb k (get_or numbers v 0) && ltb (row_count max_neighbours links v) max_neighbours) ≡ true = sym (passes (is_free k links numbers) free fr v l) ∙ e in (
          omega (
            arith,
            number_is links numbers not_lower s v l,
            leb-true k (get_or numbers v 0) (and_left (leb k (get_or numbers v 0)) (ltb
                (row_count max_neighbours links v) max_neighbours) both),
          ),
          omega (
            arith,
            row_degree_is v l,
            ltb-true (row_count max_neighbours links v) max_neighbours (and_right (leb k (get_or numbers v 0)) (ltb
                (row_count max_neighbours links v) max_neighbours) both),
          ),
        )

    is_free_of : (v : ℕ) → v < length numbers → k ≤ number g v → degree g v < max_neighbours → in_set free v ≡ true
    unfolding is_free room_left
    is_free_of v l h d =
        passes (is_free k links numbers) free fr v l
        ∙ and_both (leb k (get_or numbers v 0)) (ltb (row_count max_neighbours links v) max_neighbours) (le-leb k (get_or numbers v 0) (omega
        (arith, number_is links numbers not_lower s v l)))
        (lt-ltb (row_count max_neighbours links v) max_neighbours (omega (arith, row_degree_is v l)))

    module _ (places tight_row : List ℕ) (o : SearchPlaces links numbers places) (tr : Has (length numbers) (is_tight k r links numbers places) tight_row) (a : ℕ)
        (la : a < length numbers) where
      abbrev first : ℕ → ℕ
      first c = first_end (place_in places) a c

      first_radio : (c : ℕ) → c < length numbers → first c < length numbers
      unfolding first_end
      first_radio c lc = at (bool_cases (ltb (place_in places c) (place_in places a)))
        where
          at : (ltb (place_in places c) (place_in places a) ≡ true) ⊎ (ltb (place_in places c) (place_in places a) ≡ false)
              → cond (ltb (place_in places c) (place_in places a)) c a < length numbers
          at (inl q) = rw q lc
          at (inr q) = rw q la

      tight_at : (c : ℕ) → c < length numbers → in_set tight_row (first c) ≡ tight g (place_in places) k r (first c)
      tight_at c lc =
          passes (is_tight k r links numbers places) tight_row tr (first c) (first_radio c lc)
          ∙ tight_is links numbers places o k r (first c) (omega (arith, first_radio c lc, site_radios links numbers not_lower s))

      -- a tight end has the level
      lower_is : (c : ℕ) → c < length numbers → k ≤ number g a → k ≤ number g c → in_set tight_row (first c) ≡ true → min (number g a) (number g c) ≡ k
      unfolding tight first_end
      lower_is c lc ha hc e = at (bool_cases (ltb (place_in places c) (place_in places a))) level
        where
          level : number g (first c) ≡ k
          level =
              eqb-true (number g (first c)) k
              (and_left (eqb (number g (first c)) k) (leb (place_in places (first c)) (place_in places r) && eqb (later g (place_in places) (first c)) k)
              (sym (tight_at c lc) ∙ e))

          at : (ltb (place_in places c) (place_in places a) ≡ true) ⊎ (ltb (place_in places c) (place_in places a) ≡ false)
              → number g (cond (ltb (place_in places c) (place_in places a)) c a) ≡ k → min (number g a) (number g c) ≡ k
          at (inl q) e = let h : number g c ≡ k = rw q at e in omega (arith, ha, hc, h)
          at (inr q) e = let h : number g a ≡ k = rw q at e in omega (arith, ha, hc, h)

      may_candidate : in_set free a ≡ true → (c : ℕ) → c < length numbers → may_lift a links places free tight_row c ≡ true
          → (a < c) × (candidate g k a c ≡ true)
      unfolding may_lift
      may_candidate on c lc e =
          let begins = in_set tight_row (first c) in
          let rest = and_right (ltb a c) (in_set free c && (begins && not (marked links a c))) e in
          let last = and_right (in_set free c) (begins && not (marked links a c)) rest in
          let own = free_is a la on in
          let other = free_is c lc (and_left (in_set free c) (begins && not (marked links a c)) rest) in (
            ltb-true a c (and_left (ltb a c) (in_set free c && (begins && not (marked links a c))) e),
            candidate_made g k a c (lower_is c lc own.0 other.0 (and_left begins (not (marked links a c)) last))
                (linked_is a c la lc ∙ not-true (marked links a c) (and_right begins (not (marked links a c)) last)) own.1 other.1,
          )

      -- a candidate that begins at a tight end is marked
      candidate_free : (c : ℕ) → a < c → c < length numbers → candidate g k a c ≡ true → in_set free a ≡ true
      candidate_free c ac lc e =
          let level = candidate_level g k a c e in
          let room = (candidate_allowed g k a c ac (omega (arith, graph_radios links numbers not_lower s)) e).room refl in
          is_free_of a la (omega (arith, level)) room.0

      candidate_may : (c : ℕ) → a < c → c < length numbers → candidate g k a c ≡ true → in_set tight_row (first c) ≡ true
          → may_lift a links places free tight_row c ≡ true
      unfolding may_lift
      candidate_may c ac lc e begins =
          let level = candidate_level g k a c e in
          let ok = candidate_allowed g k a c ac (omega (arith, graph_radios links numbers not_lower s)) e in
          let room = ok.room refl in
          rw (lt-ltb a c ac, is_free_of c lc (omega (arith, level)) room.1, begins, sym (linked_is a c la lc) ∙ ok.state)

      -- and a pair that is not marked does not lift r
      not_lifts : (c : ℕ) → a < c → c < length numbers → may_lift a links places free tight_row c ≡ false → lifts g r (link_of a c) ≡ false
      not_lifts c ac lc off = at (bool_cases (candidate g k a c)) (bool_cases (in_set tight_row (first c)))
        where
          at : (candidate g k a c ≡ true) ⊎ (candidate g k a c ≡ false) → (in_set tight_row (first c) ≡ true) ⊎ (in_set tight_row (first c) ≡ false)
              → lifts g r (link_of a c) ≡ false
          at (inr q) z = candidate_refutes g s.order valid k r a c lr_graph kr q
          at (inl q) (inr z) =
              tight_refutes g s.order valid (place_in places) (places_ordered links numbers places o) k r a c lr_graph kr (sym (tight_at c lc) ∙ z)
          at (inl q) (inl z) = never (may_lift a links places free tight_row c) (candidate_may c ac lc q z) off

      pub end_closed : in_set free a ≡ false → HigherEnd links r a None
      end_closed off = λ c ac l. candidate_refutes g s.order valid k r a c lr_graph kr (not_candidate c ac (omega
          (arith, graph_radios links numbers not_lower s)) (bool_cases (candidate g k a c)))
        where
          not_candidate : (c : ℕ) → a < c → c < length numbers → (candidate g k a c ≡ true) ⊎ (candidate g k a c ≡ false) → candidate g k a c ≡ false
          not_candidate c ac lc (inr q) = q
          not_candidate c ac lc (inl q) = never (in_set free a) (candidate_free c ac lc q) off

      pub end_number : in_set free a ≡ true → k ≤ number g a
      end_number on = (free_is a la on).0

      module _ (on : in_set free a ≡ true) (new : List ℕ) (m : Has (length numbers) (may_lift a links places free tight_row) new) where
        pub trying_start : Trying links r a new
        trying_start = record {
          candidates = λ c lc q. own c lc q (bool_cases (ltb c (length numbers)));
          rest = λ c ac lc q. not_lifts c ac (omega (arith, lc, graph_radios links numbers not_lower s))
              (sym (passes (may_lift a links places free tight_row) new m c (omega (arith, lc, graph_radios links numbers not_lower s))) ∙ q);
        }
          where
            own : (c : ℕ) → c < max_radios → in_set new c ≡ true → (ltb c (length numbers) ≡ true) ⊎ (ltb c (length numbers) ≡ false)
                → (a < c) × (c < g.n) × (candidate g (number g r) a c ≡ true)
            own c lc q (inl e) =
                let l = ltb-true c (length numbers) e in
                let is = may_candidate on c l (sym (passes (may_lift a links places free tight_row) new m c l) ∙ q) in
                (is.0, omega (arith, l, graph_radios links numbers not_lower s), subst (λ (x : ℕ). candidate g x a c ≡ true) (sym kr) is.1)
            own c lc q (inr e) = never (in_set new c) q (m c lc ∙ rw e refl)

  -- ---- a lower end done

  -- no pair of a may lift
  pub end_empty : (a : ℕ) (untried : List ℕ) → Trying links r a untried → None ≡ first_in (common untried untried) → HigherEnd links r a None
  end_empty a untried try e =
      λ c ac l. try.rest c ac l (lowest_none untried e c (omega (arith, l, graph_radios links numbers not_lower s, site_small links numbers not_lower s)))

  -- ---- all lower ends

  pub pair_some : (a : ℕ) → NoneBelow g r a → (b : ℕ) → HigherEnd links r a (Some b) → PairFound links r (Some (record { low = a; high = b }))
  pair_some a none b f =
      first_found g r a b (λ c. leb b c) none (λ c ac lc e. f.3 c ac (leb-false b c e)) (λ c ac cb. lt-leb b c cb) f.0 f.1 f.2

  pub pair_none : (a : ℕ) → a ≡ length numbers → NoneBelow g r a → PairFound links r None
  pair_none a e none = none_found g r (subst (λ (x : ℕ). NoneBelow g r x) (e ∙ sym (graph_radios links numbers not_lower s)) none)
