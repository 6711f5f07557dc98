-- A pair tried: what the peel with its ends left alone says of the pairs of the lower end.
--   SearchSite    what sound tables and the check's counts say of the graph
--   settling_start the counters before the peels of a lower end
--   settled-..     the peel with all untried radios held
--   tried_found    the pair lifts the radio
--   tried_not      the pair does not, nor do the others that are ruled out
use Rattle.std.specs.Prelude.{◌≡◌, ◌⊎◌, ◌&&◌, ◌||◌, ◌+◌, ◌/◌, ◌≤◌, ◌<◌}
use Rattle.lists.{specs.Kit.{refl, sym, ap, subst, ◌∙◌, inl, inr, Bool, true, false, not, cond, and-false, List, ℕ}}
use Rattle.lists.{specs.Kit.{min, arith, le_antisymm, ltb, leb, eqb, length, get_or, replicate, List·getD-eq-default, eqb-true, eqb-false, eq-eqb, ne_eqb}}
use Rattle.lists.{specs.Kit.{ltb-true, ltb-false, lt-ltb}, specs.Lists.{count, range}, proofs.Tests.{bool_cases, never, and_left}}
use Rattle.lists.{proofs.Range.{in_range, range_in}, proofs.Count.{count_less, count_mono}}
use Rattle.mesh.{specs.Limits.{max_radios, max_neighbours, row_bytes}, specs.Graph.{Graph, link_of, neighbours_in}, specs.Cores.{number}}
use Rattle.mesh.{specs.Levels.{lower_level}, specs.Tables.{tables, graph_in}, specs.Valid.{Valid}}
use Rattle.mesh.{proofs.GraphLaws.{neighbours_in_subset, degree_in}, proofs.Cores.Certificate.{core_enough}, proofs.Cores.Peeling.{number_core}}
use Rattle.calls.specs.{Questions.{can_switch, has_room}, Lift.{lifts}}
use Rattle.soundness.proofs.SoundSite.{number_entry}
use Rattle.lifting.{specs.Peeling.{left, stays, Peeling}, specs.Search.{candidate}, proofs.Peeling.{below_left, stays_above, stays_left, stays_cases}}
use Rattle.lifting.{proofs.Peeling.{peeling_starts}, proofs.Pairs.{candidate_allowed, radio_refutes, few_refutes, low_refutes, peeling_lifts}}
use Rattle.lifting.{proofs.Search.{untried_next}}
use Rattle.lift.specs.{Peels.{graph_of, SoundLinks, gone_of, PeelBegin, PeelEnd}, Counters.{rules_out}, Tries.{SearchSite, Started, ruled_out}}
use Rattle.lift.specs.{Tries.{RuledOut, Trying, Settling, SettledAt, Settled, Tried}}
use Rattle.lift.proofs.{PeelSteps.{links_site, links_valid, inside_left}, TryLaws.{start_past, start_other, start_own, held_at}}
use Rattle.rows.specs.Sets.{in_set, take_out, put_in, common}
use Rattle.rows.specs.Rows.{first_in}
use Rattle.std.specs.Prelude.{Option, None, Some}
use Rattle.lift.proofs.SetLaws.{in_taken, lowest_none, lowest_some}

-- the lower number of a candidate is the level
pub candidate_level : (g : Graph) (k a c : ℕ) → candidate g k a c ≡ true → min (number g a) (number g c) ≡ k
unfolding candidate lower_level
candidate_level g k a c e =
    eqb-true (min (number g a) (number g c)) k
    (and_left (eqb (min (number g a) (number g c)) k) (can_switch true g a c && has_room max_neighbours true g a c) e)

or_second : (u v : Bool) → (u || v) ≡ false → v ≡ false
or_second true v e = never true refl e
or_second false v e = e

-- what is marked no more was ruled out
ruled_passed : (m l u : Bool) → m ≡ true → (m && not (l && u)) ≡ false → u ≡ true
ruled_passed true true true e q = refl
ruled_passed true true false e q = never true refl q
ruled_passed true false u e q = never true refl q
ruled_passed false l u e q = never false e refl

module _ (links numbers not_lower : List ℕ) (s : SearchSite links numbers not_lower) where
  abbrev g : Graph
  g = graph_of links

  abbrev pub site_links : SoundLinks links
  site_links = record { numbers = numbers; order = s.order; is_sound = s.is_sound }

  pub site_radios : length links / row_bytes ≡ length numbers
  site_radios = sym (links_site links site_links).numbers_long

  pub graph_radios : g.n ≡ length numbers
  unfolding graph_in
  graph_radios = site_radios

  pub site_small : length numbers ≤ max_radios
  site_small = omega (arith, site_radios, (links_site links site_links).small)

  valid : Valid max_neighbours g s.order
  valid = links_valid links site_links

  pub number_is : (v : ℕ) → v < length numbers → get_or numbers v 0 ≡ number g v
  number_is v l = number_entry (length links / row_bytes) (tables links numbers s.order) (links_site links site_links) v (omega (arith, site_radios))

  few_high : (v : ℕ) (f : ℕ → Bool) → v < length numbers → neighbours_in g v f ≤ max_neighbours
  few_high v f l = omega (arith, neighbours_in_subset g v f (λ b. true) (λ w lw q. refl), degree_in g v, valid.degrees v (omega (arith, graph_radios)))

  high_is : (v : ℕ) → v < length numbers → get_or not_lower v 0 ≡ neighbours_in g v (λ w. leb (number g v) (number g w))
  high_is v l =
      s.counted v l
      ∙ le_antisymm
      (neighbours_in_subset g v (λ w. leb (get_or numbers v 0) (get_or numbers w 0)) (λ w. leb (number g v) (number g w))
      (λ w lw q. subst (λ (b : Bool). b ≡ true) (same w lw) q))
      (neighbours_in_subset g v (λ w. leb (number g v) (number g w)) (λ w. leb (get_or numbers v 0) (get_or numbers w 0))
      (λ w lw q. subst (λ (b : Bool). b ≡ true) (sym (same w lw)) q))
    where
      same : (w : ℕ) → w < g.n → leb (get_or numbers v 0) (get_or numbers w 0) ≡ leb (number g v) (number g w)
      same w lw = rw (number_is v l, number_is w (omega (arith, graph_radios)))

  module _ (r : ℕ) (lr : r < length numbers) where
    abbrev k : ℕ
    k = get_or numbers r 0

    pub level_is : number g r ≡ k
    level_is = sym (number_is r lr)

    lr_graph : r < g.n
    lr_graph = omega (arith, graph_radios)

    level_low : k < 128
    level_low =
        omega (arith, level_is, core_enough g (number g) (number_core g) r lr_graph, few_high r (λ w. leb (number g r) (number g w)) lr)

    module _ (cs : List ℕ) (long : length cs ≡ max_radios) (st : Started k numbers not_lower cs) where
      own_start : (v : ℕ) → v < length numbers → number g v ≡ k → get_or cs v 255 ≡ neighbours_in g v (λ w. leb k (number g w))
      own_start v l e =
          st v (omega (arith, site_small)) ∙ sym (start_own k numbers not_lower v l (number_is v l ∙ e)) ∙ high_is v l
          ∙ ap (λ (x : ℕ). neighbours_in g v (λ w. leb x (number g w))) e

      left_start : (v : ℕ) → v < length numbers → number g v ≡ k → left cs v ≡ true
      left_start v l e = below_left cs v (omega (arith, own_start v l e, few_high v (λ w. leb k (number g w)) l))

      stays_start : (v : ℕ) → v < length numbers → k ≤ number g v → stays g k cs v ≡ true
      stays_start v l h = by_test (bool_cases (ltb k (number g v)))
        where
          by_test : (ltb k (number g v) ≡ true) ⊎ (ltb k (number g v) ≡ false) → stays g k cs v ≡ true
          by_test (inl q) = stays_above g k cs v (ltb-true k (number g v) q)
          by_test (inr q) = stays_left g k cs v (left_start v l (omega (arith, h, ltb-false k (number g v) q)))

      past_start : (v : ℕ) → g.n ≤ v → get_or cs v 255 ≡ 255
      past_start v l = by_test (bool_cases (ltb v max_radios))
        where
          by_test : (ltb v max_radios ≡ true) ⊎ (ltb v max_radios ≡ false) → get_or cs v 255 ≡ 255
          by_test (inl q) = st v (ltb-true v max_radios q) ∙ sym (start_past k numbers not_lower v (omega (arith, graph_radios)))
          by_test (inr q) = List·getD-eq-default cs 255 {n = v} (omega (arith, long, ltb-false v max_radios q))

      pub started : (a : ℕ) → a < length numbers → k ≤ number g a → Peeling g k a cs
      started a la ka =
          peeling_starts g s.order valid k a cs (omega (arith, graph_radios)) ka (λ v lv e. own_start v (omega (arith, graph_radios)) e)
          (λ v lv ne. st v (omega (arith, graph_radios, site_small))
          ∙ sym (start_other k numbers not_lower v (omega (arith, graph_radios)) (λ e. ne (sym (number_is v (omega (arith, graph_radios))) ∙ e))))
          past_start

      -- what the peels of a's pairs begin with
      pub settling_start : (a : ℕ) (untried : List ℕ) → a < length numbers → k ≤ number g a → Trying links r a untried → Settling links k a r untried cs
      settling_start a untried la ka h = record {
        base = record { peeling = started a la ka; low = level_low; long = long; there = left_start r lr level_is; fits = fits };
        kept = λ w lw q. let c = h.candidates w lw q in inl (stays_start w (omega (arith, c.1, graph_radios)) (omega (
          arith,
          candidate_level g (number g r) a w c.2,
          level_is,
        )));
      }
        where
          fits : k ≤ get_or cs a 255
          fits = by_test (bool_cases (ltb k (number g a)))
            where
              by_test : (ltb k (number g a) ≡ true) ⊎ (ltb k (number g a) ≡ false) → k ≤ get_or cs a 255
              by_test (inl q) =
                  omega (
                    arith,
                    level_low,
                    st a (omega (arith, site_small)) ∙ sym (start_other k numbers not_lower a la (λ e. omega
                        (arith, number_is a la, ltb-true k (number g a) q))),
                  )
              by_test (inr q) =
                  let own : number g a ≡ k = omega (arith, ka, ltb-false k (number g a) q) in
                  omega (
                    arith,
                    own,
                    own_start a la own,
                    subst (λ (x : ℕ). x ≤ neighbours_in g a (λ w. leb x (number g w))) own (core_enough g (number g) (number_core g) a (omega
                        (arith, graph_radios))),
                  )

    -- ---- pairs that a peel rules out

    module _ (a : ℕ) (cs : List ℕ) (p : Peeling g k a cs) where
      gone_refutes : gone_of k a r cs ≡ true → (c : ℕ) → stays g k cs c ≡ true → lifts g r (link_of a c) ≡ false
      unfolding gone_of
      gone_refutes e c m = at (bool_cases (left cs r))
        where
          at : (left cs r ≡ true) ⊎ (left cs r ≡ false) → lifts g r (link_of a c) ≡ false
          at (inr q) = radio_refutes g s.order valid k r a c lr_graph level_is cs p q m
          at (inl q) =
              let short = ltb-true (get_or cs a 255) k (rw q at e) in
              low_refutes g s.order valid k r a c lr_graph level_is cs p (below_left cs a (omega (arith, short, level_low))) short m

      pub kept_refutes : gone_of k a r cs ≡ true → (c : ℕ) → (stays g k cs c ≡ true) ⊎ ((128 ≤ get_or cs c 255) × (get_or cs c 255 < 128 + k))
          → lifts g r (link_of a c) ≡ false
      kept_refutes e c (inl m) = gone_refutes e c m
      kept_refutes e c (inr (l, m)) = few_refutes g s.order valid k r a c lr_graph level_is cs p l m

      gone_high : (c : ℕ) → left cs c ≡ false → 128 ≤ get_or cs c 255
      unfolding left
      gone_high c e = ltb-false (get_or cs c 255) 128 e

      -- a radio that is ruled out
      ruled_refuted : (gone : Bool) → (gone ≡ true → gone_of k a r cs ≡ true) → (c : ℕ) → c < length numbers → ruled_out k gone numbers cs c ≡ true
          → lifts g r (link_of a c) ≡ false
      unfolding ruled_out rules_out left stays
      ruled_refuted gone is c lc q = go (bool_cases (ltb k (get_or numbers c 0) || left cs c))
        where
          go : ((ltb k (get_or numbers c 0) || left cs c) ≡ true) ⊎ ((ltb k (get_or numbers c 0) || left cs c) ≡ false) → lifts g r (link_of a c) ≡ false
          go (inl e) = gone_refutes (is (rw e at q)) c (subst (λ (y : ℕ). (ltb k y || left cs c) ≡ true) (number_is c lc) e)
          go (inr e) =
              few_refutes g s.order valid k r a c lr_graph level_is cs p (gone_high c (or_second (ltb k (get_or numbers c 0)) (left cs c) e))
              (ltb-true (get_or cs c 255) (128 + k) (rw e at q))

      -- what is not ruled out is as untried as before
      module _ (gone : Bool) (is : gone ≡ true → gone_of k a r cs ≡ true) (old new : List ℕ) (try : Trying links r a old)
          (ruled : RuledOut k gone numbers cs old new) where
        pub still_untried : (c : ℕ) → c < max_radios → in_set new c ≡ true → in_set old c ≡ true
        still_untried c lc q = and_left (in_set old c) (not (ltb c (length numbers) && ruled_out k gone numbers cs c)) (sym (ruled c lc) ∙ q)

        pub ruled_trying : Trying links r a new
        ruled_trying = record {
          candidates = λ c lc q. try.candidates c lc (still_untried c lc q);
          rest = untried_next g r a (in_set old) (in_set new) try.rest (λ c ac lc q. out c lc q (bool_cases (in_set old c)));
        }
          where
            out : (c : ℕ) → c < g.n → in_set new c ≡ false → (in_set old c ≡ true) ⊎ (in_set old c ≡ false)
                → (in_set old c ≡ false) ⊎ (lifts g r (link_of a c) ≡ false)
            out c lc q (inr o) = inl o
            out c lc q (inl o) =
                let small : c < max_radios = omega (arith, lc, graph_radios, site_small) in
                inr (ruled_refuted gone is c (omega (arith, lc, graph_radios)) (ruled_passed (in_set old c) (ltb c (length numbers))
                (ruled_out k gone numbers cs c) o (sym (ruled c small) ∙ q)))

        pub ruled_fewer : count (in_set new) (range 0 max_radios) ≤ count (in_set old) (range 0 max_radios)
        ruled_fewer = count_mono (in_set new) (in_set old) (range 0 max_radios) (λ c i q. still_untried c (omega (arith, range_in 0 max_radios c i)) q)

    -- ---- the peel with all untried radios held

    module _ (a : ℕ) (untried cs : List ℕ) (x : Bool) (end : PeelEnd links untried k a r r cs x) where
      is_gone : x ≡ false → gone_of k a r cs ≡ true
      unfolding gone_of
      is_gone e = at (end.ended e)
        where
          at : (gone_of k a r cs ≡ true) ⊎ (left cs r ≡ false) → gone_of k a r cs ≡ true
          at (inl q) = q
          at (inr q) = rw q

      pub settled_none : x ≡ false → Trying links r a untried → Settled links k r a untried cs None
      settled_none e try = λ c ac lc. at c ac lc (bool_cases (in_set untried c))
        where
          at : (c : ℕ) → a < c → c < g.n → (in_set untried c ≡ true) ⊎ (in_set untried c ≡ false) → lifts g r (link_of a c) ≡ false
          at c ac lc (inr q) = try.rest c ac lc q
          at c ac lc (inl q) =
              kept_refutes a cs end.peeling (is_gone e) c (end.kept c (omega (arith, lc, graph_radios, site_small)) q)

      module _ (e : x ≡ true) (try : Trying links r a untried) (new : List ℕ) (ruled : RuledOut k false numbers cs untried new) where
        next : Trying links r a new
        next = ruled_trying a cs end.peeling false (λ q. never false q refl) untried new try ruled

        stay : (c : ℕ) → c < max_radios → in_set new c ≡ true → stays g k cs c ≡ true
        unfolding ruled_out rules_out stays left
        stay c lc q = at (end.kept c lc (still_untried a cs end.peeling false (λ z. never false z refl) untried new try ruled c lc q))
            (bool_cases (ltb k (get_or numbers c 0) || left cs c))
          where
            radio : c < length numbers
            radio = omega (arith, graph_radios, (next.candidates c lc q).1)

            at : (stays g k cs c ≡ true) ⊎ ((128 ≤ get_or cs c 255) × (get_or cs c 255 < 128 + k))
                → ((ltb k (get_or numbers c 0) || left cs c) ≡ true) ⊎ ((ltb k (get_or numbers c 0) || left cs c) ≡ false) → stays g k cs c ≡ true
            at (inl h) z = h
            at (inr h) (inl z) = subst (λ (y : ℕ). (ltb k y || left cs c) ≡ true) (number_is c radio) z
            at (inr (l, m)) (inr z) =
                let out : ruled_out k false numbers cs c ≡ true = rw z (lt-ltb (get_or cs c 255) (128 + k) m) in
                never (in_set new c) q (ruled c lc ∙ rw (lt-ltb c (length numbers) radio, out) (and-false (in_set untried c)))

        pub settled_first : (b : Option ℕ) → b ≡ first_in (common new new) → Settled links k r a new cs b
        settled_first None f =
            λ c ac lc. next.rest c ac lc (lowest_none new f c (omega (arith, lc, graph_radios, site_small)))
        settled_first (Some b) f =
            let low = lowest_some new f in
            record { trying = next; base = end.base e; stay = stay; small = low.0; there = low.1; lowest = low.2 }

    -- ---- the pair lifts the radio, or it does not

    module _ (a b : ℕ) (old base : List ℕ) (set : SettledAt links k r a old base b) where
      small : b < max_radios
      small = set.small

      try : Trying links r a old
      try = set.trying

      on : in_set old b ≡ true
      on = set.there

      own : (a < b) × (b < g.n) × (candidate g (number g r) a b ≡ true)
      own = try.candidates b small on

      pub settled_radio : b < length numbers
      settled_radio = omega (arith, own.1, graph_radios)

      pub settled_small : a < max_radios
      settled_small = omega (arith, own.0)

      module _ (held : List ℕ) (put : held ≡ put_in b (replicate 8 0)) (stop : ℕ) (is_stop : stop ≡ cond (eqb (get_or numbers b 0) k) b r) where
        -- counters are a copy of the base
        pub pair_begin : (cs : List ℕ) → cs ≡ base → PeelBegin links held k a r stop cs
        pair_begin cs e = rw e (record {
          base = set.base;
          kept = λ w lw q. inl (subst (λ (x : ℕ). stays g k base x ≡ true) (eqb-true b w (sym (held_at b small held put w lw) ∙ q)) (set.stay b small on));
          stop_there = subst (λ (x : ℕ). left base x ≡ true) (sym is_stop) (at (bool_cases (eqb (get_or numbers b 0) k)));
        })
          where
            here : (k < number g b) ⊎ (left base b ≡ true) → get_or numbers b 0 ≡ k → left base b ≡ true
            here (inl q) e = absurd (omega (arith, q, e, number_is b settled_radio))
            here (inr q) e = q

            at : (eqb (get_or numbers b 0) k ≡ true) ⊎ (eqb (get_or numbers b 0) k ≡ false) → left base (cond (eqb (get_or numbers b 0) k) b r) ≡ true
            at (inl q) = rw q (here (stays_cases g k base b (set.stay b small on)) (eqb-true (get_or numbers b 0) k q))
            at (inr q) = rw q set.base.there

        module _ (cs : List ℕ) (x : Bool) (end : PeelEnd links held k a r stop cs x) where
          held_b : in_set held b ≡ true
          held_b = held_at b small held put b small ∙ eq-eqb b b refl

          not_held : (w : ℕ) → left cs w ≡ true → (w ≡ b → ⊥) → in_set held w ≡ false
          not_held w l ne = held_at b small held put w (inside_left cs w end.long l) ∙ ne_eqb b w (λ e. ne (sym e))

          b_other : b ≡ a → ⊥
          b_other e = omega (arith, own.0, e)

          b_stays : x ≡ true → stays g k cs b ≡ true
          b_stays e = at (bool_cases (eqb (get_or numbers b 0) k)) (subst (λ (y : ℕ). left cs y ≡ true) is_stop (end.stop_left e))
            where
              at : (eqb (get_or numbers b 0) k ≡ true) ⊎ (eqb (get_or numbers b 0) k ≡ false) → left cs (cond (eqb (get_or numbers b 0) k) b r) ≡ true
                  → stays g k cs b ≡ true
              at (inl q) l = stays_left g k cs b (rw q at l)
              at (inr q) l =
                  let ne = eqb-false (get_or numbers b 0) k q in
                  stays_above g k cs b (omega (arith, ne, number_is b settled_radio, candidate_level g (number g r) a b own.2, level_is))

          pub tried_found : x ≡ true → Tried links r a b old old true
          tried_found e = record {
            does = λ yes.
                peeling_lifts g s.order valid k r a b lr_graph level_is cs end.peeling
                (candidate_allowed g k a b own.0 own.1 (subst (λ (y : ℕ). candidate g y a b ≡ true) level_is own.2))
                (b_stays e) (λ l. (end.base e).fits) (λ l. end.held_fit e b l b_other)
                (λ v l na nb. end.full e v l na (not_held v l nb)) (end.base e).there;
            next = λ no. never true refl no;
            still = λ no. never true refl no;
            fewer = λ no. never true refl no;
          }

          own_refuted : x ≡ false → lifts g r (link_of a b) ≡ false
          own_refuted e = at (end.ended e) (end.kept b small held_b)
            where
              at : (gone_of k a r cs ≡ true) ⊎ (left cs stop ≡ false) → (stays g k cs b ≡ true) ⊎ ((128 ≤ get_or cs b 255) × (get_or cs b 255 < 128 + k))
                  → lifts g r (link_of a b) ≡ false
              at (inl q) h = kept_refutes a cs end.peeling q b h
              at (inr q) (inr h) = few_refutes g s.order valid k r a b lr_graph level_is cs end.peeling h.0 h.1
              at (inr q) (inl h) = by_test (bool_cases (eqb (get_or numbers b 0) k)) (subst (λ (y : ℕ). left cs y ≡ false) is_stop q) (stays_cases g k cs b h)
                where
                  by_test : (eqb (get_or numbers b 0) k ≡ true) ⊎ (eqb (get_or numbers b 0) k ≡ false) → left cs (cond (eqb (get_or numbers b 0) k) b r) ≡ false
                      → (k < number g b) ⊎ (left cs b ≡ true) → lifts g r (link_of a b) ≡ false
                  by_test (inl z) l (inl u) = absurd (omega (arith, u, number_is b settled_radio, eqb-true (get_or numbers b 0) k z))
                  by_test (inl z) l (inr u) = never (left cs b) u (rw z at l)
                  by_test (inr z) l u =
                      let gone : left cs r ≡ false = rw z at l in
                      radio_refutes g s.order valid k r a b lr_graph level_is cs end.peeling gone h

          module _ (failed : x ≡ false) (t : Bool) (test : t ≡ gone_of k a r cs) (mid new : List ℕ) (ruled : RuledOut k t numbers cs old mid)
              (long : length new ≡ 8) (out : new ≡ take_out b mid) where
            middle : Trying links r a mid
            middle = ruled_trying a cs end.peeling t (λ q. sym test ∙ q) old mid try ruled

            new_at : (c : ℕ) → c < max_radios → in_set new c ≡ cond (eqb b c) false (in_set mid c)
            new_at c lc = in_taken b mid new small long out c

            still_mid : (c : ℕ) → c < max_radios → in_set new c ≡ true → in_set mid c ≡ true
            still_mid c lc q = go (bool_cases (eqb b c))
              where
                go : (eqb b c ≡ true) ⊎ (eqb b c ≡ false) → in_set mid c ≡ true
                go (inl e) = never true refl (sym q ∙ new_at c lc ∙ rw e)
                go (inr e) = sym (new_at c lc ∙ rw e) ∙ q

            still_old : (c : ℕ) → c < max_radios → in_set new c ≡ true → in_set old c ≡ true
            still_old c lc q = still_untried a cs end.peeling t (λ z. sym test ∙ z) old mid try ruled c lc (still_mid c lc q)

            gone_refuted : (c : ℕ) → c < g.n → in_set new c ≡ false → (in_set mid c ≡ false) ⊎ (lifts g r (link_of a c) ≡ false)
            gone_refuted c lc q = go (bool_cases (eqb b c))
              where
                go : (eqb b c ≡ true) ⊎ (eqb b c ≡ false) → (in_set mid c ≡ false) ⊎ (lifts g r (link_of a c) ≡ false)
                go (inl e) = inr (subst (λ (y : ℕ). lifts g r (link_of a y) ≡ false) (eqb-true b c e) (own_refuted failed))
                go (inr e) = inl (sym (new_at c (omega (arith, lc, graph_radios, site_small)) ∙ rw e) ∙ q)

            pub tried_not : Tried links r a b old new false
            tried_not = record {
              does = λ e. never false e refl;
              next = λ e. record {
                candidates = λ c lc q. middle.candidates c lc (still_mid c lc q);
                rest = untried_next g r a (in_set mid) (in_set new) middle.rest (λ c ac lc q. gone_refuted c lc q);
              };
              still = λ e. still_old;
              fewer = λ e.
                  count_less (in_set new) (in_set old) b (range 0 max_radios) (in_range 0 max_radios b (omega arith) (omega arith))
                  (new_at b small ∙ rw (eq-eqb b b refl)) on (λ c i q. still_old c (omega (arith, range_in 0 max_radios c i)) q);
            }
