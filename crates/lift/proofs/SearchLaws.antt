-- The leaves of the search over pairs, and the questions before it.
--   is_free, may_lift     what each test of the code says of them
--   search_ready          what the search reads, once questions 1 to 3 got yes
--   answer-..             what the call answers
use Rattle.std.specs.Prelude.{◌≡◌, ◌/◌, ◌≤◌, ◌<◌}
use Rattle.lists.specs.Kit.{sym, ap, subst, ◌∙◌, Bool, true, false, not, List, [], ℕ, arith, ltb, leb, length, get_or, lt-ltb, le-ltb, le-leb}
use Rattle.lists.specs.Kit.{lt-leb, not-true, not-false}
use Rattle.mesh.specs.{Limits.{max_neighbours, row_bytes}, Tables.{Tables, marked, graph_in}, Sound.{sound}, Graph.{link_of, neighbours_in}}
use Rattle.calls.{specs.Questions.{lengths_of, radio_refusal}, specs.Lift.{lifting, first_pair, is_lifted}, specs.LiftOutcome.{pair}}
use Rattle.calls.{specs.CallContracts.{LiftContract}, proofs.ChainLaws.{SiteGood, site_zero}, proofs.LiftOutcome.{lift_refused, lift_unanswered, lift_answered}}
use Rattle.rows.specs.Rows.{row_count}
use Rattle.soundness.{specs.Checks.{fits_sound, Asked}, proofs.RadioLaws.{radio_no, radio_four, radio_none}, proofs.HighCounts.{counts_neighbours_in}}
use Rattle.soundness.{proofs.SoundSite.{site_good_fits}}
use Rattle.conditions.specs.Conditions.{Placed}
use Rattle.lifting.specs.Tight.{first_end}
use Rattle.lift.specs.{Counters.{room_left}, Peels.{graph_of}, Tries.{SearchSite}, Search.{is_free, SearchPlaces, place_in, may_lift}}
use Rattle.rows.specs.Sets.{in_set}

-- ---- is_free

module _ (k : ℕ) (ts ns : List ℕ) (v : ℕ) where
  pub free_low : get_or ns v 0 < k → false ≡ is_free k ts ns v
  unfolding is_free room_left
  free_low h = rw (lt-leb k (get_or ns v 0) h)

  pub free_room : (x : ℕ) → k ≤ get_or ns v 0 → x ≡ row_count max_neighbours ts v → ltb x max_neighbours ≡ is_free k ts ns v
  unfolding is_free room_left
  free_room x h e = rw (le-leb k (get_or ns v 0) h, e)

-- ---- may_lift

module _ (a : ℕ) (ts ps fs ks : List ℕ) (c : ℕ) where
  abbrev begins : Bool
  begins = in_set ks (first_end (place_in ps) a c)

  pub lift_low : c ≤ a → false ≡ may_lift a ts ps fs ks c
  unfolding may_lift
  lift_low h = rw (le-ltb a c h)

  pub lift_full : (t : Bool) → a < c → t ≡ in_set fs c → not t ≡ true → false ≡ may_lift a ts ps fs ks c
  unfolding may_lift
  lift_full t h e q = rw (lt-ltb a c h, sym e ∙ not-true t q)

  pub lift_other : (t u : Bool) → a < c → t ≡ in_set fs c → not t ≡ false → u ≡ begins → not u ≡ true → false ≡ may_lift a ts ps fs ks c
  unfolding may_lift
  lift_other t u h e q f p = rw (lt-ltb a c h, sym e ∙ not-false t q, sym f ∙ not-true u p)

  pub lift_test : (t u w : Bool) → a < c → t ≡ in_set fs c → not t ≡ false → u ≡ begins → not u ≡ false → w ≡ marked ts a c → not w ≡ may_lift a ts ps fs ks c
  unfolding may_lift
  lift_test t u w h e q f p m = rw (lt-ltb a c h, sym e ∙ not-false t q, sym f ∙ not-false u p, m)

-- ---- once questions 1 to 3 are put: q is their number

module _ (n v : ℕ) (t : Tables) (places not_lower : List ℕ) (q : ℕ) (asked : Asked n t true places not_lower q) where
  pub answer_refused : (q ≡ 0 → ⊥) → LiftContract n v t (pair q 0 0)
  answer_refused ne = lift_refused n v t q (radio_no n v (lengths_of t) (sound n t) q asked.number ne) ne

  pub answer_past : q ≡ 0 → n ≤ v → LiftContract n v t (pair 4 0 0)
  answer_past none past = lift_refused n v t 4 (radio_four n v (lengths_of t) (sound n t) q asked.number none past) four
    where
      four : ◌≡◌ {A = ℕ} 4 0 → ⊥
      four z = omega arith

  module _ (none : q ≡ 0) where
    good : SiteGood n (lengths_of t) true (sound n t)
    good = (site_zero n (lengths_of t) true (sound n t) 0 (sym asked.number ∙ none)).0

    pub asked_radios : length t.numbers ≡ n
    unfolding lengths_of
    asked_radios = good.lent.lengths.numbers

    rows : n ≡ length t.links / row_bytes
    unfolding lengths_of
    rows = omega (arith, good.lent.lengths.links)

    is_sound : fits_sound (length t.links / row_bytes) t ≡ true
    is_sound = subst (λ (m : ℕ). fits_sound m t ≡ true) rows (site_good_fits n t true good)

    -- what the search reads
    pub search_ready : SearchSite t.links t.numbers not_lower × SearchPlaces t.links t.numbers places
    search_ready = (
      record {
        order = t.order;
        is_sound = is_sound;
        counted = λ w l. counts_neighbours_in n t good.is_sound good.lent.most not_lower (asked.counts none) w (omega (arith, asked_radios))
            ∙ ap (λ (m : ℕ). neighbours_in (graph_in m t.links) w (λ u. leb (get_or t.numbers w 0) (get_or t.numbers u 0))) rows;
      },
      record {
        order = t.order;
        is_sound = is_sound;
        placed = subst (λ (m : ℕ). Placed m t.order places) rows (asked.placed none);
      },
    )

    module _ (lv : v < n) where
      asked_all : radio_refusal n v (lengths_of t) (sound n t) ≡ 0
      asked_all = sym (radio_none n v (lengths_of t) (sound n t) q asked.number none lv)

      pub answer_none : lifting (graph_of t.links) v ≡ [] → LiftContract n v t (pair 20 0 0)
      answer_none h = lift_unanswered n v t asked_all (subst (λ (m : ℕ). lifting (graph_in m t.links) v ≡ []) (sym rows) h)

      pub answer_some : (a b : ℕ) → (is_lifted (lifting (graph_of t.links) v) ≡ true) × (first_pair (lifting (graph_of t.links) v) ≡ link_of a b)
          → LiftContract n v t (pair 0 a b)
      answer_some a b h =
          lift_answered n v t asked_all a b
          (subst (λ (m : ℕ). (is_lifted (lifting (graph_in m t.links) v) ≡ true) × (first_pair (lifting (graph_in m t.links) v) ≡ link_of a b)) (sym rows)
          h)
