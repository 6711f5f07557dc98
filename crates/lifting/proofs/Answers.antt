-- What a caller has of the answer to the question for one link that lifts a radio, by its outcome alone.
--   lift_core       a pair lifts a radio exactly if it raises its core number by the largest group
--   lift_first      an accepted call gives a pair that lifts the radio, and no pair before it does
--   lift_none       20 exactly if questions 1 to 4 get yes and no pair lifts it
--   lift_accepted   a link call that takes the pair given up is accepted, and lists the radio
--   lift_right      all of an accepted call
use Rattle.std.specs.Prelude.{◌≡◌, ◌⊎◌, ◌↔◌, ◌∷◌, ◌≤◌, ◌<◌}
use Rattle.lists.{specs.Kit.{refl, sym, ap, ◌∙◌, inl, inr, true, false, List, [], ℕ, arith, length, take}, specs.Lists.{In}}
use Rattle.lists.{specs.Lists.{member}, proofs.Tests.{bool_cases, never}, proofs.Member.{member_in}, proofs.Overwrite.{take_overwrite}}
use Rattle.mesh.{specs.Limits.{max_neighbours}, specs.Graph.{Link, link_of, Graph, relinked}, specs.Cores.{number}, specs.Levels.{changed}}
use Rattle.mesh.{specs.Tables.{Tables, graph_in}, specs.Sound.{sound}, proofs.Cores.Peeling.{number_core, number_unique}, proofs.Links.Call.{unchanged_number}}
use Rattle.calls.{specs.Questions.{lengths_of, answer_length, ends_refusal, radio_refusal}, specs.Lift.{lifts, lifting, first_pair, is_lifted}}
use Rattle.calls.{specs.Outcomes.{link_outcome}, specs.LiftOutcome.{lift_outcome}, specs.CallContracts.{LiftContract}}
use Rattle.calls.{specs.declared.Pair.{Pair}, proofs.QuestionLaws.{true_answer_length}, proofs.ChainLaws.{SiteGood, site_yes, ends_yes}}
use Rattle.calls.{proofs.ContractLaws.{number_by, accepted_is, by_zero}, proofs.LiftOutcome.{lift_zero, lift_twenty, lift_unanswered}}
use Rattle.lifting.specs.Results.{FirstLift, NoLift, Raises, LiftRight}
use Rattle.lifting.proofs.{Pairs.{lifts_lifted, lifted_lifts}, Search.{lifted_first, lifted_none, none_lifted}}
use Rattle.calls.specs.Chains.{lift_refusal}
use Rattle.calls.specs.Chains.{link_refusal}

-- ---- by the largest group

pub lift_core : (g : Graph) (v : ℕ) (l : Link) → v < g.n → (lifts g v l ≡ true) ↔ Raises g v l
unfolding relinked
lift_core g v l lv = (to, from)
  where
    t : Graph
    t = relinked true l.low l.high g

    to : lifts g v l ≡ true → Raises g v l
    to e =
        let h = lifts_lifted g v l.low l.high e in
        record {
          allowed = h.allowed;
          before = number g v;
          after = number t v;
          core_before = number_core g v lv;
          core_after = number_core t v lv;
          greater = h.greater;
        }

    from : Raises g v l → lifts g v l ≡ true
    from r = lifted_lifts g v l.low l.high (record {
      allowed = r.allowed;
      greater = omega (arith, r.greater, number_unique g v r.before lv r.core_before, number_unique t v r.after lv r.core_after);
    })

-- ---- the call

module _ (n v : ℕ) (t : Tables) where
  abbrev g : Graph
  g = graph_in n t.links

  abbrev R : ℕ
  R = lift_refusal n v (lengths_of t) (sound n t) g

  abbrev r : Pair
  r = lift_outcome n v t

  abbrev given : Link
  given = link_of r.low r.high

  module _ (z : r.number ≡ 0) where
    answer : (R ≡ 0) × (given ≡ first_pair (lifting g v))
    unfolding lift_outcome
    answer = let c = accepted_is (λ (o : Pair). o.number) r R _ _ (λ q. refl) refl z in (c.0, ap (λ (o : Pair). link_of o.low o.high) c.1)

    asked : SiteGood n (lengths_of t) true (sound n t) × (v < n) × (is_lifted (lifting g v) ≡ true)
    asked = lift_zero n v (lengths_of t) (sound n t) g answer.0

    pub lift_first : FirstLift g v given
    lift_first = rw answer.1 (lifted_first g v asked.2)

    raises : Raises g v given
    unfolding graph_in
    raises = (lift_core g v given asked.1).0 lift_first.does

    pub lift_accepted :
        (w : List ℕ) → n ≤ length w → let o = link_outcome true n given.low given.high t w in
        (o.reply.number ≡ 0) × In v (take o.reply.count o.lent)
    unfolding link_outcome sound graph_in
    lift_accepted w long = rw (by_zero {o = link_outcome true n a b t w} _ _ _ zero_refusal refl) (refl, rw (take_overwrite (changed true a b g) w) moved)
      where
        a : ℕ
        a = r.low

        b : ℕ
        b = r.high

        good : SiteGood n (lengths_of t) (answer_length n (length w)) (sound n t)
        good =
            let lent = asked.0.lent in
            record {
              lent = record { least = lent.least; most = lent.most; lengths = lent.lengths; further = true_answer_length n (length w) long };
              is_sound = asked.0.is_sound;
            }

        zero_refusal : link_refusal true n a b (lengths_of t) (length w) (sound n t) g ≡ 0
        zero_refusal =
            site_yes n (lengths_of t) (answer_length n (length w)) (sound n t) (ends_refusal max_neighbours true n a b g) good
            ∙ ends_yes max_neighbours true a b g raises.allowed

        moved : In v (changed true a b g)
        moved = go (bool_cases (member v (changed true a b g)))
          where
            go : (member v (changed true a b g) ≡ true) ⊎ (member v (changed true a b g) ≡ false) → In v (changed true a b g)
            go (inl e) = member_in v (changed true a b g) e
            go (inr e) =
                absurd (omega (arith, (lifts_lifted g v a b lift_first.does).greater, unchanged_number true a b g v asked.1 e))

    pub lift_right : LiftRight n v t given
    lift_right = record { first = lift_first; raises = raises; listed = lift_accepted }

  -- ---- 20

  number_is : r.number ≡ R
  unfolding lift_outcome
  number_is = number_by (λ (o : Pair). o.number) R _ _ refl (λ q. refl)

  pub lift_none : (r.number ≡ 20) ↔ ((radio_refusal n v (lengths_of t) (sound n t) ≡ 0) × NoLift g v)
  unfolding is_lifted LiftContract
  lift_none = (to, from)
    where
      from : (radio_refusal n v (lengths_of t) (sound n t) ≡ 0) × NoLift g v → r.number ≡ 20
      from (e, h) =
          let none : lifting g v ≡ [] = empty (lifting g v) (none_lifted g v h) in
          ap (λ (p : Pair). p.number) (sym (lift_unanswered n v t e none))
        where
          empty : (ls : List Link) → is_lifted ls ≡ false → ls ≡ []
          empty [] q = refl
          empty (l ∷ ls) q = never true refl q

      to : r.number ≡ 20 → (radio_refusal n v (lengths_of t) (sound n t) ≡ 0) × NoLift g v
      to e = let q = lift_twenty n v (lengths_of t) (sound n t) g (sym number_is ∙ e) in (q.0, lifted_none g v q.1)
