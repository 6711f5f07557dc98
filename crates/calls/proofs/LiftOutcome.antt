-- The question for one link that lifts a radio: how its contract is met.
--   lift_zero, lift_twenty         when the chain gives 0, and when 20
--   lift_refused, lift_unanswered, lift_answered   refused by 1 to 4; by 20; the first pair
use Rattle.std.specs.Prelude.{◌≡◌, ◌&&◌, ◌<◌}
use Rattle.lists.specs.Kit.{refl, sym, ap, ◌∙◌, Bool, true, false, [], ℕ, arith}
use Rattle.mesh.specs.{Graph.{link_of, Graph}, Tables.{Tables, graph_in}, Sound.{sound}}
use Rattle.calls.specs.{Questions.{Lengths, lengths_of, ask, is_radio, size_good, site_lengths, lent_refusal, site_refusal, radio_refusal}}
use Rattle.calls.specs.{Lift.{lifting, first_pair, is_lifted}, LiftOutcome.{pair, lift_outcome}, CallContracts.{LiftContract}}
use Rattle.calls.proofs.{QuestionLaws.{ask_zero, ask_yes, ask_no, is_radio_true}, ContractLaws.{by_accepted, by_refused}, ChainLaws.{SiteGood}}
use Rattle.calls.proofs.{ChainLaws.{site_zero, site_yes}}
use Rattle.calls.specs.Chains.{lift_refusal}

-- ---- the chain

pub lift_zero : (n v : ℕ) (l : Lengths) (sound : Bool) (g : Graph) → lift_refusal n v l sound g ≡ 0
    → SiteGood n l true sound × (v < n) × (is_lifted (lifting g v) ≡ true)
lift_zero n v l sound g e =
    let p = site_zero n l true sound (ask 4 (is_radio n v) (ask 20 (is_lifted (lifting g v)) 0)) e in
    let q = ask_zero 3 (is_radio n v) (ask 20 (is_lifted (lifting g v)) 0) p.1 in
    (p.0, is_radio_true n v q.0, (ask_zero 19 (is_lifted (lifting g v)) 0 q.1).0)

-- a chain that stops at 1 to 4 does not ask further; one that does not, asks 20
lift_stops : (n v : ℕ) (l : Lengths) (sound : Bool) (g : Graph) → (radio_refusal n v l sound ≡ 0 → ⊥) → lift_refusal n v l sound g ≡ radio_refusal n v l sound
unfolding radio_refusal site_refusal lent_refusal ask
lift_stops n v l sound g h = go (size_good n) (site_lengths n l && true) sound (is_radio n v) h
  where
    last : ℕ
    last = ask 20 (is_lifted (lifting g v)) 0

    go : (a b c d : Bool) → (ask 1 a (ask 2 b (ask 3 c (ask 4 d 0))) ≡ 0 → ⊥)
        → ask 1 a (ask 2 b (ask 3 c (ask 4 d last))) ≡ ask 1 a (ask 2 b (ask 3 c (ask 4 d 0)))
    go true true true true k = absurd (k refl)
    go true true true false k = refl
    go true true false d k = refl
    go true false c d k = refl
    go false b c d k = refl

lift_asks : (n v : ℕ) (l : Lengths) (sound : Bool) (g : Graph) → radio_refusal n v l sound ≡ 0 → lift_refusal n v l sound g ≡ ask 20 (is_lifted (lifting g v)) 0
unfolding radio_refusal
lift_asks n v l sound g e =
    let p = site_zero n l true sound (ask 4 (is_radio n v) 0) e in
    site_yes n l true sound (ask 4 (is_radio n v) (ask 20 (is_lifted (lifting g v)) 0)) p.0
    ∙ ask_yes 4 (is_radio n v) (ask 20 (is_lifted (lifting g v)) 0) (ask_zero 3 (is_radio n v) 0 p.1).0

-- the chain gives 20 only at its last question
pub lift_twenty : (n v : ℕ) (l : Lengths) (sound : Bool) (g : Graph) → lift_refusal n v l sound g ≡ 20
    → (radio_refusal n v l sound ≡ 0) × (is_lifted (lifting g v) ≡ false)
unfolding radio_refusal site_refusal lent_refusal ask
lift_twenty n v l sound g = go (size_good n) (site_lengths n l && true) sound (is_radio n v) (is_lifted (lifting g v))
  where
    go : (a b c d e : Bool) → ask 1 a (ask 2 b (ask 3 c (ask 4 d (ask 20 e 0)))) ≡ 20 → (ask 1 a (ask 2 b (ask 3 c (ask 4 d 0))) ≡ 0) × (e ≡ false)
    go true true true true true k = absurd (omega (arith, k))
    go true true true true false k = (refl, refl)
    go true true true false e k = absurd (omega (arith, k))
    go true true false d e k = absurd (omega (arith, k))
    go true false c d e k = absurd (omega (arith, k))
    go false b c d e k = absurd (omega (arith, k))

-- ---- the contract met

module _ (n v : ℕ) (t : Tables) where
  abbrev g : Graph
  g = graph_in n t.links

  pub lift_refused : (q : ℕ) → q ≡ radio_refusal n v (lengths_of t) (sound n t) → (q ≡ 0 → ⊥) → LiftContract n v t (pair q 0 0)
  unfolding LiftContract lift_outcome
  lift_refused q e h =
      let same = e ∙ sym (lift_stops n v (lengths_of t) (sound n t) g (λ z. h (e ∙ z))) in by_refused _ _ _ (λ z. h (same ∙ z)) (rw same)

  module _ (e : radio_refusal n v (lengths_of t) (sound n t) ≡ 0) where
    pub lift_unanswered : lifting g v ≡ [] → LiftContract n v t (pair 20 0 0)
    unfolding LiftContract lift_outcome is_lifted
    lift_unanswered none =
        let no_pair : is_lifted (lifting g v) ≡ false = ap is_lifted none in
        let last = lift_asks n v (lengths_of t) (sound n t) g e ∙ ask_no 20 (is_lifted (lifting g v)) 0 no_pair in
        by_refused _ _ _ (λ z. omega (arith, sym last ∙ z)) (rw last)

    pub lift_answered : (a b : ℕ) → (is_lifted (lifting g v) ≡ true) × (first_pair (lifting g v) ≡ link_of a b) → LiftContract n v t (pair 0 a b)
    unfolding LiftContract lift_outcome
    lift_answered a b (some, first) =
        by_accepted _ _ (lift_asks n v (lengths_of t) (sound n t) g e ∙ ask_yes 20 (is_lifted (lifting g v)) 0 some) (rw first)
