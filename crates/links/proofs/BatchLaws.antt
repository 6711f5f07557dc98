-- A batch meets its contract, on plain values: its questions, its loop, the call.
use Rattle.std.specs.Prelude.{◌≡◌, ◌∷◌, ◌+◌, ◌*◌, ◌/◌, ◌%◌, ◌^◌, ◌≤◌, ◌<◌}
use Rattle.lists.specs.Kit.{refl, sym, ap, subst, ◌∙◌, true, List, ℕ, suc, arith, length, get_or, drop, drop_of_length-le}
use Rattle.lists.specs.Kit.{drop-cons, eqb-true}
use Rattle.mesh.specs.{Limits.{max_radios}, Tables.{Tables}, Sound.{sound}}
use Rattle.calls.{specs.Questions.{lengths_of}, specs.Batches.{list_length, batch_refusal}, specs.Outcomes.{tabled, value, links_taken}}
use Rattle.calls.{specs.Outcomes.{batch_outcome}, specs.CallContracts.{BatchContract}, specs.declared.Value.{Value}, proofs.ChainLaws.{site_zero}}
use Rattle.calls.{proofs.ContractLaws.{by_accepted, by_refused}, proofs.Batches.{BatchLeft, batch_first, batch_next, batch_ended, batch_halted, batch_few}}
use Rattle.soundness.specs.Checks.{Asked}
use Rattle.links.specs.Steps.{Prepared, Stepped}
use Rattle.links.proofs.StepLaws.{fits_good, prepared_asked}

-- ---- the loop

-- `done` links of the list xs are up, which brought the tables t to u
pub record Batching (n : ℕ) (xs : List ℕ) (t u : Tables) (places not_lower : List ℕ) (done : ℕ) : Type 0 where
  pub prepared : Prepared n u places not_lower
  pub left : BatchLeft n xs t done (drop (2 * done) xs) u

pub batching_none : (n : ℕ) (xs : List ℕ) {t : Tables} {places not_lower : List ℕ} → Prepared n t places not_lower → Batching n xs t t places not_lower 0
batching_none n xs {t} k = record { prepared = k; left = batch_first n xs t }

module _ {n : ℕ} {xs : List ℕ} {t u : Tables} {places not_lower : List ℕ} {done : ℕ} (b : Batching n xs t u places not_lower done) where
  abbrev at : ℕ
  at = 2 * done

  pub batching_few : done + 1 < 2 ^ 32
  batching_few = omega (arith, batch_few (drop at xs) b.left (fits_good n u b.prepared.good))

  pub batching_end : list_length (length xs) ≡ true → done ≡ length xs / 2 → tabled (value 0 (length xs / 2)) u ≡ links_taken n xs t
  unfolding list_length
  batching_end even e =
      let all : length xs ≤ at = omega (arith, e, eqb-true (length xs % 2) 0 even) in
      rw (← e) (batch_ended (subst (λ (ys : List ℕ). BatchLeft n xs t done ys u) (drop_of_length-le xs all) b.left))

  module _ (h : done < length xs / 2) where
    l : at < length xs
    l = omega arith

    pub batching_pair : at + 1 < length xs
    batching_pair = omega arith

    rest : drop at xs ≡ get_or xs at 0 ∷ get_or xs (at + 1) 0 ∷ drop (at + 2) xs
    rest =
        let one : suc at ≡ at + 1 = omega arith in
        let two : suc (at + 1) ≡ at + 2 = omega arith in
        drop-cons xs at 0 l ∙ rw one (ap (λ (ys : List ℕ). get_or xs at 0 ∷ ys) (drop-cons xs (at + 1) 0 batching_pair ∙ rw two refl))

    next : BatchLeft n xs t done (get_or xs at 0 ∷ get_or xs (at + 1) 0 ∷ drop (at + 2) xs) u
    next = subst (λ (ys : List ℕ). BatchLeft n xs t done ys u) rest b.left

    module _ (r : ℕ) (v : Tables) (qs is : List ℕ) (d : Stepped true n (get_or xs at 0) (get_or xs (at + 1) 0) u r v qs is) where
      pub batching_turn : r ≡ 0 → Batching n xs t v qs is (done + 1)
      batching_turn z = record {
        prepared = d.prepared;
        left =
            let q : at + 2 ≡ 2 * (done + 1) = omega arith in
            subst (λ (j : ℕ). BatchLeft n xs t (done + 1) (drop j xs) v) q
            (subst (λ (o : Tables). BatchLeft n xs t (done + 1) (drop (at + 2) xs) o) (sym (d.done z))
            (batch_next (get_or xs at 0) (get_or xs (at + 1) 0) (drop (at + 2) xs) next (fits_good n u b.prepared.good) (sym d.number ∙ z)));
      }

      pub batching_halt : (r ≡ 0 → ⊥) → tabled (value r done) v ≡ links_taken n xs t
      batching_halt h =
          subst (λ (o : Tables). tabled (value r done) o ≡ links_taken n xs t) (sym (d.refused h))
          (batch_halted (get_or xs at 0) (get_or xs (at + 1) 0) r (drop (at + 2) xs) next d.number h)

-- ---- the call: q is the number of questions 1 to 3

module _ (n : ℕ) (xs : List ℕ) (t : Tables) (ps hs : List ℕ) (q : ℕ) (asked : Asked n t (list_length (length xs)) ps hs q) where
  abbrev R : ℕ
  R = batch_refusal n (lengths_of t) (length xs) (sound n t)

  number_is : q ≡ R
  unfolding batch_refusal
  number_is = asked.number

  pub batch_refused : (q ≡ 0 → ⊥) → BatchContract n xs t (value q 0) t
  unfolding BatchContract batch_outcome
  batch_refused h0 = by_refused R _ _ (λ z. h0 (number_is ∙ z)) (rw number_is)

  module _ (zero : q ≡ 0) where
    pub batch_ready : length ps ≡ max_radios → length hs ≡ max_radios → Prepared n t ps hs × (list_length (length xs) ≡ true)
    batch_ready lp lh = (
      prepared_asked n t (list_length (length xs)) ps hs q asked zero lp lh,
      (site_zero n (lengths_of t) (list_length (length xs)) (sound n t) 0 (sym asked.number ∙ zero)).0.lent.further,
    )

    pub batch_carried : (r : Value) (v : Tables) → tabled r v ≡ links_taken n xs t → BatchContract n xs t r v
    unfolding BatchContract batch_outcome
    batch_carried r v c = by_accepted R _ (sym number_is ∙ zero) c
