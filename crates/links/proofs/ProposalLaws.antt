-- Asking and committing meet their contracts, on plain values. In order: a plan's changed radios, asking, a proposal held against a plan,
-- committing.
use Rattle.std.specs.Prelude.{◌≡◌, ◌&&◌, ◌≤◌, ◌↔◌, IsTrue, Ok}
use Rattle.lists.{specs.Kit.{refl, sym, ap, subst, ◌∙◌, Bool, true, false, List, ℕ, min, arith, ℤ, pos, length, take, replicate}}
use Rattle.lists.{specs.Kit.{length-replicate, length-take-le, take_all}, specs.Lists.{same, overwrite}, proofs.All.{same_refl, same_eq}}
use Rattle.lists.{proofs.Parts.{take_min}}
use Rattle.lists.{proofs.Overwrite.{take_overwrite}}
use mir.{Syntax.{w8}, Val.{SFits, to_z, of_z}, Facts.{to_z-of_z}}
use Rattle.mesh.specs.{Limits.{max_radios}, Graph.{Graph}, Levels.{changed, step_of}, Tables.{Tables, graph_in}, Sound.{sound}}
use Rattle.calls.{specs.Questions.{ask, lengths_of, same_step, is_proposal, commit_refusal}, specs.Outcomes.{Linked, tabled, reply}, specs.Answers.{link_reply}}
use Rattle.calls.{specs.Outcomes.{commit_outcome}, specs.CallContracts.{AskContract, CommitContract}, specs.declared.{Reply.{Reply}, Change.{Change}}}
use Rattle.calls.{proofs.QuestionLaws.{ask_yes}}
use Rattle.calls.{proofs.QuestionLaws.{ask_no}, proofs.ContractLaws.{asking_is, by_accepted, by_refused}, proofs.Proposals.{commit_numbered, proposal_iff}}
use Rattle.calls.{proofs.Proposals.{same_step_eq}}
use Rattle.calls.{proofs.Proposals.{same_step_refl}}
use Rattle.tables.specs.Steps.{all_stepped}
use Rattle.calls.specs.Chains.{link_refusal}
use Rattle.plan.{specs.Planned.{changed_part}, specs.Asked.{PlanContract}, proofs.Asking.{asked_applicable}}
use Rattle.links.specs.{Changes.{in_order, counted_step, PlanFits, Reported, PlanPut, Applied}, Proposed.{plan_proposes}}
use Rattle.links.proofs.{ChangeLaws.{counted_step_length, counted_step_held, length_in_order}, Applied.{in_order_planned, fits_answer}}
use Rattle.links.proofs.{LinkCalls.{fits_decided, link_applied}}

-- ---- a plan in a stretch for as many radios as a site may have; w is the answer table

module _ (up : Bool) (n a b : ℕ) (t : Tables) (w before : List ℕ) (q start size taken : ℕ) (stretch : List ℕ)
    (decided : PlanContract up n a b t (length w) before q start size taken stretch) where
  abbrev g : Graph
  g = graph_in n t.links

  abbrev cs : List ℕ
  cs = changed up a b g

  abbrev R : ℕ
  R = link_refusal up n a b (lengths_of t) (length w) (sound n t) g

  pub listed_is : q ≡ 0 → in_order (changed_part up taken size stretch) ≡ cs
  listed_is z =
      in_order_planned up n a b t w (asked_applicable up n a b t w (sym decided.number ∙ z)) start size taken stretch (decided.planned z)

  listed_fits : q ≡ 0 → take (length w) cs ≡ cs
  listed_fits z = fits_answer up n a b t w (asked_applicable up n a b t w (sym decided.number ∙ z)) start size taken stretch (decided.planned z)

  -- ---- asking

  pub ask_refused : (q ≡ 0 → ⊥) → AskContract up n a b t w (reply q (pos 0) 0) w
  unfolding AskContract
  ask_refused h = by_refused R _ _ (λ z. h (decided.number ∙ z)) (rw decided.number) ∙ sym (asking_is up n a b t w)

  pub ask_accepted : q ≡ 0 → (r : Change) (x : List ℕ) → Reported up size taken stretch w r x → AskContract up n a b t w (link_reply (Ok r)) x
  unfolding AskContract
  ask_accepted z r x d =
      let many : r.count ≡ length cs = d.count ∙ ap length (listed_is z) in
      let way : r.step ≡ step_of up cs = d.step ∙ ap (counted_step up) many ∙ counted_step_length up cs in
      let listed : x ≡ overwrite cs w = d.answer_is ∙ ap (λ (ys : List ℕ). overwrite ys w) (ap (take (length w)) (listed_is z) ∙ listed_fits z) in
      by_accepted R _ (sym decided.number ∙ z) (rw (way, many, listed)) ∙ sym (asking_is up n a b t w)

-- ---- a proposal held against a plan: steps are compared as eight bits

-- a test of two lists, in one word
same_test : (o : Bool) (xs ys : List ℕ) → (IsTrue o ↔ (xs ≡ ys)) → o ≡ same xs ys
same_test true xs ys h = rw (h.0 refl) (sym (same_refl ys))
same_test false xs ys h = go (same xs ys) refl
  where
    go : (s : Bool) → same xs ys ≡ s → false ≡ s
    go true e = h.1 (same_eq xs ys e)
    go false e = refl

module _ (up : Bool) (size taken : ℕ) (stretch lent : List ℕ) (long : length lent ≡ max_radios) (r : Change) (x : List ℕ)
    (told : Reported up size taken stretch lent r x) where
  abbrev listed : List ℕ
  listed = in_order (changed_part up taken size stretch)

  front : take r.count x ≡ listed
  front =
      let all : take (length lent) listed ≡ listed = take_all (length lent) listed (omega (arith, length_in_order (changed_part up taken size stretch))) in
      rw (told.count, told.answer_is, all) (take_overwrite listed lent)

  pub count_fits : r.count ≤ length x
  count_fits =
      omega (
        arith,
        told.count,
        ap length front,
        ap length (take_min r.count x),
        length-take-le (min r.count (length x)) x (omega arith),
      )

  step_told : r.step ≡ counted_step up (length listed)
  step_told = told.step ∙ ap (counted_step up) told.count

  module _ (z : ℤ) (xs : List ℕ) where
    -- the step is another
    pub other_step : (of_z w8 r.step ≡ of_z w8 z → ⊥) → false ≡ plan_proposes up size taken stretch z xs
    unfolding plan_proposes
    other_step h = go (same_step z (counted_step up (length listed))) refl
      where
        go : (s : Bool) → same_step z (counted_step up (length listed)) ≡ s → false ≡ (s && same xs listed)
        go true e = absurd (h (ap (of_z w8) (step_told ∙ sym (same_step_eq z (counted_step up (length listed)) e))))
        go false e = refl

    -- the step is this one: the lists decide
    pub same_list : SFits w8 z → of_z w8 r.step ≡ of_z w8 z → (o : Bool) → (IsTrue o ↔ (xs ≡ take r.count x)) → o ≡ plan_proposes up size taken stretch z xs
    unfolding plan_proposes
    same_list fits e o f =
        let is : z ≡ counted_step up (length listed) =
        sym (to_z-of_z fits) ∙ ap (to_z w8) (sym e) ∙ counted_step_held up (length listed) r.step step_told in
        let yes : same_step z (counted_step up (length listed)) ≡ true = rw (← is) (same_step_refl z) in
        rw (yes, ← front) (same_test o xs (take r.count x) f)

-- ---- committing: a single call would list the changed radios in an answer table for as many radios as a site may have; k is its length

abbrev pub scratch : List ℕ
scratch = replicate max_radios 0

module _ (up : Bool) (n a b : ℕ) (t : Tables) (k : ℕ) (is : k ≡ max_radios) (before : List ℕ) (q start size taken : ℕ) (stretch : List ℕ)
    (planned : PlanContract up n a b t k before q start size taken stretch) (z : ℤ) (xs : List ℕ) where
  abbrev site : Graph
  site = graph_in n t.links

  abbrev C : ℕ
  C = commit_refusal up n a b z xs (lengths_of t) (sound n t) site

  abbrev L : ℕ
  L = link_refusal up n a b (lengths_of t) (length scratch) (sound n t) site

  decided : PlanContract up n a b t (length scratch) before q start size taken stretch
  decided =
      subst (λ (j : ℕ). PlanContract up n a b t j before q start size taken stretch) (is ∙ sym (length-replicate {A = ℕ} max_radios 0)) planned

  numbered : ((L ≡ 0 → ⊥) → C ≡ L) × (L ≡ 0 → C ≡ ask 16 (is_proposal up a b z xs site) 0)
  numbered = commit_numbered up n a b t (length scratch) (omega (arith, length-replicate {A = ℕ} max_radios 0)) z xs

  pub commit_refused : (q ≡ 0 → ⊥) → CommitContract up n a b z xs t (reply q (pos 0) 0) t
  unfolding CommitContract commit_outcome
  commit_refused h =
      let same : C ≡ q = numbered.0 (λ y. h (decided.number ∙ y)) ∙ sym decided.number in
      by_refused C _ _ (λ y. h (sym same ∙ y)) (rw (sym same))

  module _ (zero : q ≡ 0) where
    held : plan_proposes up size taken stretch z xs ≡ is_proposal up a b z xs site
    unfolding plan_proposes is_proposal
    held =
        rw (listed_is up n a b t scratch before q start size taken stretch decided zero, counted_step_length up (changed up a b site)) refl

    pub commit_fits : PlanFits start size taken (length stretch) (length t.order)
    commit_fits = fits_decided up n a b t scratch before q start size taken stretch decided zero

    asked : C ≡ ask 16 (is_proposal up a b z xs site) 0
    asked = numbered.1 (sym decided.number ∙ zero)

    -- y is the step as the code holds it, o what the proposal's test says
    module _ (y : ℤ) (o : Bool) (f : y ≡ z) (p : o ≡ plan_proposes up size taken stretch y xs) where
      told_is : o ≡ is_proposal up a b z xs site
      told_is = p ∙ ap (λ (i : ℤ). plan_proposes up size taken stretch i xs) f ∙ held

      pub commit_not : o ≡ false → CommitContract up n a b z xs t (reply 16 (pos 0) 0) t
      unfolding CommitContract commit_outcome
      commit_not j =
          let same : C ≡ 16 = asked ∙ ask_no 16 _ 0 (sym told_is ∙ j) in
          by_refused C _ _ (λ y. omega (arith, same, y)) (rw (sym same))

      module _ (j : o ≡ true) where
        abbrev now_changed : List ℕ
        now_changed = changed up a b site

        true_of : (z ≡ step_of up now_changed) × (xs ≡ now_changed)
        true_of = (proposal_iff up a b z xs site).0 (sym told_is ∙ j)

        listed_here : in_order (changed_part up taken size stretch) ≡ now_changed
        listed_here = listed_is up n a b t scratch before q start size taken stretch decided zero

        -- a list as long as a site has radios at most
        pub list_few : length xs ≤ max_radios
        list_few = omega (arith, ap length (true_of.1 ∙ sym listed_here), length_in_order (changed_part up taken size stretch))

        -- the list is the one that a single call would have put in front of its answer table
        applied : (v : Tables) → PlanPut up a b start size stretch (take (length xs) xs) y t v
            → Applied up a b start size taken stretch t scratch (record { step = y; count = length xs }) v
            (overwrite (take (length scratch) (in_order (changed_part up taken size stretch))) scratch)
        applied v d =
            let fit : take (length scratch) now_changed ≡ now_changed =
            take_all (length scratch) now_changed (omega (arith, list_few, ap length true_of.1, length-replicate {A = ℕ} max_radios 0)) in
            let front : take (length xs) (overwrite (take (length scratch) (in_order (changed_part up taken size stretch))) scratch) ≡ xs =
            rw (listed_here, fit, true_of.1) (take_overwrite now_changed scratch) in
            record {
              count = ap length (true_of.1 ∙ sym listed_here);
              step = f ∙ true_of.0 ∙ sym (counted_step_length up now_changed) ∙ ap (λ (ys : List ℕ). counted_step up (length ys)) (sym true_of.1);
              links = d.links;
              answer_is = refl;
              numbers = d.numbers ∙ ap (λ (ys : List ℕ). all_stepped ys y t.numbers) (take_all (length xs) xs (omega arith) ∙ sym front);
              order = d.order;
            }

        pub commit_accepted : (v : Tables) → PlanPut up a b start size stretch (take (length xs) xs) y t v
            → CommitContract up n a b z xs t (reply 0 y (length xs)) v
        unfolding CommitContract commit_outcome
        commit_accepted v d =
            let l = link_applied up n a b t scratch before q start size taken stretch decided zero _ v _ (applied v d) in
            by_accepted C _ (asked ∙ ask_yes 16 _ 0 (sym told_is ∙ j)) (ap (λ (o : Linked Reply). tabled o.reply o.tables) l)
