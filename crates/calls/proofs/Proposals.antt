-- A link call in two steps (document 02, W-210).
--   proposal_iff       question 16 gets yes exactly where step and list are what asking gives
--   two_steps          asking that is accepted, then committing its answer: the single call's reply, tables and answer table
--   refused_step       asking that is refused: the single call's refusal
--   commit_iff         committing is accepted exactly if asking now would be, with this step and this list
--   commit_number      what it is refused by: the number that asking would get, else 16
-- Asking and committing see the tables as they now are, so a proposal made before other calls is good exactly if it is still true.
use Rattle.std.specs.Prelude.{◌≡◌, ◌⊎◌, ◌↔◌, ◌&&◌, ◌≤◌}
use Rattle.lists.{specs.Kit.{refl, sym, ap, ◌∙◌, inl, inr, Bool, true, false, List, ℕ, arith, ℤ, pos, negsuc, length, take, eqb-true}}
use Rattle.lists.{specs.Kit.{eq-eqb}, specs.Lists.{same, overwrite}, proofs.All.{same_refl, same_eq}, proofs.Overwrite.{take_overwrite}}
use Rattle.lists.{proofs.Tests.{bool_cases, never, and_left, and_right, and_both}}
use Rattle.mesh.specs.{Limits.{max_radios, max_neighbours}, Graph.{Graph}, Levels.{changed, step_of}, Tables.{Tables, graph_in}, Sound.{sound}}
use Rattle.calls.specs.{Questions.{ask, lengths_of, answer_length, site_lengths, size_good, same_step, is_proposal, lent_refusal, site_refusal}}
use Rattle.calls.specs.{Questions.{ends_then, ends_refusal, commit_refusal}, Outcomes.{reply, linked_with, Listing, listing, Tabled}}
use Rattle.calls.specs.{Outcomes.{link_outcome, ask_outcome, commit_outcome}}
use Rattle.calls.proofs.{QuestionLaws.{ask_yes, ask_no, ask_zero, ask_later, size_good_true, true_answer_length}, ChainLaws.{site_zero, site_yes}}
use Rattle.calls.proofs.{ChainLaws.{ends_then_zero, ends_then_yes, ends_then_no}, ContractLaws.{asking_is, number_by, by_zero, by_other}}
use Rattle.calls.specs.declared.Reply.{Reply}
use Rattle.calls.specs.Chains.{link_refusal}

-- ---- question 16

pub same_step_refl : (z : ℤ) → same_step z z ≡ true
unfolding same_step
same_step_refl (pos x) = eq-eqb x x refl
same_step_refl (negsuc x) = eq-eqb x x refl

pub same_step_eq : (x y : ℤ) → same_step x y ≡ true → x ≡ y
unfolding same_step
same_step_eq (pos x) (pos y) h = ap pos (eqb-true x y h)
same_step_eq (pos x) (negsuc y) h = never false h refl
same_step_eq (negsuc x) (pos y) h = never false h refl
same_step_eq (negsuc x) (negsuc y) h = ap negsuc (eqb-true x y h)

pub proposal_iff :
    (up : Bool) (a b : ℕ) (z : ℤ) (xs : List ℕ) (g : Graph) →
    (is_proposal up a b z xs g ≡ true) ↔ ((z ≡ step_of up (changed up a b g)) × (xs ≡ changed up a b g))
unfolding is_proposal
proposal_iff up a b z xs g =
    let cs = changed up a b g in
    let s = step_of up cs in (
      λ h. (same_step_eq z s (and_left (same_step z s) (same xs cs) h), same_eq xs cs (and_right (same_step z s) (same xs cs) h)),
      λ h. rw (h.0, h.1) (and_both (same_step s s) (same cs cs) (same_step_refl s) (same_refl cs)),
    )

-- ---- asking and committing on the same tables

module _ (up : Bool) (n a b : ℕ) (t : Tables) where
  abbrev g : Graph
  g = graph_in n t.links

  abbrev cs : List ℕ
  cs = changed up a b g

  -- the number of asking with a long enough answer table
  abbrev asking : ℕ
  asking = site_refusal n (lengths_of t) true (sound n t) (ends_refusal max_neighbours up n a b g)

  abbrev committing : ℤ → List ℕ → ℕ
  committing z xs = commit_refusal up n a b z xs (lengths_of t) (sound n t) g

  commit_asked : (z : ℤ) (xs : List ℕ) → asking ≡ 0 → committing z xs ≡ ask 16 (is_proposal up a b z xs g) 0
  unfolding commit_refusal
  commit_asked z xs e =
      let q = site_zero n (lengths_of t) true (sound n t) (ends_refusal max_neighbours up n a b g) e in
      site_yes n (lengths_of t) true (sound n t) _ q.0 ∙ ends_then_yes max_neighbours up n a b g _ q.1

  -- a "no" of 1 to 7 comes before 16
  commit_stops : (z : ℤ) (xs : List ℕ) → (asking ≡ 0 → ⊥) → committing z xs ≡ asking
  unfolding commit_refusal site_refusal lent_refusal ask
  commit_stops z xs h = go (size_good n) (site_lengths n (lengths_of t) && true) (sound n t) h
    where
      R : ℕ
      R = ends_refusal max_neighbours up n a b g

      S : ℕ
      S = ends_then max_neighbours up n a b g (ask 16 (is_proposal up a b z xs g) 0)

      go : (i j k : Bool) → (ask 1 i (ask 2 j (ask 3 k R)) ≡ 0 → ⊥) → ask 1 i (ask 2 j (ask 3 k S)) ≡ ask 1 i (ask 2 j (ask 3 k R))
      go true true true s = ends_then_no max_neighbours up n a b g _ s
      go true true false s = refl
      go true false k s = refl
      go false j k s = refl

  link_asking : (w : ℕ) → answer_length n w ≡ true → link_refusal up n a b (lengths_of t) w (sound n t) g ≡ asking
  link_asking w e = rw e

  -- an answer table for as many radios as a site may have is long enough for any n that question 1 takes
  link_any : (w : ℕ) → max_radios ≤ w → link_refusal up n a b (lengths_of t) w (sound n t) g ≡ asking
  unfolding site_refusal lent_refusal
  link_any w l =
      ask_later 1 (size_good n) _ _ (λ p. let e : answer_length n w ≡ true = true_answer_length n w (omega (arith, (size_good_true n p).1)) in rw e)

  link_long : (w : ℕ) → link_refusal up n a b (lengths_of t) w (sound n t) g ≡ 0 → answer_length n w ≡ true
  link_long w e = (site_zero n (lengths_of t) (answer_length n w) (sound n t) (ends_refusal max_neighbours up n a b g) e).0.lent.further

  -- the number of a committing by that of a link call with a long enough answer table
  pub commit_numbered :
      (w : ℕ) → max_radios ≤ w → (z : ℤ) (xs : List ℕ) →
      let R = link_refusal up n a b (lengths_of t) w (sound n t) g in
      ((R ≡ 0 → ⊥) → committing z xs ≡ R) × (R ≡ 0 → committing z xs ≡ ask 16 (is_proposal up a b z xs g) 0)
  commit_numbered w l z xs =
      let e = link_any w l in (λ h. commit_stops z xs (λ y. h (e ∙ y)) ∙ sym e, λ y. commit_asked z xs (sym e ∙ y))

  -- the number of a committing is the one that its questions give
  committed_number : (z : ℤ) (xs : List ℕ) → (commit_outcome up n a b z xs t).reply.number ≡ committing z xs
  unfolding commit_outcome
  committed_number z xs = number_by (λ (o : Tabled Reply). o.reply.number) (committing z xs) _ _ refl (λ q. refl)

  -- committing what asking gives
  same_proposal : asking ≡ 0 → committing (step_of up cs) cs ≡ 0
  same_proposal e = commit_asked (step_of up cs) cs e ∙ ask_yes 16 _ 0 ((proposal_iff up a b (step_of up cs) cs g).1 (refl, refl))

  -- w is the answer table of asking
  module _ (w : List ℕ) where
    abbrev R : ℕ
    R = link_refusal up n a b (lengths_of t) (length w) (sound n t) g

    abbrev q : Listing Reply (List ℕ)
    q = ask_outcome up n a b t w

    asked_number : q.reply.number ≡ R
    asked_number = rw (asking_is up n a b t w) (number_by (λ (o : Listing Reply (List ℕ)). o.reply.number) R _ _ refl (λ p. refl))

    asked_is : q.reply.number ≡ 0 → q ≡ listing (reply 0 (step_of up cs) (length cs)) (overwrite cs w)
    asked_is z = by_zero {o = q} R _ _ (sym asked_number ∙ z) (asking_is up n a b t w)

    asking_zero : q.reply.number ≡ 0 → asking ≡ 0
    asking_zero z = let e : R ≡ 0 = sym asked_number ∙ z in sym (link_asking (length w) (link_long (length w) e)) ∙ e

    -- step and list are what asking gives: 16 gets yes
    proposed :
        q.reply.number ≡ 0 → (z : ℤ) (xs : List ℕ) →
        (is_proposal up a b z xs g ≡ true) ↔ ((z ≡ q.reply.step) × (xs ≡ take q.reply.count q.lent))
    proposed e z xs = rw (asked_is e, take_overwrite cs w) (proposal_iff up a b z xs g)

    pub two_steps :
        q.reply.number ≡ 0 → let r = commit_outcome up n a b q.reply.step (take q.reply.count q.lent) t in
        (r.reply ≡ q.reply) × (linked_with r.reply r.tables q.lent ≡ link_outcome up n a b t w)
    unfolding commit_outcome link_outcome sound
    two_steps z =
        let c = by_zero {o = commit_outcome up n a b (step_of up cs) cs t} _ _ _ (same_proposal (asking_zero z)) refl in
        let l = by_zero {o = link_outcome up n a b t w} _ _ _ (sym asked_number ∙ z) refl in
        rw (asked_is z, take_overwrite cs w, c, l) (refl, refl)

    pub refused_step : (q.reply.number ≡ 0 → ⊥) → linked_with q.reply t q.lent ≡ link_outcome up n a b t w
    unfolding link_outcome sound
    refused_step h =
        let k : R ≡ 0 → ⊥ = λ e. h (asked_number ∙ e) in
        rw (by_other {o = q} R _ _ k (asking_is up n a b t w)) (sym (by_other {o = link_outcome up n a b t w} R _ _ k refl))

    -- ---- committing any proposal, where the answer table of asking is long enough

    module _ (long : n ≤ length w) (z : ℤ) (xs : List ℕ) where
      abbrev r : Tabled Reply
      r = commit_outcome up n a b z xs t

      asked_asking : q.reply.number ≡ asking
      asked_asking = asked_number ∙ link_asking (length w) (true_answer_length n (length w) long)

      number_is : r.reply.number ≡ committing z xs
      number_is = committed_number z xs

      pub commit_iff : (r.reply.number ≡ 0) ↔ ((q.reply.number ≡ 0) × (z ≡ q.reply.step) × (xs ≡ take q.reply.count q.lent))
      unfolding commit_refusal
      commit_iff = (there, λ h. number_is ∙ commit_asked z xs (sym asked_asking ∙ h.0) ∙ ask_yes 16 _ 0 ((proposed h.0 z xs).1 (h.1, h.2)))
        where
          there : r.reply.number ≡ 0 → (q.reply.number ≡ 0) × (z ≡ q.reply.step) × (xs ≡ take q.reply.count q.lent)
          there e =
              let s = site_zero n (lengths_of t) true (sound n t) _ (sym number_is ∙ e) in
              let k = ends_then_zero max_neighbours up n a b g (ask 16 (is_proposal up a b z xs g) 0) s.1 in
              let y : q.reply.number ≡ 0 = asked_asking ∙ site_yes n (lengths_of t) true (sound n t) _ s.0 ∙ k.0 in
              let m = (proposed y z xs).0 (ask_zero 15 (is_proposal up a b z xs g) 0 k.1).0 in (y, m.0, m.1)

      pub commit_number :
          ((q.reply.number ≡ 0 → ⊥) → r.reply.number ≡ q.reply.number)
          × (q.reply.number ≡ 0 → (r.reply.number ≡ 0 → ⊥) → r.reply.number ≡ 16)
      commit_number = (
        λ h. number_is ∙ commit_stops z xs (λ e. h (asked_asking ∙ e)) ∙ sym asked_asking,
        λ y h. sixteen y h (bool_cases (is_proposal up a b z xs g)),
      )
        where
          sixteen :
              q.reply.number ≡ 0 → (r.reply.number ≡ 0 → ⊥) → (is_proposal up a b z xs g ≡ true) ⊎ (is_proposal up a b z xs g ≡ false) →
              r.reply.number ≡ 16
          sixteen y h (inl e) = absurd (h (number_is ∙ commit_asked z xs (sym asked_asking ∙ y) ∙ ask_yes 16 _ 0 e))
          sixteen y h (inr e) = number_is ∙ commit_asked z xs (sym asked_asking ∙ y) ∙ ask_no 16 _ 0 e
