-- A link call meets its contract, on plain values: refused and accepted, by the plan that was made.
use Rattle.std.specs.Prelude.{◌≡◌, Ok}
use Rattle.lists.specs.{Kit.{sym, ◌∙◌, Bool, List, ℕ, arith, pos, length}, Lists.{overwrite}}
use Rattle.mesh.specs.{Limits.{max_neighbours}, Levels.{changed, step_of}, Tables.{Tables, graph_in}, Sound.{sound}}
use Rattle.calls.{specs.Questions.{answer_length, lengths_of, ends_refusal}, specs.Switches.{switch, switched}, specs.Outcomes.{reply}}
use Rattle.calls.specs.{Outcomes.{linked_with, link_outcome}, CallContracts.{LinkContract}, declared.Change.{Change}, Answers.{link_reply}}
use Rattle.calls.{proofs.ContractLaws.{by_accepted}}
use Rattle.calls.{proofs.ContractLaws.{by_refused}, proofs.ChainLaws.{site_zero}}
use Rattle.links.specs.Changes.{PlanFits, Applied}
use Rattle.plan.{specs.Asked.{PlanContract}, proofs.Asking.{asked_applicable}}
use Rattle.links.proofs.Applied.{planned_fits, applied_accepted}
use Rattle.calls.specs.Chains.{link_refusal}

module _ (up : Bool) (n a b : ℕ) (t : Tables) (w before : List ℕ) (q start size taken : ℕ) (stretch : List ℕ)
    (decided : PlanContract up n a b t (length w) before q start size taken stretch) where
  abbrev R : ℕ
  R = link_refusal up n a b (lengths_of t) (length w) (sound n t) (graph_in n t.links)

  -- the tables and the answer table are as they were
  pub link_refused : (q ≡ 0 → ⊥) → LinkContract up n a b t w (reply q (pos 0) 0) t w
  unfolding LinkContract link_outcome sound
  link_refused h = by_refused R _ _ (λ z. h (decided.number ∙ z)) (rw decided.number)

  pub fits_decided : q ≡ 0 → PlanFits start size taken (length stretch) (length t.order)
  unfolding lengths_of
  fits_decided z =
      let zero : R ≡ 0 = sym decided.number ∙ z in
      let good = (site_zero n (lengths_of t) (answer_length n (length w)) (sound n t) (ends_refusal max_neighbours up n a b (graph_in n t.links)) zero).0 in
      planned_fits up n a b t w (asked_applicable up n a b t w zero) start size taken stretch (decided.planned z)
      (omega (arith, good.lent.lengths.order))

  pub link_applied : q ≡ 0 → (r : Change) (v : Tables) (x : List ℕ) → Applied up a b start size taken stretch t w r v x
      → let cs = changed up a b (graph_in n t.links) in
      linked_with (link_reply (Ok r)) v x ≡ linked_with (reply 0 (step_of up cs) (length cs)) (switched n (switch up a b) t) (overwrite cs w)
  link_applied z = applied_accepted up n a b t w (asked_applicable up n a b t w (sym decided.number ∙ z)) start size taken stretch (decided.planned z)

  pub link_accepted : q ≡ 0 → (r : Change) (v : Tables) (x : List ℕ) → Applied up a b start size taken stretch t w r v x
      → LinkContract up n a b t w (link_reply (Ok r)) v x
  unfolding LinkContract link_outcome sound
  link_accepted z r v x d = by_accepted R _ (sym decided.number ∙ z) (link_applied z r v x d)
