-- The shell tree's answer: refused, and accepted.
use Rattle.std.specs.Prelude.{◌≡◌, ◌&&◌, ◌+◌}
use Rattle.lists.{specs.Kit.{sym, ap, ◌∙◌, Bool, true, ℕ, min, ltb, leb, ltb-true, lt-ltb, leb-true, le-leb, arith, length}}
use Rattle.lists.{proofs.Tests.{and_left, and_right, and_both, iff_eq}}
use Rattle.mesh.specs.{Tables.{Tables, graph_in}, Sound.{sound}}
use Rattle.calls.{specs.Questions.{lengths_of, site_refusal, answer_length}, specs.Outcomes.{value, tree_outcome}, specs.CallContracts.{TreeContract}}
use Rattle.calls.{proofs.ContractLaws.{by_accepted, by_refused}, proofs.ChainLaws.{SiteGood, site_zero}, proofs.QuestionLaws.{nodes_length_true}}
use Rattle.calls.{proofs.QuestionLaws.{answer_length_true}}
use Rattle.soundness.{specs.Checks.{fits_sound}, proofs.SoundSite.{site_good_fits}}
use Rattle.tree.specs.Trees.{Lists, with_front, Room, TreeWritten}
use Rattle.calls.specs.{Chains.{tree_refusal, nodes_length}}

-- ---- room

-- question 2 of the list of nodes and of the answer table in one test
pub room_test : (n nodes answer m : ℕ) → m ≡ min nodes (answer + 1) → ltb n m ≡ (nodes_length n nodes && answer_length n answer)
unfolding answer_length
room_test n nodes answer m e =
    iff_eq (ltb n m) (leb (n + 1) nodes && leb n answer)
    (λ h. let l = ltb-true n m h in and_both (leb (n + 1) nodes) (leb n answer) (le-leb (n + 1) nodes (omega arith)) (le-leb n answer (omega arith)))
    (λ h. lt-ltb n m (omega (
      arith,
      leb-true (n + 1) nodes (and_left (leb (n + 1) nodes) (leb n answer) h),
      leb-true n answer (and_right (leb (n + 1) nodes) (leb n answer) h),
    )))

-- ---- the number that the questions give

module _ (n : ℕ) (t : Tables) (s : Lists) (q : ℕ) (others : Bool) (asked : others ≡ (nodes_length n (length s.nodes) && answer_length n (length s.answer)))
    (gave : q ≡ site_refusal n (lengths_of t) others (sound n t) 0) where
  number_is : q ≡ tree_refusal n (lengths_of t) (length s.nodes) (length s.answer) (sound n t)
  number_is = gave ∙ ap (λ (b : Bool). site_refusal n (lengths_of t) b (sound n t) 0) asked

  pub tree_refused : (q ≡ 0 → ⊥) → TreeContract n t s.nodes s.answer (value q 0) s.nodes s.answer
  unfolding TreeContract tree_outcome sound answer_length
  tree_refused h = by_refused _ _ _ (λ p. h (number_is ∙ p)) (rw number_is)

  module _ (zero : q ≡ 0) where
    good : SiteGood n (lengths_of t) others (sound n t)
    good = (site_zero n (lengths_of t) others (sound n t) 0 (sym gave ∙ zero)).0

    tree_numbers : length t.numbers ≡ n
    unfolding lengths_of
    tree_numbers = good.lent.lengths.numbers

    further : (nodes_length n (length s.nodes) && answer_length n (length s.answer)) ≡ true
    further = sym asked ∙ good.lent.further

    tree_room : Room n s
    tree_room = record {
      nodes = nodes_length_true n (length s.nodes) (and_left (nodes_length n (length s.nodes)) (answer_length n (length s.answer)) further);
      answer = answer_length_true n (length s.answer) (and_right (nodes_length n (length s.nodes)) (answer_length n (length s.answer)) further);
    }

    pub tree_ready : (fits_sound (length t.numbers) t ≡ true) × Room (length t.numbers) s
    tree_ready = (rw tree_numbers (site_good_fits n t others good), rw tree_numbers tree_room)

    pub tree_accepted : (r : ℕ) (u : Lists) → TreeWritten (graph_in (length t.numbers) t.links) s r u
        → TreeContract n t s.nodes s.answer (value 0 r) u.nodes u.answer
    unfolding TreeContract tree_outcome sound answer_length with_front
    tree_accepted r u h =
        let w = rw tree_numbers at h in
        by_accepted _ _ (sym number_is ∙ zero) (rw (w.count, w.front))
