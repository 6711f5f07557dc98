-- Contracts of the questions, met: refused and answered. In order: number, neighbours, linked, first.
use Rattle.std.specs.Prelude.{◌≡◌, ◌+◌, ◌≤◌, ◌<◌}
use Rattle.lists.{specs.Kit.{sym, ap, ◌∙◌, Bool, true, cond, List, ℕ, add-one, length, get_or, drop, drop_of_length-le, drop-cons, eq-eqb}}
use Rattle.lists.{specs.Kit.{ne_eqb}, proofs.Tests.{byte_bit}}
use mir.Val.{bool_byte}
use Rattle.mesh.specs.{Limits.{max_neighbours}, Tables.{Tables, marked}, Sound.{sound}}
use Rattle.calls.{specs.Questions.{lengths_of, radio_refusal, pair_refusal}, specs.Outcomes.{first_of_two, value, number_outcome, neighbours_outcome}}
use Rattle.calls.{specs.Outcomes.{linked_outcome, first_outcome}, specs.CallContracts.{NumberContract, NeighboursContract, LinkedContract, FirstContract}}
use Rattle.calls.{proofs.ChainLaws.{radio_zero, pair_zero}, proofs.ContractLaws.{value_refused, value_answered}}
use Rattle.rows.specs.Rows.{row_count}
use Rattle.soundness.proofs.SoundSite.{SoundSite, site_good_sound, linked_marked, number_entry, degree_counted}

-- ---- one radio

module _ (n v : ℕ) (t : Tables) where
  pub number_refused : (q : ℕ) → q ≡ radio_refusal n v (lengths_of t) (sound n t) → (q ≡ 0 → ⊥) → NumberContract n v t (value q 0)
  unfolding NumberContract number_outcome sound
  number_refused q e h = value_refused _ _ q e h

  pub neighbours_refused : (q : ℕ) → q ≡ radio_refusal n v (lengths_of t) (sound n t) → (q ≡ 0 → ⊥) → NeighboursContract n v t (value q 0)
  unfolding NeighboursContract neighbours_outcome sound
  neighbours_refused q e h = value_refused _ _ q e h

  module _ (e : radio_refusal n v (lengths_of t) (sound n t) ≡ 0) where
    pub radio_site : SoundSite n t
    radio_site = site_good_sound n t true (radio_zero n v (lengths_of t) (sound n t) e).0

    pub radio_below : v < n
    radio_below = (radio_zero n v (lengths_of t) (sound n t) e).1

    pub number_answered : NumberContract n v t (value 0 (get_or t.numbers v 0))
    unfolding NumberContract number_outcome sound
    number_answered = value_answered _ _ _ e (number_entry n t radio_site v radio_below)

    pub neighbours_answered : (x : ℕ) → x ≡ row_count max_neighbours t.links v → NeighboursContract n v t (value 0 x)
    unfolding NeighboursContract neighbours_outcome sound
    neighbours_answered x h = value_answered _ _ _ e (h ∙ degree_counted n t radio_site v radio_below)

-- ---- two radios

module _ (n a b : ℕ) (t : Tables) where
  pub linked_refused : (q : ℕ) → q ≡ pair_refusal n a b (lengths_of t) (sound n t) → (q ≡ 0 → ⊥) → LinkedContract n a b t (value q 0)
  unfolding LinkedContract linked_outcome sound
  linked_refused q e h = value_refused _ _ q e h

  pub first_refused : (q : ℕ) → q ≡ pair_refusal n a b (lengths_of t) (sound n t) → (q ≡ 0 → ⊥) → FirstContract n a b t (value q 0)
  unfolding FirstContract first_outcome sound
  first_refused q e h = value_refused _ _ q e h

  module _ (e : pair_refusal n a b (lengths_of t) (sound n t) ≡ 0) where
    pub linked_answered : (x : Bool) → x ≡ marked t.links a b → LinkedContract n a b t (value 0 (bool_byte x))
    unfolding LinkedContract linked_outcome sound
    linked_answered x h =
        let r = pair_zero n a b (lengths_of t) (sound n t) e in
        value_answered _ _ _ e
        (byte_bit x ∙ ap (λ (y : Bool). cond {A = ℕ} y 1 0) (h ∙ sym (linked_marked n t (site_good_sound n t true r.0) a b r.1 r.2)))

    pub first_answered : (x : ℕ) → x ≡ first_of_two a b t.order → FirstContract n a b t (value 0 x)
    unfolding FirstContract first_outcome sound
    first_answered x h = value_answered _ _ _ e h

-- ---- which stands first: what is left of the list decides

abbrev pub FirstSoFar : (a b : ℕ) → (list : List ℕ) → (i : ℕ) → Type 0
FirstSoFar a b xs i = first_of_two a b (drop i xs) ≡ first_of_two a b xs

module _ (a b : ℕ) (xs : List ℕ) (i : ℕ) (l : i < length xs) (so_far : FirstSoFar a b xs i) where
  pub first_is_a : get_or xs i 0 ≡ a → a ≡ first_of_two a b xs
  unfolding first_of_two
  first_is_a e = sym (ap (first_of_two a b) (drop-cons xs i 0 l) ∙ rw (eq-eqb (get_or xs i 0) a e)) ∙ so_far

  pub first_is_b : (get_or xs i 0 ≡ a → ⊥) → get_or xs i 0 ≡ b → b ≡ first_of_two a b xs
  unfolding first_of_two
  first_is_b h e = sym (ap (first_of_two a b) (drop-cons xs i 0 l) ∙ rw (ne_eqb (get_or xs i 0) a h, eq-eqb (get_or xs i 0) b e)) ∙ so_far

  pub first_later : (get_or xs i 0 ≡ a → ⊥) → (get_or xs i 0 ≡ b → ⊥) → FirstSoFar a b xs (i + 1)
  unfolding first_of_two
  first_later h e =
      ap (λ (j : ℕ). first_of_two a b (drop j xs)) (add-one i)
      ∙ sym (ap (first_of_two a b) (drop-cons xs i 0 l) ∙ rw (ne_eqb (get_or xs i 0) a h, ne_eqb (get_or xs i 0) b e)) ∙ so_far

pub first_neither : (a b : ℕ) (xs : List ℕ) (i : ℕ) → length xs ≤ i → FirstSoFar a b xs i → a ≡ first_of_two a b xs
unfolding first_of_two
first_neither a b xs i l h = sym (ap (first_of_two a b) (drop_of_length-le xs {i = i} l)) ∙ h
