-- The whole check on plain values: what its parts come back with decides soundness, and the calls over it.
use Rattle.std.specs.Prelude.{◌≡◌, ◌&&◌, ◌≤◌}
use Rattle.lists.{specs.Kit.{refl, sym, ap, ◌∙◌, Bool, true, false, cond, and-false, List, ℕ, arith, length, get_or}}
use Rattle.lists.{specs.Lists.{range, all, EntriesBelow}, specs.Facts.{EachOnce}, proofs.Tests.{never}, proofs.Range.{once_below}, proofs.Member.{in_get_d}}
use Rattle.mesh.{specs.Limits.{max_radios, max_neighbours}, specs.Orders.{each_once, rising}, specs.Tables.{Tables}, specs.Sound.{rows_proper, number_in}}
use Rattle.mesh.{specs.Sound.{sound, sound_within}, proofs.Cores.Orders.{each_once_of}}
use Rattle.calls.{specs.Questions.{ask, lengths_of, size_good, site_lengths, lent_refusal, site_refusal, tables_refusal}, specs.CallContracts.{CheckContract}}
use mir.Val.{bool_byte}
use Rattle.calls.{specs.Outcomes.{check_outcome}, proofs.ContractLaws.{value_refused, value_answered}}
use Rattle.calls.{proofs.ChainLaws.{LentGood, lent_zero, lent_yes}}
use Rattle.conditions.{specs.Conditions.{Placed, row_good}, proofs.RowByRow.{sound_rows}}
use Rattle.soundness.specs.Checks.{Placing, RowsRoom, RowsChecked, Sizes, Held, Asked}

-- ---- the conditions together

module _ (n : ℕ) (t : Tables) (ps hs : List ℕ) (sizes : Sizes n (lengths_of t) (length ps) (length hs)) where
  order_long : length t.order ≡ n
  unfolding lengths_of
  order_long = sizes.ordered

  pub place_room : (length t.order ≤ length ps) × (length t.order ≤ max_radios)
  place_room = (omega (arith, order_long, sizes.places), omega (arith, order_long, sizes.small))

  held_no : (qs is : List ℕ) → sound n t ≡ false → Held n t qs is false
  held_no qs is e = record { answer = sym e; placed = λ f. never false f refl; counts = λ f. never false f refl }

  pub held_unplaced : (qs is : List ℕ) (r : Bool) → Placing t.order ps qs r → r ≡ false → Held n t qs is false
  unfolding sound sound_within
  held_unplaced qs is r d e =
      let o : each_once n t.order ≡ false = ap (λ (k : ℕ). each_once k t.order) (sym order_long) ∙ sym d.answer ∙ e in
      held_no qs is (rw o (and-false (rows_proper max_neighbours n t.links)))

  module _ (qs : List ℕ) (r : Bool) (d : Placing t.order ps qs r) (yes : r ≡ true) where
    once : EachOnce n t.order
    once = each_once_of n t.order (ap (λ (k : ℕ). each_once k t.order) (sym order_long) ∙ sym d.answer ∙ yes)

    is_placed : Placed n t.order qs
    is_placed = rw order_long at (d.placed yes)

    pub entries_below : EntriesBelow (length t.numbers) t.order
    unfolding lengths_of
    entries_below i l = omega (arith, once_below n t.order once (get_or t.order i 0) (in_get_d t.order i l), sizes.numbered)

    abbrev rows : Bool
    rows = all (row_good max_neighbours n t.links t.numbers qs) (range 0 n)

    sound_is : sound n t ≡ (rising (number_in t.numbers) t.order && rows)
    unfolding sound
    sound_is = sound_rows max_neighbours n t qs sizes.small once is_placed

    pub held_falls : (is : List ℕ) (u : Bool) → u ≡ rising (number_in t.numbers) t.order → u ≡ false → Held n t qs is false
    held_falls is u e f = held_no qs is (sound_is ∙ rw (sym e ∙ f))

    pub rows_room : RowsRoom n (length t.links) (length t.numbers) (length qs) × (n ≤ length hs)
    unfolding lengths_of
    rows_room = (
      record { linked = sizes.linked; numbered = sizes.numbered; placed = omega (arith, sizes.places, d.long); small = sizes.small },
      sizes.counts,
    )

    pub held_rows : (u : Bool) → u ≡ rising (number_in t.numbers) t.order → u ≡ true
        → (is : List ℕ) (v : Bool) → RowsChecked n t.links t.numbers qs hs is v → Held n t qs is v
    held_rows u e f is v c = record { answer = c.answer ∙ sym (sound_is ∙ rw (sym e ∙ f)); placed = λ _. is_placed; counts = c.counts }

-- ---- questions 1 to 3

module _ (n : ℕ) (t : Tables) (others : Bool) (q : ℕ) (gave : q ≡ lent_refusal n (lengths_of t) others 0) where
  pub asked_lengths : (ps hs : List ℕ) → (q ≡ 0 → ⊥) → Asked n t others ps hs q
  unfolding site_refusal lent_refusal ask
  asked_lengths ps hs h = record {
    number = gave ∙ go (size_good n) (site_lengths n (lengths_of t) && others) (ask 3 (sound n t) 0) (λ z. h (gave ∙ z));
    placed = λ z. absurd (h z);
    counts = λ z. absurd (h z);
  }
    where
      go : (a b : Bool) (later : ℕ) → (ask 1 a (ask 2 b 0) ≡ 0 → ⊥) → ask 1 a (ask 2 b 0) ≡ ask 1 a (ask 2 b later)
      go false b later z = refl
      go true false later z = refl
      go true true later z = absurd (z refl)

  module _ (zero : q ≡ 0) where
    good : LentGood n (lengths_of t) others
    good = (lent_zero n (lengths_of t) others 0 (sym gave ∙ zero)).0

    pub asked_sizes : (p h : ℕ) → max_radios ≤ p → max_radios ≤ h → Sizes n (lengths_of t) p h
    asked_sizes p h rp rh = record {
      small = good.most;
      linked = good.lengths.links;
      numbered = good.lengths.numbers;
      ordered = good.lengths.order;
      places = omega (arith, good.most);
      counts = omega (arith, good.most);
    }

    module _ (ps hs : List ℕ) (r : Bool) (held : Held n t ps hs r) where
      pub asked_no : r ≡ false → Asked n t others ps hs 3
      unfolding site_refusal ask
      asked_no e = record {
        number = sym (lent_yes n (lengths_of t) others (ask 3 (sound n t) 0) good ∙ rw (sym held.answer ∙ e));
        placed = λ z. absurd (omega (arith, z));
        counts = λ z. absurd (omega (arith, z));
      }

      pub asked_yes : r ≡ true → Asked n t others ps hs 0
      unfolding site_refusal ask
      asked_yes e = record {
        number = sym (lent_yes n (lengths_of t) others (ask 3 (sound n t) 0) good ∙ rw (sym held.answer ∙ e));
        placed = λ z. held.placed e;
        counts = λ z. held.counts e;
      }

-- ---- the check: its number is that of questions 1 and 2

module _ (n : ℕ) (t : Tables) where
  pub check_refused : (q : ℕ) → q ≡ tables_refusal n (lengths_of t) → (q ≡ 0 → ⊥) → CheckContract n t (record { number = q; value = 0 })
  unfolding CheckContract check_outcome
  check_refused q e h = value_refused _ _ q e h

  module _ (zero : tables_refusal n (lengths_of t) ≡ 0) where
    pub check_sizes : (p h : ℕ) → max_radios ≤ p → max_radios ≤ h → Sizes n (lengths_of t) p h
    unfolding tables_refusal
    check_sizes = asked_sizes n t true 0 (sym zero) refl

    pub check_answered : (r : Bool) → r ≡ sound n t → CheckContract n t (record { number = 0; value = bool_byte r })
    unfolding CheckContract check_outcome
    check_answered true e = value_answered _ _ _ zero (ap (λ b. cond b 1 0) e)
    check_answered false e = value_answered _ _ _ zero (ap (λ b. cond b 1 0) e)
