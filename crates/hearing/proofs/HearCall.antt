-- A hearing meets its contract, on plain values: both phases, the call.
use Rattle.std.specs.Prelude.{◌≡◌, ◌&&◌, ◌*◌}
use Rattle.lists.{specs.Kit.{refl, sym, ap, ◌∙◌, Bool, true, false, not, List, ℕ, arith, eqb, length, eqb-true}}
use Rattle.lists.{proofs.Tests.{and_left, and_right}}
use Rattle.mesh.specs.{Limits.{max_radios, max_neighbours, row_bytes}, Tables.{Tables, marked}, Sound.{sound, within, irreflexive}}
use Rattle.calls.{specs.Questions.{lengths_of}, specs.Heard.{agreed, agreed_few, heard_proper, heard_lengths, hear_refusal, goes_down, comes_up}}
use Rattle.calls.{specs.Hearing.{RowsLeft, downs, ups}, specs.Outcomes.{value, hear_outcome}, specs.CallContracts.{HearContract}}
use Rattle.calls.{proofs.QuestionLaws.{ask_zero}, proofs.ChainLaws.{SiteGood, site_zero}, proofs.ContractLaws.{by_accepted, by_refused}}
use Rattle.calls.{proofs.SoundSwitches.{Good}, proofs.HearingLaws.{good_marked, rows_first, downs_end, ups_end}}
use Rattle.soundness.{specs.Checks.{Asked}, proofs.RadioLaws.{site_later_no, site_later_yes}}
use Rattle.conditions.specs.Hearing.{OfSize, rows_refusal, OneSidedMarked}
use Rattle.links.{specs.Steps.{Prepared}, proofs.StepLaws.{fits_good, prepared_asked}}
use Rattle.hearing.specs.Hearings.{PhaseBy, MarkedHearing, RowsSwitched, Brought}

-- ---- both phases

downs_up : (n : ℕ) (hs : List ℕ) (t : Tables) → (downs n hs t).up ≡ false
unfolding downs
downs_up n hs t = refl

ups_up : (n : ℕ) (hs : List ℕ) (t : Tables) → (ups n hs t).up ≡ true
unfolding ups
ups_up n hs t = refl

module _ (n : ℕ) (hs : List ℕ) (t : Tables) (k : Good n t) where
  downs_by : PhaseBy n hs (downs n hs t)
  unfolding PhaseBy downs goes_down
  downs_by a b la lb = ap (λ (x : Bool). x && not (agreed hs a b)) (good_marked n t k a b (omega (arith, la, lb)) lb)

  ups_by : PhaseBy n hs (ups n hs t)
  unfolding PhaseBy ups comes_up
  ups_by a b la lb =
      ap (λ (x : Bool). agreed hs a b && not x) (good_marked n t k a b (omega (arith, la, lb)) lb) ∙ go (agreed hs a b) (marked t.links a b)
    where
      go : (x y : Bool) → (x && not y) ≡ (x && not (y && x))
      go true true = refl
      go true false = refl
      go false y = refl

pub both_brought : {n : ℕ} {hs : List ℕ} {t u v : Tables} {ps is qs js : List ℕ} → RowsSwitched false n hs t u ps is → RowsSwitched true n hs u v qs js
    → Brought n hs t v
both_brought {n} {hs} {t} {u} d e = record { between = u; down = λ s p. d.left p s; up = λ s p. e.left p s }

-- ---- the call: q is the number of questions 1 to 3, m that of 14 and 7

module _ (n : ℕ) (hs w : List ℕ) (t : Tables) (ps is : List ℕ) (q : ℕ) (asked : Asked n t (heard_lengths n (length hs) (length w)) ps is q) where
  abbrev R : ℕ
  R = hear_refusal n (lengths_of t) hs (length w) (sound n t)

  refused : (m : ℕ) → m ≡ R → (m ≡ 0 → ⊥) → HearContract n hs t w (value m 0) t w
  unfolding HearContract hear_outcome
  refused m e h0 = by_refused R _ _ (λ z. h0 (e ∙ z)) (rw e)

  pub hear_refused : (q ≡ 0 → ⊥) → HearContract n hs t w (value q 0) t w
  unfolding hear_refusal rows_refusal
  hear_refused h0 =
      refused q (site_later_no n (lengths_of t) (heard_lengths n (length hs) (length w)) (sound n t) q asked.number (rows_refusal n hs) h0) h0

  module _ (zero : q ≡ 0) where
    good : SiteGood n (lengths_of t) (heard_lengths n (length hs) (length w)) (sound n t)
    good = (site_zero n (lengths_of t) (heard_lengths n (length hs) (length w)) (sound n t) 0 (sym asked.number ∙ zero)).0

    pub hear_size : OfSize n hs
    unfolding heard_lengths
    hear_size = record {
      most = good.lent.most;
      long = eqb-true (length hs) (row_bytes * n) (and_left (eqb (length hs) (row_bytes * n)) (eqb (length w) (row_bytes * n)) good.lent.further);
    }

    one_sided_long : length w ≡ row_bytes * n
    unfolding heard_lengths
    one_sided_long = eqb-true (length w) (row_bytes * n) (and_right (eqb (length hs) (row_bytes * n)) (eqb (length w) (row_bytes * n)) good.lent.further)

    module _ (m : ℕ) (rows : m ≡ rows_refusal n hs) where
      number_is : m ≡ R
      unfolding hear_refusal rows_refusal
      number_is =
          rows ∙ sym (site_later_yes n (lengths_of t) (heard_lengths n (length hs) (length w)) (sound n t) q asked.number (rows_refusal n hs) zero)

      pub hear_refused_rows : (m ≡ 0 → ⊥) → HearContract n hs t w (value m 0) t w
      hear_refused_rows h0 = refused m number_is h0

      module _ (yes : m ≡ 0) where
        answers : (heard_proper n hs ≡ true) × (agreed_few max_neighbours n hs ≡ true)
        unfolding rows_refusal
        answers =
            let o = ask_zero 13 (heard_proper n hs) _ (sym rows ∙ yes) in (o.0, (ask_zero 6 (agreed_few max_neighbours n hs) 0 o.1).0)

        is_within : within n hs ≡ true
        unfolding heard_proper
        is_within = and_right (irreflexive n hs) (within n hs) answers.0

        module _ (lp : length ps ≡ max_radios) (li : length is ≡ max_radios) (count : ℕ) (x : List ℕ) (d : OneSidedMarked n hs w count x) where
          prepared : Prepared n t ps is
          prepared = prepared_asked n t _ ps is q asked zero lp li

          pub hear_ready : Prepared n t ps is × MarkedHearing n hs x
          hear_ready = (prepared, record { size = hear_size; few = answers.1; one_sided = d.table one_sided_long })

          module _ (v : Tables) (b : Brought n hs t v) where
            site : Good n t
            site = fits_good n t prepared.good

            after_downs : RowsLeft n (downs n hs t) t n b.between
            after_downs = b.down t (downs n hs t) (downs_up n hs t) (downs_by n hs t site) (rows_first n hs t site answers.0 answers.1)

            after_ups : RowsLeft n (ups n hs t) t n v
            after_ups = b.up t (ups n hs t) (ups_up n hs t) (ups_by n hs t site) (downs_end n hs t site answers.0 answers.1 after_downs)

            pub hear_done : HearContract n hs t w (value 0 count) v x
            unfolding HearContract hear_outcome
            hear_done =
                by_accepted R _ (sym number_is ∙ yes) (rw (
                  d.counted is_within,
                  ups_end n hs t site answers.0 answers.1 after_ups,
                  d.table one_sided_long,
                ))
