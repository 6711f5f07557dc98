-- The call for the site sheet meets its contract, on plain values: refused by 1 to 3, refused by 12, the sheet in front of the page.
use Rattle.std.specs.Prelude.{◌≡◌, ◌++◌, ◌+◌, ◌*◌, ◌≤◌, ◌<◌}
use Rattle.lists.specs.{Kit.{sym, ap, ◌∙◌, true, List, ℕ, arith, length, drop, lt-leb}, Lists.{overwrite}}
use Rattle.mesh.specs.{Limits.{max_radios}, Tables.{Tables}, Sound.{sound}}
use Rattle.text.{specs.Print.{Buffer, buffer_at, max_place, put}, proofs.PrintLaws.{put_fits}}
use Rattle.calls.{specs.Sheet.{line_bytes, sheet, sheet_lines, sheet_length}, specs.SheetCells.{CellsFit}, specs.Questions.{ask, lengths_of, site_refusal}}
use Rattle.calls.{specs.CallContracts.{SheetContract}, proofs.QuestionLaws.{ask_no}, specs.Outcomes.{sheet_outcome}}
use Rattle.calls.{proofs.ContractLaws.{listing_refused, listing_answered}, proofs.ChainLaws.{SiteGood, site_zero, site_yes, sheet_yes, site_stops}}
use Rattle.calls.{proofs.SheetLaws.{length_sheet, sheet_fits}}
use Rattle.calls.specs.{Chains.{sheet_refusal, holds_sheet}}

module _ (n : ℕ) (t : Tables) (w : List ℕ) where
  abbrev questions : ℕ
  questions = site_refusal n (lengths_of t) true (sound n t) 0

  abbrev refusal : ℕ
  refusal = sheet_refusal n (lengths_of t) (length w) (sound n t)

  pub sheet_refused : (q : ℕ) → q ≡ questions → (q ≡ 0 → ⊥) → SheetContract n t w (record { number = q; value = 0 }) w
  unfolding SheetContract sheet_outcome sound
  sheet_refused q e h =
      listing_refused refusal _ _ w q (e ∙ sym (site_stops n (lengths_of t) true (sound n t) (ask 12 (holds_sheet n (length w)) 0) (λ z. h (e ∙ z)))) h

  module _ (none : questions ≡ 0) where
    passed : SiteGood n (lengths_of t) true (sound n t)
    passed = (site_zero n (lengths_of t) true (sound n t) 0 none).0

    pub sheet_small : n ≤ max_radios
    sheet_small = passed.lent.most

    numbers_long : length t.numbers ≡ n
    unfolding lengths_of
    numbers_long = passed.lent.lengths.numbers

    pub sheet_cells_fit : CellsFit t.numbers
    sheet_cells_fit = sheet_fits n t numbers_long passed.is_sound sheet_small

    module _ (size : ℕ) (sized : size ≡ line_bytes * sheet_lines n) where
      pub sheet_room : size ≤ length w → line_bytes * sheet_lines (length t.numbers) ≤ length w
      sheet_room room = omega (arith, ap sheet_lines numbers_long)

      pub sheet_no_room : length w < size → SheetContract n t w (record { number = 12; value = 0 }) w
      unfolding SheetContract sheet_outcome sound sheet_length
      sheet_no_room h =
          let twelve : refusal ≡ 12 =
          site_yes n (lengths_of t) true (sound n t) (ask 12 (holds_sheet n (length w)) 0) passed
          ∙ ask_no 12 (holds_sheet n (length w)) 0 (lt-leb (sheet_length n) (length w) (omega arith)) in
          listing_refused refusal _ _ w 12 (sym twelve) (λ z. omega (arith, z))

      pub sheet_accepted : (x : List ℕ) → size ≤ length w → length w ≤ max_place → x ≡ (put (buffer_at w 0) (sheet t.numbers)).bytes
          → SheetContract n t w (record { number = 0; value = size }) x
      unfolding SheetContract sheet_outcome sound sheet_length overwrite
      sheet_accepted x room short e =
          let long : length (sheet t.numbers) ≡ size = length_sheet t.numbers sheet_cells_fit ∙ ap sheet_length numbers_long ∙ sym sized in
          let zero_is : refusal ≡ 0 = sheet_yes n (lengths_of t) (length w) (sound n t) passed (omega arith) in
          let all : 0 + length (sheet t.numbers) ≡ length (sheet t.numbers) = omega arith in
          let front : x ≡ overwrite (sheet t.numbers) w =
          e ∙ ap (λ (b : Buffer). b.bytes) (put_fits w 0 (sheet t.numbers) (omega arith) short)
          ∙ ap (λ (k : ℕ). sheet t.numbers ++ drop k w) all in
          listing_answered refusal _ _ w size x zero_is sized front
