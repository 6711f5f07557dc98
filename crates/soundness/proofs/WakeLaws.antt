-- The later neighbours of a radio of sound tables: what the count of its row's ends gives is what the order says.
-- In order: as the code counts them, the answer.
use Rattle.std.specs.Prelude.{◌≡◌, ◌&&◌}
use Rattle.lists.{specs.Kit.{sym, subst, ◌∙◌, Bool, true, List, ℕ, arith, leb, length}, specs.Lists.{range, all}, specs.Facts.{EachOnce}}
use Rattle.lists.{proofs.Tests.{and_left, and_right, and_both}, proofs.All.{all_below}}
use Rattle.mesh.{specs.Limits.{max_radios, max_neighbours}, specs.Orders.{rising}, specs.Tables.{Tables, graph_in}, specs.Sound.{number_in, rows_proper, sound}}
use Rattle.mesh.{specs.Sound.{sound_within}, proofs.Cores.Orders.{of_each_once}, proofs.Cores.KOrders.{k_order_certificate}}
use Rattle.mesh.{proofs.Tables.Soundness.{sound_right}}
use Rattle.calls.{specs.Questions.{lengths_of, size_good, site_lengths, radio_refusal}, specs.Outcomes.{later, later_outcome}, specs.CallContracts.{LaterContract}}
use Rattle.calls.{proofs.ChainLaws.{radio_zero}, proofs.ContractLaws.{by_accepted, by_refused}}
use Rattle.rows.specs.Rows.{neighbours_of}
use Rattle.conditions.{specs.Conditions.{Placed, later_count, high_count, ends_good, row_good}, proofs.RowByRow.{sound_rows}}
use Rattle.conditions.{proofs.FirstLater.{later_count_rest, first_key_rest}}
use Rattle.soundness.specs.Checks.{Placing, fits_sound, SoundRadio, EndsRoom, EndsCounted, LaterCounted}
use Rattle.soundness.proofs.{SoundSite.{SoundSite, fits_sound_site, site_good_fits}, HighCounts.{proper_rows}}

-- ---- as the code counts them

module _ (v : ℕ) (t : Tables) (h : SoundRadio (length t.order) v t) where
  abbrev n : ℕ
  n = length t.order

  pub ends_site : SoundSite n t
  ends_site = fits_sound_site n t h.is_sound

  is_sound : sound n t ≡ true
  unfolding fits_sound
  is_sound =
      and_right (site_lengths n (lengths_of t)) (sound n t) (and_right (size_good n) (site_lengths n (lengths_of t) && sound n t) h.is_sound)

  sound_is : sound_within max_neighbours n t ≡ true
  unfolding sound
  sound_is = is_sound

  proper : rows_proper max_neighbours n t.links ≡ true
  proper = proper_rows n t is_sound

  order_once : EachOnce n t.order
  unfolding graph_in
  order_once =
      (k_order_certificate (graph_in n t.links) t.order (sound_right max_neighbours n t ends_site.numbers_long sound_is).k_order).once

  pub ends_placed : (before after : List ℕ) (r : Bool) → Placing t.order before after r → Placed n t.order after
  ends_placed before after r p = p.placed (p.answer ∙ of_each_once n t.order order_once)

  pub ends_room : (places : ℕ) → places ≡ max_radios → EndsRoom v (length t.links) (length t.numbers) places
  ends_room p e = record {
    linked = omega (arith, ends_site.links_long, ends_site.numbers_long);
    placed = omega (arith, ends_site.numbers_long, ends_site.small);
    radio = omega (arith, ends_site.numbers_long, h.radio);
    small = omega (arith, ends_site.numbers_long, ends_site.small);
  }

  module _ (places : List ℕ) (placed : Placed n t.order places) where
    all_good : (leb (length (neighbours_of t.links v)) max_neighbours && ends_good n t.links v (neighbours_of t.links v)) ≡ true
    unfolding row_good
    all_good =
        let num = number_in t.numbers in
        let row = row_good max_neighbours n t.links t.numbers places in
        let xs = neighbours_of t.links v in
        let rows = and_right (rising num t.order) (all row (range 0 n))
        (sym (sound_rows max_neighbours n t places ends_site.small order_once placed) ∙ sound_is) in
        let p = leb (length xs) max_neighbours in
        let q = ends_good n t.links v xs in
        let counts = leb (later_count places v xs) (number_in t.numbers v) && leb (number_in t.numbers v) (high_count t.numbers v xs) in
        let good = all_below row n rows v h.radio in
        and_both p q (and_left p (q && counts) good) (and_left q counts (and_right p (q && counts) good))

    pub ends_later : (good : Bool) (later high first : ℕ) → EndsCounted (length t.numbers) t.links t.numbers places v good later high first
        → LaterCounted n v t later first
    ends_later good later high first c =
        let ends : EndsCounted n t.links t.numbers places v good later high first = rw ends_site.numbers_long at c in
        let yes = ends.answer ∙ all_good in
        record {
          later_is = ends.later_is yes ∙ later_count_rest n v t places ends_site.small proper order_once placed h.radio;
          first_is = ends.first_is yes ∙ first_key_rest n v t places ends_site.small proper order_once placed h.radio;
        }

-- ---- the answer

module _ (n v : ℕ) (t : Tables) where
  pub later_refused : (q : ℕ) → q ≡ radio_refusal n v (lengths_of t) (sound n t) → (q ≡ 0 → ⊥) → LaterContract n v t (later q 0 0)
  unfolding LaterContract later_outcome sound
  later_refused q e h = by_refused _ _ _ (λ z. h (e ∙ z)) (rw e)

  module _ (e : radio_refusal n v (lengths_of t) (sound n t) ≡ 0) where
    order_long : length t.order ≡ n
    unfolding lengths_of
    order_long = (radio_zero n v (lengths_of t) (sound n t) e).0.lent.lengths.order

    pub later_radio : SoundRadio (length t.order) v t
    later_radio =
        let r = radio_zero n v (lengths_of t) (sound n t) e in
        record {
          is_sound = subst (λ (m : ℕ). fits_sound m t ≡ true) (sym order_long) (site_good_fits n t true r.0);
          radio = omega (arith, r.1, order_long);
        }

    pub later_answered : (k w : ℕ) → LaterCounted (length t.order) v t k w → LaterContract n v t (later 0 k w)
    unfolding LaterContract later_outcome sound
    later_answered k w c =
        let found : LaterCounted n v t k w = rw order_long at c in by_accepted _ _ e (rw (found.later_is, found.first_is))
