-- The flood's steps as the code has them: rows joined, a layer.
use Rattle.std.specs.Prelude.{◌+◌, ◌-◌, ◌≤◌}
use Rattle.lists.specs.Kit.{sym, ◌∙◌, List, ℕ, arith, length, replicate}
use Rattle.lists.{proofs.Overwrite.{sets_front}, proofs.Tests.{never}}
use borrow.Rule.Slice.PartMut.{mid_of, put_mid, mid_len}
use Rattle.rows.{specs.Sets.{common, CommonTaken}, proofs.Listing.{put_rest}, proofs.SetLaws.{in_set_zeros}}
use Rattle.floods.specs.Floods.{flood_at, RowsJoined, LayerTaken}

-- ---- rows joined, one by one

pub rows_joined_none : (ts list : List ℕ) (from : ℕ) → RowsJoined ts list from from (replicate 8 0)
rows_joined_none ts list from = record { some = λ x e. never _ e (in_set_zeros 8 x); all = λ x m. absurd (omega (arith, m.low, m.high)) }

-- ---- a layer: the neighbours of the radios that came in last, written into the rest of the queue

pub layer_taken : (ts : List ℕ) (from : ℕ) (s q : List ℕ) (c r : ℕ) (reach t new : List ℕ) → c ≤ length q
    → RowsJoined ts q from c reach → CommonTaken reach s (mid_of c (length q - c) q) r t new
    → LayerTaken ts from (flood_at s q c) (flood_at t (put_mid c (length q - c) q new) (c + r))
layer_taken ts from s q c r reach t new room joined h =
    let rest = mid_len c (length q) q (omega arith) in
    record {
      long = h.long;
      reach = reach;
      some = joined.some;
      all = joined.all;
      counted = omega (arith, h.counted, rest);
      queued = put_rest q new (common reach s) c room (h.listed ∙ sym (sets_front (mid_of c (length q - c) q) (common reach s)));
      left = h.left;
    }
