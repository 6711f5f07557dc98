-- Laws of the neighbours above a radio, as they are listed.
use Rattle.std.specs.Prelude.{◌≡◌, ◌≤◌}
use Rattle.lists.{specs.Kit.{refl, ap, ◌∙◌, List, ℕ, suc, min, arith, ltb, length, take, take_all}, specs.Lists.{overwrite}}
use Rattle.lists.{proofs.Filter.{filter_le}, proofs.Overwrite.{take_overwrite}}
use Rattle.mesh.specs.Limits.{max_neighbours}
use Rattle.rows.specs.Rows.{row_listed, neighbours_above}

module _ (ts : List ℕ) (a : ℕ) where
  -- the neighbours above are among all
  pub above_few : length (neighbours_above ts a) ≤ length (row_listed ts a)
  unfolding neighbours_above
  above_few = filter_le (ltb a) (row_listed ts a) (length (row_listed ts a)) refl

  module _ (before list : List ℕ) (r : ℕ) (counted : r ≡ min (length before) (min (suc max_neighbours) (length (neighbours_above ts a))))
      (listed : list ≡ overwrite (take (min (length before) (suc max_neighbours)) (neighbours_above ts a)) before)
      (fits : length (neighbours_above ts a) ≤ min (length before) (suc max_neighbours)) where
    pub above_count : r ≡ length (neighbours_above ts a)
    above_count = omega (arith, counted, fits)

    pub above_front : take r list ≡ neighbours_above ts a
    above_front =
        ap (take r) (listed ∙ ap (λ (xs : List ℕ). overwrite xs before) (take_all (min (length before) (suc max_neighbours)) (neighbours_above ts a) fits))
        ∙ ap (λ (k : ℕ). take k (overwrite (neighbours_above ts a) before)) above_count ∙ take_overwrite (neighbours_above ts a) before
