-- Levels taken in turn.
--   levels_next       a level and the next one that some radio has
--   levels_takeable   the links of all levels may be taken
--   first_parents, first_roots   each radio its own parent
use Rattle.std.specs.Prelude.{◌≡◌, ◌⊎◌, ◌∷◌, ◌++◌, ◌+◌, ◌*◌, ◌-◌, ◌≤◌, ◌<◌}
use Rattle.lists.{specs.Kit.{refl, ap, ◌∙◌, inl, inr, Bool, true, false, cond, List, [], flat_map, ℕ, zero, suc}}
use Rattle.lists.{specs.Kit.{arith, eqb, length, length-append}, specs.Lists.{range}, proofs.Map.{length-map}}
use Rattle.mesh.{specs.Limits.{max_radios, max_neighbours}, specs.Graph.{Link, InLinks, link_of}, specs.Staircase.{filter_links}}
use Rattle.mesh.{specs.Staircase.{of_weight}, proofs.Tables.AscendingLinks.{in_links_cases}}
use Rattle.tables.{specs.Widths.{values}, proofs.WidthLaws.{values_index}}
use Rattle.rows.specs.{Rows.{neighbours_above}, Links.{links_above, links_from, RowsListed}}
use Rattle.forests.{proofs.Keeping.{in_of_weight}, specs.Growing.{table_weight, levels_falling}}
use Rattle.staircase.specs.{Taking.{greatest_below, Takeable}, Parts.{Parents, roots}, declared.forest.Forest.{Forest}}
use Rattle.staircase.proofs.{PartLaws.{parents_own, roots_own}, SkipLaws.{number_radio, levels_skip}}

pub levels_next : (ns : List ℕ) (ls : List Link) (w : ℕ) → 0 < w
    → levels_falling (table_weight ns) w ls ≡ of_weight (table_weight ns) w ls ++ levels_falling (table_weight ns) (greatest_below w ns) ls
unfolding levels_falling
levels_next ns ls zero h = absurd (omega arith)
levels_next ns ls (suc w) h = ap {B = List Link} (λ ms. of_weight (table_weight ns) (suc w) ls ++ ms) (levels_skip w ns ls)

pub levels_none : (wt : Link → ℕ) (ls : List Link) (w : ℕ) → w ≤ 0 → levels_falling wt w ls ≡ []
unfolding levels_falling
levels_none wt ls zero h = refl
levels_none wt ls (suc w) h = absurd (omega arith)

-- ---- what may be taken

-- both ends of a link that weighs something are radios
weighty_inside : (ns : List ℕ) (l : Link) → 1 ≤ table_weight ns l → (l.low < length ns) × (l.high < length ns)
weighty_inside ns l h = (number_radio ns l.low (omega arith), number_radio ns l.high (omega arith))

levels_weigh : (wt : Link → ℕ) (ls : List Link) (w : ℕ) (m : Link) → InLinks m (levels_falling wt w ls) → 1 ≤ wt m
unfolding levels_falling
levels_weigh wt ls zero m i = absurd i
levels_weigh wt ls (suc w) m i = go (in_links_cases m (of_weight wt (suc w) ls) (levels_falling wt w ls) i) (levels_weigh wt ls w m)
  where
    go : InLinks m (of_weight wt (suc w) ls) ⊎ InLinks m (levels_falling wt w ls) → (InLinks m (levels_falling wt w ls) → 1 ≤ wt m) → 1 ≤ wt m
    go (inl j) rec = omega (arith, (in_of_weight wt (suc w) ls m j).1)
    go (inr j) rec = rec j

length_filter_links : (f : Link → Bool) (ls : List Link) → length (filter_links f ls) ≤ length ls
unfolding filter_links
length_filter_links f [] = omega arith
length_filter_links f (l ∷ ls) = go (f l) (length_filter_links f ls)
  where
    go : (t : Bool) → length (filter_links f ls) ≤ length ls → length (cond {A = List Link} t (l ∷ filter_links f ls) (filter_links f ls)) ≤ suc (length ls)
    go true h = omega arith
    go false h = omega arith

length_levels : (wt : Link → ℕ) (ls : List Link) (w : ℕ) → length ls ≤ max_radios * max_radios → length (levels_falling wt w ls) ≤ max_radios * max_radios * w
unfolding levels_falling
length_levels wt ls zero h = omega arith
length_levels wt ls (suc w) h =
    omega (
      arith,
      length-append (of_weight wt (suc w) ls) (levels_falling wt w ls),
      length_filter_links (λ l. eqb (wt l) (suc w)) ls,
      length_levels wt ls w h,
    )

length_rows : (ts : List ℕ) (n : ℕ) → RowsListed n ts max_neighbours → (i k : ℕ) → i + k ≤ n → length (flat_map (links_above ts) (range i k)) ≤ max_radios * k
unfolding flat_map range links_above
length_rows ts n rows i zero h = omega arith
length_rows ts n rows i (suc k) h =
    omega (
      arith,
      length-append (links_above ts i) (flat_map (links_above ts) (range (suc i) k)),
      length-map (link_of i) (neighbours_above ts i),
      rows.few i (omega arith),
      length_rows ts n rows (suc i) k (omega arith),
    )

pub levels_takeable : (ns ts : List ℕ) (f : Forest) (top : ℕ) → length f.parents.now ≡ length ns → f.count ≡ 0
    → RowsListed (length ns) ts max_neighbours → top ≤ max_neighbours
    → Takeable f (levels_falling (table_weight ns) top (links_from (length ns) ts 0 0))
unfolding links_from
levels_takeable ns ts f top e none rows low = record {
  inside = λ l i. rw e (weighty_inside ns l (levels_weigh (table_weight ns) (links_from (length ns) ts 0 0) top l i));
  few =
      omega (
        arith,
        none,
        length_levels (table_weight ns) (links_from (length ns) ts 0 0) top
            (omega (arith, length_rows ts (length ns) rows 0 (length ns - 0) (omega arith), rows.most)),
      );
}

-- ---- from each radio its own parent

module _ (parents : List ℕ) (many : ℕ) (filled : parents ≡ values 16 (λ (i : ℕ). i) many) (small : many ≤ max_radios) where
  own_parents : parents ≡ range 0 many
  own_parents = filled ∙ values_index 16 many (omega arith)

  pub first_parents : Parents parents
  first_parents = rw own_parents (parents_own many)

  pub first_roots : roots parents ≡ range 0 many
  first_roots = ap roots own_parents ∙ roots_own many
