-- The high counts of sound tables, over the graph that the links table marks: for the callers of `soundness::asked`.
--   sound_symmetric .. sound_within_n   the conditions on rows that reading over the graph wants
--   high_count_neighbours_in            a high count is the count of neighbours that are not below the radio
--   counts_neighbours_in                the same of a table that the check filled
use Rattle.std.specs.Prelude.{◌≡◌, ◌&&◌, ◌≤◌, ◌<◌}
use Rattle.lists.{specs.Kit.{ap, ◌∙◌, Bool, true, List, ℕ, leb, get_or}, specs.Lists.{range, count}}
use Rattle.lists.{proofs.Tests.{and_left, and_right}, proofs.Filter.{count_filter}}
use Rattle.mesh.specs.{Limits.{max_radios, max_neighbours}, Graph.{linked, radios, neighbours_in}, Orders.{each_once, rising, few_later}, Tables.{Tables}}
use Rattle.mesh.specs.{Tables.{marked, graph_in}, Sound.{symmetric, irreflexive, within, few, rows_proper, enough, number_in, sound, sound_within}}
use Rattle.rows.{specs.Rows.{neighbours_of}, proofs.RowListLaws.{neighbours_of_linked}}
use Rattle.conditions.specs.Conditions.{NotLower, high_count}

module _ (n : ℕ) (t : Tables) (yes : sound n t ≡ true) where
  abbrev ts : List ℕ
  ts = t.links

  abbrev num : ℕ → ℕ
  num = number_in t.numbers

  pub proper_rows : rows_proper max_neighbours n ts ≡ true
  unfolding sound sound_within
  proper_rows =
      and_left (rows_proper max_neighbours n ts)
      (each_once n t.order && (rising num t.order && (few_later (marked ts) num t.order && enough n (marked ts) num))) yes

  both_ways : (symmetric n ts && irreflexive n ts) ≡ true
  unfolding rows_proper
  both_ways = and_left (symmetric n ts && irreflexive n ts) (within n ts && few max_neighbours n ts) proper_rows

  pub sound_symmetric : symmetric n ts ≡ true
  sound_symmetric = and_left (symmetric n ts) (irreflexive n ts) both_ways

  pub sound_irreflexive : irreflexive n ts ≡ true
  sound_irreflexive = and_right (symmetric n ts) (irreflexive n ts) both_ways

  pub sound_within_n : within n ts ≡ true
  unfolding rows_proper
  sound_within_n =
      and_left (within n ts) (few max_neighbours n ts)
      (and_right (symmetric n ts && irreflexive n ts) (within n ts && few max_neighbours n ts) proper_rows)

  pub high_count_neighbours_in : n ≤ max_radios → (v : ℕ) → v < n
      → high_count t.numbers v (neighbours_of ts v) ≡ neighbours_in (graph_in n ts) v (λ w. leb (num v) (num w))
  unfolding high_count neighbours_in radios graph_in
  high_count_neighbours_in small v l =
      let high : ℕ → Bool = λ w. leb (num v) (num w) in
      ap (count high) (neighbours_of_linked n ts small sound_symmetric sound_irreflexive sound_within_n v l)
      ∙ count_filter high (linked (graph_in n ts) v) (range 0 n)

  -- what the check leaves in the table of not-lower counts
  pub counts_neighbours_in : n ≤ max_radios → (counts : List ℕ) → NotLower n ts t.numbers counts → (v : ℕ) → v < n
      → get_or counts v 0 ≡ neighbours_in (graph_in n ts) v (λ w. leb (num v) (num w))
  counts_neighbours_in small counts h v l = h.at v l ∙ high_count_neighbours_in small v l
