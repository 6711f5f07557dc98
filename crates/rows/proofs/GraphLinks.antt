-- The links that the rows mark are the links of the graph that the table marks, in its order.
--   rows_listed_few   rows that mark at most `most` radios fit a list of `most` places
--   links_above_row   the links of a row
--   links_graph_in    all links
use Rattle.std.specs.Prelude.{◌≡◌, ◌++◌, ◌+◌, ◌*◌, ◌-◌, ◌≤◌, ◌<◌}
use Rattle.lists.{specs.Kit.{refl, ap, ap₂, ◌∙◌, Bool, true, List, [], flat_map, ℕ, zero, suc, min, arith, ltb, length}}
use Rattle.lists.{specs.Kit.{lt-ltb, le-ltb}, specs.Lists.{range, filter}, proofs.Range.{range_in, range_append}, proofs.Filter.{in_filter, filter_append}}
use Rattle.lists.{proofs.Filter.{filter_none, filter_all}}
use Rattle.mesh.{specs.Limits.{max_radios, max_neighbours, row_bytes}, specs.Graph.{Link}, specs.Tables.{marked, row_links, graph_in}, specs.Sound.{within}}
use Rattle.mesh.{specs.Sound.{few}, proofs.Tables.Rows.{within_of, few_of}}
use Rattle.rows.specs.{Rows.{row_listed, neighbours_above}, Links.{links_to, links_above, links_from, RowsListed}}
use Rattle.rows.proofs.{RowListLaws.{neighbours_of_filter, row_listed_radio, length_row_listed_radio}, AboveLaws.{above_few}}

module _ (n : ℕ) (ts : List ℕ) (small : n ≤ max_radios) (long : length ts ≡ row_bytes * n) where
  pub rows_listed_few : (room : ℕ) → few (min room (suc max_neighbours)) n ts ≡ true → RowsListed n ts room
  rows_listed_few room h =
      record {
        most = small;
        few = λ a l. omega (
          arith,
          above_few ts a,
          length_row_listed_radio n ts long a l,
          few_of (min room (suc max_neighbours)) n ts h a l,
        );
      }

  module _ (w : within n ts ≡ true) where
    neighbours_above_row : (a : ℕ) → a < n → neighbours_above ts a ≡ filter (λ b. marked ts a b) (range (suc a) (n - suc a))
    unfolding neighbours_above
    neighbours_above_row a h =
        let f : ℕ → Bool = λ b. marked ts a b in
        let lower : List ℕ = filter f (range 0 (suc a)) in
        let higher : List ℕ = filter f (range (suc a) (n - suc a)) in
        let k : n ≡ suc a + (n - suc a) = omega arith in
        let z : 0 + suc a ≡ suc a = omega arith in
        let row : row_listed ts a ≡ lower ++ higher =
        row_listed_radio n ts long a h ∙ neighbours_of_filter n ts a f small (λ b l. refl) (λ b nb l. within_of n ts w a b h nb l)
        ∙ ap (λ (m : ℕ). filter f (range 0 m)) k ∙ ap (filter f) (range_append 0 (suc a) (n - suc a) ∙ rw z)
        ∙ filter_append f (range 0 (suc a)) (range (suc a) (n - suc a)) in
        let none : filter (ltb a) lower ≡ [] =
        filter_none (ltb a) lower (λ b m. le-ltb a b (omega (arith, range_in 0 (suc a) b (in_filter f (range 0 (suc a)) b m).0))) in
        let all_above : filter (ltb a) higher ≡ higher =
        filter_all (ltb a) higher
        (λ b m. lt-ltb a b (omega (arith, range_in (suc a) (n - suc a) b (in_filter f (range (suc a) (n - suc a)) b m).0))) in
        ap (filter (ltb a)) row ∙ filter_append (ltb a) lower higher ∙ ap₂ {C = List ℕ} (λ xs ys. xs ++ ys) none all_above

    pub links_above_row : (a : ℕ) → a < n → links_above ts a ≡ row_links n ts a
    unfolding links_above row_links
    links_above_row a h = ap (links_to a) (neighbours_above_row a h)

    rows_above : (i k : ℕ) → i + k ≤ n → flat_map (links_above ts) (range i k) ≡ flat_map (row_links n ts) (range i k)
    unfolding flat_map range
    rows_above i zero h = refl
    rows_above i (suc k) h = ap₂ {C = List Link} (λ xs ys. xs ++ ys) (links_above_row i (omega arith)) (rows_above (suc i) k (omega arith))

    pub links_graph_in : links_from n ts 0 0 ≡ (graph_in n ts).links
    unfolding links_from graph_in
    links_graph_in = let z : n - 0 ≡ n = omega arith in rw z (rows_above 0 n (omega arith))
