-- On sound tables the links of the rows, by weight falling, are the graph's; so what grows is the staircase tree.
--   levels_graph       the links taken are the graph's links by weight falling
--   staircase_count, staircase_table   what the call answers, and what the lent table holds
use Rattle.std.specs.Prelude.{◌≡◌, ◌*◌, ◌≤◌, ◌<◌}
use Rattle.lists.{specs.Kit.{ap, ap₂, ◌∙◌, List, [], ℕ, min, arith, length, take_all}, specs.Lists.{range, overwrite}}
use Rattle.lists.{proofs.Overwrite.{sets_front}}
use Rattle.mesh.{specs.Graph.{Link, Graph, InLinks}, specs.Cores.{number, numbers}, specs.Connected.{greatest}, specs.Tables.{Tables, graph_in}}
use Rattle.mesh.{specs.Staircase.{weight, falling, staircase, link_entries}, proofs.GraphLaws.{linked_sym}, proofs.Links.Call.{linked_positive}}
use Rattle.mesh.{proofs.Tables.ReadBack.{Marks, in_graph_in, proper_graph_in}}
use Rattle.rows.{specs.Links.{links_from}, proofs.GraphLinks.{links_graph_in}}
use Rattle.soundness.proofs.SoundSite.{SoundSite, linked_marked, number_entry}
use Rattle.forests.{proofs.JoinedLaws.{Inside}, proofs.Keeping.{in_falling}, proofs.Heaviest.{links_inside, staircase_fewer}, proofs.Tree.{length_link_entries}}
use Rattle.forests.{proofs.Levels.{levels_ext, levels_all}, proofs.Shows.{Shows, shows_none, shows_all}, specs.Growing.{Growing, growing, grown_all}}
use Rattle.forests.{specs.Growing.{table_weight, levels_falling}}

module _ (n : ℕ) (t : Tables) (s : SoundSite n t) where
  abbrev site : Graph
  site = graph_in n t.links

  weight_positive : (m : Link) → InLinks m site.links → 1 ≤ weight site m
  unfolding weight graph_in
  weight_positive m i = go (in_graph_in n t.links m i)
    where
      go : Marks n t.links m → 1 ≤ min (number site m.low) (number site m.high)
      go k =
          let low : m.low < n = omega (arith, k.lower_first, k.is_radio) in
          let e = linked_marked n t s m.low m.high low k.is_radio ∙ k.is_marked in
          omega (
            arith,
            linked_positive site m.low m.high low k.is_radio e,
            linked_positive site m.high m.low k.is_radio low (linked_sym site m.high m.low ∙ e),
          )

  inside : Inside n site.links
  unfolding graph_in
  inside = links_inside site (proper_graph_in n t.links)

  -- the numbers table gives each link its weight
  table_weight_is : (m : Link) → InLinks m site.links → table_weight t.numbers m ≡ weight site m
  unfolding weight
  table_weight_is m i =
      let e = inside m i in ap₂ {C = ℕ} (λ x y. min x y) (number_entry n t s m.low e.0) (number_entry n t s m.high e.1)

  levels_graph : (w : ℕ) → levels_falling (table_weight t.numbers) w (links_from n t.links 0 0) ≡ falling (weight site) w site.links
  levels_graph w =
      ap (levels_falling (table_weight t.numbers) w) (links_graph_in n t.links s.small s.links_long s.within)
      ∙ levels_ext (table_weight t.numbers) (weight site) site.links table_weight_is w ∙ levels_all (weight site) site.links weight_positive w

  -- what the code makes of sound tables
  module _ (some : 1 ≤ n) (old : List ℕ) (room : 2 * n ≤ length old) (end : Growing)
      (is_end : end ≡ grown_all (levels_falling (table_weight t.numbers) (greatest t.numbers) (links_from (length t.numbers) t.links 0 0))
      (growing (range 0 (length t.numbers)) old 0)) where
    shown : Shows n old (staircase site) end
    unfolding staircase graph_in
    shown =
        rw (is_end, s.numbers_long, levels_graph (greatest t.numbers), s.numbers)
        (shows_all n old (falling (weight site) (greatest (numbers site)) site.links) []
        (λ l i. inside l (in_falling (weight site) (greatest (numbers site)) site.links l i).0) (λ l i. absurd i) (growing (range 0 n) old 0)
        (shows_none n old))

    fewer : length (staircase site) < n
    unfolding graph_in
    fewer = staircase_fewer site (proper_graph_in n t.links) some

    pub staircase_count : end.count ≡ length (staircase site)
    staircase_count = shown.counted

    pub staircase_table : end.table ≡ overwrite (link_entries (staircase site)) old
    staircase_table =
        shown.listed ∙ sets_front old (link_entries (staircase site))
        ∙ ap (λ (xs : List ℕ). overwrite xs old)
        (take_all (length old) (link_entries (staircase site)) (omega (arith, length_link_entries (staircase site), fewer)))
