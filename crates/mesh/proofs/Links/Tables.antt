-- A link call on tables: the graph that the new links table marks.
--   graph_in_same       tables with the same marks above the diagonal mark the same graph
--   graph_in_put_link   sound tables, both bits of a link put: the graph with the link changed
--   rows_put_link       and its rows are proper again
use Rattle.std.specs.Prelude.{◌≡◌, ◌⊎◌, ◌&&◌, ◌*◌, ◌≤◌, ◌<◌}
use Rattle.lists.{specs.Kit.{sym, ap, ◌∙◌, inl, inr, Bool, true, false, cond, List, ℕ, arith, le_trans, le_of_eq, ltb, length}}
use Rattle.lists.{specs.Kit.{ltb-true, ltb-false}, specs.Lists.{range}, proofs.Tests.{bool_cases, and_left, and_right}, proofs.Count.{count_ext}}
use Rattle.lists.{proofs.Range.{range_in}}
use Rattle.mesh.specs.{Limits.{max_radios, max_neighbours, row_bytes}, Graph.{Link, Graph, graph, linked, relinked, Allowed}, Levels.{new_order}}
use Rattle.mesh.specs.{Tables.{Tables, marked, put_link, links_table, graph_in}, Sound.{symmetric, irreflexive, within, row_degree, few, rows_proper}}
use Rattle.mesh.specs.{Sound.{sound}, Valid.{Valid}}
use Rattle.mesh.proofs.{GraphLaws.{ends}, Tables.Laws.{marked_put_link, marked_links_table}, Tables.Rows.{symmetric_of, of_symmetric, irreflexive_of}}
use Rattle.mesh.proofs.{Tables.Rows.{of_irreflexive, within_of, of_within, few_of, of_few, linked_within, rows_proper_links_table}}
use Rattle.mesh.proofs.{Tables.AscendingLinks.{sorted_eq}, Tables.Relinked.{linked_relinked}, Tables.ReadBack.{Marks, in_graph_in, graph_in_in}}
use Rattle.mesh.proofs.{Tables.ReadBack.{sorted_graph_in, linked_graph_in, graph_in_links_table}, Tables.Soundness.{sound_certificate}}
use Rattle.mesh.proofs.{Images.Tables.{valid_graph_in}, Links.Laws.{link_valid}}

marks_same : (n : ℕ) (ts us : List ℕ) (m : Link) → ((a b : ℕ) → a < b → b < n → marked ts a b ≡ marked us a b) → Marks n ts m → Marks n us m
marks_same n ts us m e k = record {
  lower_first = k.lower_first;
  is_radio = k.is_radio;
  is_marked = sym (e m.low m.high k.lower_first k.is_radio) ∙ k.is_marked;
}

pub graph_in_same : (n : ℕ) (ts us : List ℕ) → ((a b : ℕ) → a < b → b < n → marked ts a b ≡ marked us a b) → graph_in n ts ≡ graph_in n us
unfolding graph_in
graph_in_same n ts us e =
    ap (graph n) (sorted_eq (graph_in n ts).links (graph_in n us).links (sorted_graph_in n ts) (sorted_graph_in n us)
    (λ m i. graph_in_in n us m (marks_same n ts us m e (in_graph_in n ts m i)))
    (λ m i. graph_in_in n ts m (marks_same n us ts m (λ a b h l. sym (e a b h l)) (in_graph_in n us m i))))

-- and are proper alike
rows_same : (most n : ℕ) (ts us : List ℕ) → n ≤ max_radios → ((a b : ℕ) → a < n → b < max_radios → marked ts a b ≡ marked us a b)
    → rows_proper most n us ≡ true → rows_proper most n ts ≡ true
unfolding rows_proper row_degree
rows_same most n ts us big e p =
    let s = symmetric n us in
    let i = irreflexive n us in
    let w = within n us in
    let f = few most n us in
    let first = and_left (s && i) (w && f) p in
    let second = and_right (s && i) (w && f) p in
    rw (
      of_symmetric n ts (λ a b la lb. e a b la (omega arith) ∙ symmetric_of n us (and_left s i first) a b la lb ∙ sym (e b a lb (omega arith))),
      of_irreflexive n ts (λ a la. e a a la (omega arith) ∙ irreflexive_of n us (and_right s i first) a la),
      of_within n ts (λ a b la nb lb. e a b la lb ∙ within_of n us (and_left w f second) a b la nb lb),
    ) (of_few most n ts (λ a la. le_trans
    (le_of_eq (count_ext (λ b. marked ts a b) (λ b. marked us a b) (range 0 max_radios) (λ b m. e a b la (omega (arith, range_in 0 max_radios b m)))))
    (few_of most n us (and_right w f second) a la)))

module _ (u : Bool) (n a b : ℕ) (t : Tables) (small : n ≤ max_radios) (long : length t.links ≡ row_bytes * n) (is_sound : sound n t ≡ true)
    (ok : Allowed max_neighbours u a b (graph_in n t.links)) where
  abbrev g : Graph
  g = graph_in n t.links

  valid : Valid max_neighbours g t.order
  unfolding sound
  valid = valid_graph_in max_neighbours n t small is_sound

  rows : rows_proper max_neighbours n t.links ≡ true
  unfolding sound
  rows = (sound_certificate max_neighbours n t is_sound).0

  bit : (v w : ℕ) → v < n → w < max_radios → marked t.links v w ≡ linked g v w
  unfolding rows_proper graph_in
  bit v w lv lw = go (bool_cases (ltb w n))
    where
      mirrored : (symmetric n t.links && irreflexive n t.links) ≡ true
      mirrored = and_left (symmetric n t.links && irreflexive n t.links) (within n t.links && few max_neighbours n t.links) rows

      bounded : (within n t.links && few max_neighbours n t.links) ≡ true
      bounded = and_right (symmetric n t.links && irreflexive n t.links) (within n t.links && few max_neighbours n t.links) rows

      go : (ltb w n ≡ true) ⊎ (ltb w n ≡ false) → marked t.links v w ≡ linked g v w
      go (inl e) =
          sym (linked_graph_in n t.links (and_left (symmetric n t.links) (irreflexive n t.links) mirrored)
          (and_right (symmetric n t.links) (irreflexive n t.links) mirrored) v w lv (ltb-true w n e))
      go (inr e) =
          within_of n t.links (and_left (within n t.links) (few max_neighbours n t.links) bounded) v w lv (ltb-false w n e) lw
          ∙ sym (linked_within g valid.links_proper v w (ltb-false w n e))

  bits : (v w : ℕ) → v < n → w < max_radios → marked (put_link u a b t.links) v w ≡ marked (links_table (relinked u a b g)) v w
  unfolding graph_in relinked
  bits v w lv lw =
      marked_put_link u n a b t.links v w small long ok.a_radio ok.b_radio lw
      ∙ ap (cond (ends a b v w) u) (bit v w lv lw)
      ∙ sym (linked_relinked u a b g valid.links_proper valid.links_ascending ok.a_radio ok.b_radio ok.differ v w)
      ∙ sym (marked_links_table (relinked u a b g) v w lv lw)

  after : Valid max_neighbours (relinked u a b g) (new_order u a b g t.order)
  after = link_valid max_neighbours u a b g t.order valid ok

  pub graph_in_put_link : graph_in n (put_link u a b t.links) ≡ relinked u a b g
  unfolding graph_in relinked
  graph_in_put_link =
      graph_in_same n (put_link u a b t.links) (links_table (relinked u a b g)) (λ v w h l. bits v w (omega arith) (omega arith))
      ∙ graph_in_links_table (relinked u a b g) small after.links_proper after.links_ascending

  pub rows_put_link : rows_proper max_neighbours n (put_link u a b t.links) ≡ true
  unfolding graph_in relinked
  rows_put_link =
      rows_same max_neighbours n (put_link u a b t.links) (links_table (relinked u a b g)) small bits
      (rows_proper_links_table max_neighbours (relinked u a b g) small after.links_proper after.degrees)
