-- Outcomes on tables that hold the book's pairs: questions 1 to 3 get yes, and the rest is what the graph of the pairs gives.
--   link_asked                       what the questions of a link call come to
--   core_by_pairs .. tree_by_pairs   the outcome of each other call that a worked case makes
use Rattle.std.specs.Prelude.{◌≡◌, ◌&&◌, ◌+◌, ◌*◌, ◌≤◌}
use Rattle.lists.specs.{Kit.{refl, ap, ◌∙◌, Bool, true, List, ℕ, length}, Lists.{overwrite}}
use Rattle.mesh.{specs.Limits.{max_neighbours, row_bytes}, specs.Graph.{Link, Graph, graph}, specs.Tables.{Tables, graph_in, tables_of}, specs.Sound.{sound}}
use Rattle.mesh.{specs.Connected.{core_of, backbone}, specs.Tree.{tree, node_names}, specs.Image.{image_of}, specs.Staircase.{staircase, link_entries}}
use Rattle.mesh.{specs.declared.Node.{Node}, proofs.Cores.Peeling.{length_numbers}, proofs.Tables.Laws.{length_links_table}, proofs.Images.Sites.{length_order}}
use Rattle.calls.specs.{Questions.{lengths_of, answer_length, image_length, ask, ends_refusal, site_refusal}}
use Rattle.calls.specs.{Outcomes.{listing, value, listing_outcome, core_outcome, backbone_outcome, write_outcome, tree_outcome}}
use Rattle.calls.specs.{Outcomes.{staircase_outcome}}
use Rattle.calls.proofs.{QuestionLaws.{SiteLengths, ask_yes, true_answer_length, true_nodes_length, true_holds_image}, ChainLaws.{site_yes}}
use Rattle.calls.proofs.{Holds.{Holds, read_back, is_sound}}
use Rattle.calls.specs.Chains.{level_refusal}
use Rattle.calls.specs.Questions.{by_number}
use Rattle.calls.specs.Chains.{nodes_length, holds_image, link_refusal, staircase_length}

module _ (n : ℕ) (ps : List Link) (t : Tables) (k : Holds n ps t) (least : 1 ≤ n) where
  abbrev g : Graph
  g = graph n ps

  lengths : SiteLengths n (lengths_of t)
  unfolding lengths_of tables_of
  lengths = record {
    links = ap (λ (o : Tables). length o.links) k.is ∙ length_links_table g;
    numbers = ap (λ (o : Tables). length o.numbers) k.is ∙ length_numbers g;
    order = ap (λ (o : Tables). length o.order) k.is ∙ length_order g k.xs k.most k.valid;
  }

  -- what is left of a chain when 1 to 3 get yes
  later_asked :
      (others : Bool) (later : Graph → ℕ) → others ≡ true →
      site_refusal n (lengths_of t) others (sound n t) (later (graph_in n t.links)) ≡ later g
  later_asked others later e =
      site_yes n (lengths_of t) others (sound n t) (later (graph_in n t.links))
      (record { lent = record { least = least; most = k.most; lengths = lengths; further = e }; is_sound = is_sound n ps t k })
      ∙ ap later (read_back n ps t k)

  -- the questions of a link call come to those of its ends
  pub link_asked :
      (up : Bool) (a b w : ℕ) → n ≤ w →
      link_refusal up n a b (lengths_of t) w (sound n t) (graph_in n t.links) ≡ ends_refusal max_neighbours up n a b g
  link_asked up a b w l = later_asked (answer_length n w) (λ h. ends_refusal max_neighbours up n a b h) (true_answer_length n w l)

  pub core_by_pairs :
      (v i : ℕ) (w : List ℕ) → n ≤ length w → let radios = core_of g v i in
      core_outcome n v i t w ≡ listing_outcome (level_refusal n v i g) (length radios) radios w
  unfolding sound core_outcome
  core_by_pairs v i w l =
      rw (later_asked (answer_length n (length w)) (λ h. level_refusal n v i h) (true_answer_length n (length w) l), read_back n ps t k)

  pub backbone_by_pairs :
      (w : List ℕ) → n ≤ length w → backbone_outcome n t w ≡ listing_outcome 0 (length (backbone g)) (backbone g) w
  unfolding sound backbone_outcome
  backbone_by_pairs w l =
      rw (later_asked (answer_length n (length w)) (λ h. 0) (true_answer_length n (length w) l), read_back n ps t k)

  pub write_by_pairs :
      (w : List ℕ) → image_length g ≤ length w →
      write_outcome n t w ≡ listing (value 0 (image_length g)) (overwrite (image_of g t.order) w)
  unfolding sound write_outcome listing_outcome by_number
  write_by_pairs w l =
      rw (
        later_asked true (λ h. ask 9 (holds_image h (length w)) 0) refl,
        read_back n ps t k,
        ask_yes 9 (holds_image g (length w)) 0 (true_holds_image g (length w) l),
      )

  pub tree_by_pairs :
      (m : List Node) (w : List ℕ) → n + 1 ≤ length m → n ≤ length w →
      tree_outcome n t m w ≡ listing (value 0 (length (tree g))) (overwrite (tree g) m, overwrite (node_names g) w)
  unfolding sound tree_outcome by_number
  tree_by_pairs m w p q =
      let e : (nodes_length n (length m) && answer_length n (length w)) ≡ true =
      rw (true_nodes_length n (length m) p, true_answer_length n (length w) q) in
      rw (later_asked (nodes_length n (length m) && answer_length n (length w)) (λ h. 0) e, read_back n ps t k)

  lengths_are : lengths_of t ≡ record { links = row_bytes * n; numbers = n; order = n }
  unfolding lengths_of
  lengths_are = rw (lengths.links, lengths.numbers, lengths.order)

  pub staircase_by_pairs :
      (w : List ℕ) → let kept = staircase g in
      staircase_outcome n t w
      ≡ listing_outcome (site_refusal n (record { links = row_bytes * n; numbers = n; order = n }) (staircase_length n (length w)) true 0) (length kept)
      (link_entries kept) w
  unfolding sound staircase_outcome
  staircase_by_pairs w = rw (is_sound n ps t k, lengths_are, read_back n ps t k)
