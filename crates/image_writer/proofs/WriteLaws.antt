-- The writer meets its contract, on plain values.
-- In order: the number of questions 1 to 3, the links of a sound site, the three outcomes.
use Rattle.std.specs.Prelude.{◌≡◌, ◌++◌, ◌+◌, ◌*◌, ◌≤◌, ◌<◌}
use Rattle.lists.specs.{Kit.{sym, ap, ap₂, ◌∙◌, true, List, flat_map, ℕ, arith, length, drop, lt-leb}, Lists.{range, overwrite}}
use Rattle.mesh.{specs.Limits.{max_radios, max_neighbours, row_bytes}, specs.Graph.{Link, Graph, graph}, specs.Tables.{Tables, graph_in}}
use Rattle.mesh.{specs.Sound.{sound}, specs.Image.{block_bytes, blocks_for, order_blocks, block_count, block_at, image_of}}
use Rattle.mesh.{proofs.Images.Of.{length_image_of}, proofs.Images.Tables.{valid_graph_in}, proofs.Tables.DegreeSum.{links_few}}
use Rattle.calls.{specs.Questions.{ask, lengths_of, site_refusal, image_length}, specs.CallContracts.{WriteContract}}
use Rattle.calls.{specs.Outcomes.{write_outcome}, proofs.ContractLaws.{listing_refused, listing_answered}, proofs.QuestionLaws.{ask_no}}
use Rattle.calls.{proofs.ChainLaws.{SiteGood, site_zero, site_yes, write_yes, site_stops}}
use Rattle.soundness.proofs.SoundSite.{SoundSite, sound_site}
use Rattle.rows.{specs.Links.{links_from, RowsListed}, proofs.GraphLinks.{rows_listed_few, links_graph_in}}
use Rattle.image_writer.specs.Blocks.{marked_graph, LinksFit, AllLinksFilled, front_block}
use Rattle.image_writer.proofs.BlockFilling.{image_filled}
use Rattle.calls.specs.{Chains.{write_refusal, holds_image}}

-- ---- the outcomes

module _ (n : ℕ) (t : Tables) (w : List ℕ) where
  abbrev questions : ℕ
  questions = site_refusal n (lengths_of t) true (sound n t) 0

  abbrev g : Graph
  g = graph_in n t.links

  abbrev refusal : ℕ
  refusal = write_refusal n (lengths_of t) (length w) (sound n t) g

  pub write_refused : (q : ℕ) → q ≡ questions → (q ≡ 0 → ⊥) → WriteContract n t w (record { number = q; value = 0 }) w
  unfolding WriteContract write_outcome sound
  write_refused q e h =
      let same : refusal ≡ q = site_stops n (lengths_of t) true (sound n t) (ask 9 (holds_image g (length w)) 0) (λ z. h (e ∙ z)) ∙ sym e in
      listing_refused refusal _ _ w q (sym same) h

  module _ (good : questions ≡ 0) where
    passed : SiteGood n (lengths_of t) true (sound n t)
    passed = (site_zero n (lengths_of t) true (sound n t) 0 good).0

    pub write_small : n ≤ max_radios
    write_small = passed.lent.most

    pub write_links : length t.links ≡ row_bytes * n
    unfolding lengths_of
    write_links = passed.lent.lengths.links

    pub write_order : length t.order ≡ n
    unfolding lengths_of
    write_order = passed.lent.lengths.order

    pub write_sound : sound n t ≡ true
    write_sound = passed.is_sound

    site : SoundSite n t
    site = sound_site n t write_small passed.lent.lengths write_sound

    pub write_rows : RowsListed n t.links max_neighbours
    write_rows = rows_listed_few n t.links write_small write_links max_neighbours site.few

    whole : marked_graph n t.links ≡ g
    unfolding graph_in
    whole = ap (graph n) (links_graph_in n t.links write_small write_links site.within)

    -- as many links as a site of n radios may have
    pub write_most : length (links_from n t.links 0 0) ≤ 20 * n
    unfolding sound graph_in
    write_most =
        omega (
          arith,
          links_few max_neighbours g t.order (valid_graph_in max_neighbours n t write_small write_sound),
          ap (λ (h : Graph). length h.links)
              whole,
        )

    pub write_few : length (links_from n t.links 0 0) ≤ 10240
    unfolding sound graph_in
    write_few = omega (arith, write_most, write_small)

    blocks_are : block_count n (length (links_from n t.links 0 0)) ≡ block_count g.n (length g.links)
    unfolding graph_in
    blocks_are = ap (λ (h : Graph). block_count h.n (length h.links)) whole

    module _ (blocks : ℕ) (counted : blocks ≡ block_count n (length (links_from n t.links 0 0))) where
      length_is : image_length g ≡ block_bytes * blocks
      unfolding image_length
      length_is = ap (λ (k : ℕ). block_bytes * k) (sym blocks_are ∙ sym counted)

      pub write_no_room : length w < block_bytes * blocks → WriteContract n t w (record { number = 9; value = 0 }) w
      unfolding WriteContract write_outcome sound
      write_no_room h =
          let nine : refusal ≡ 9 =
          site_yes n (lengths_of t) true (sound n t) (ask 9 (holds_image g (length w)) 0) passed
          ∙ ask_no 9 (holds_image g (length w)) 0 (lt-leb (image_length g) (length w) (omega (arith, length_is))) in
          listing_refused refusal _ _ w 9 (sym nine) (λ z. omega (arith, z))

      pub write_accepted : (x : List ℕ) → block_bytes * blocks ≤ length w
          → x ≡ flat_map (block_at (marked_graph n t.links) t.order) (range 0 blocks) ++ drop (block_bytes * blocks) w
          → WriteContract n t w (record { number = 0; value = block_bytes * blocks }) x
      unfolding WriteContract write_outcome sound image_of overwrite
      write_accepted x h e =
          let zero_is : refusal ≡ 0 = write_yes n (lengths_of t) (length w) (sound n t) g passed (omega (arith, length_is)) in
          let front : flat_map (block_at (marked_graph n t.links) t.order) (range 0 blocks) ≡ image_of g t.order =
          ap₂ {C = List ℕ} (λ (m : Graph) (k : ℕ). flat_map (block_at m t.order) (range 0 k)) whole (counted ∙ blocks_are) in
          let long : length (image_of g t.order) ≡ block_bytes * blocks = length_image_of g t.order ∙ ap (λ (k : ℕ). block_bytes * k)
          (sym (counted ∙ blocks_are)) in
          listing_answered refusal _ _ w _ x zero_is (sym length_is) (e ∙ ap₂ {C = List ℕ} (λ (xs : List ℕ) (k : ℕ). xs ++ drop k w) front (sym long))

    -- ---- the blocks of links from block `first` on, and the blocks before them

    module _ (first : ℕ) (h : first ≡ 1 + order_blocks n) (fits : block_bytes * block_count n (length (links_from n t.links 0 0)) ≤ length w) where
      abbrev ls : List Link
      ls = links_from n t.links 0 0

      pub write_fit : LinksFit first n t.links (length w)
      unfolding block_count order_blocks blocks_for
      write_fit = record {
        rows = (write_small, omega (arith, write_links));
        low = omega (arith, h);
        small = omega (arith, h, write_small);
        few = write_few;
        fits = omega (arith, h, fits);
      }

      module _ (filled : List ℕ) (blocks count : ℕ) (r : AllLinksFilled first ls w filled blocks count) where
        pub write_blocks : blocks ≡ block_count n (length ls)
        unfolding block_count
        write_blocks = omega (arith, r.ended, h)

        -- so few that their bytes are counted in 32 bits
        pub write_length : block_bytes * blocks ≤ 44032
        unfolding block_count order_blocks blocks_for
        write_length = omega (arith, r.ended, h, write_few, write_small)

        pub write_done : (x : List ℕ) → x ≡ flat_map (front_block n count t.order) (range 0 first) ++ drop (block_bytes * first) filled
            → WriteContract n t w (record { number = 0; value = block_bytes * blocks }) x
        unfolding block_count
        write_done x put =
            write_accepted blocks write_blocks x (rw write_blocks fits)
            (image_filled n first ls t.order w h filled x blocks count r (omega (arith, h, fits)) put)
