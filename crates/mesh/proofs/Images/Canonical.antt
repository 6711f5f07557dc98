-- When bytes are the image of what they list: place by place, as a reader decides it.
--   Canonical n bs      length, head of each block, checks and padding are as an image of n radios has them
--   canonical_written   then what is read from the bytes is written as these bytes
--   written_canonical   and only then
--   is_image_canonical  question 11: canonical bytes that list a valid site
use Rattle.std.specs.Prelude.{◌≡◌, ◌↔◌, ◌++◌, ◌+◌, ◌*◌, ◌-◌, ◌/◌, ◌%◌, ◌≤◌, ◌<◌}
use Rattle.lists.specs.Kit.{refl, sym, ap, ap₂, subst, ◌∙◌, true, List, ℕ, zero, suc}
use Rattle.lists.specs.Kit.{arith, ltb, length, get_or, take, drop, length-map, take-append-drop, List·getD-eq-default, get_or-take, length-take-le, ext_get_or}
use Rattle.lists.{specs.Kit.{ltb-true, ltb-false, ⊎_elim}, specs.Lists.{range}, specs.Facts.{Bytes}, proofs.Tests.{bool_cases}, proofs.Range.{length_range}}
use Rattle.lists.{proofs.All.{all_below, same_eq}, proofs.Parts.{flat_map_take_drop, get_d_append_zeros}, proofs.Map.{get_d_map_range}}
use Rattle.mesh.specs.{Limits.{max_radios, max_neighbours}, Graph.{Graph}, Image.{block_bytes, payload_bytes, block_entries, block_links, word, long}}
use Rattle.mesh.specs.Image.{check_sum, block, blocks_for, order_blocks, block_count, link_bytes, order_payload, links_payload, block_at, image_of}
use Rattle.mesh.specs.{Image.{word_at, entry_at, image_order, image_link, image_links, image_graph, block_check, checks_good, is_image}, Valid.{Valid}}
use Rattle.mesh.proofs.{Images.Words.{word_at_word, get_d_word_word_at, word_at_less}, Images.Blocks.{block_body, block_check_last, length_block_body}}
use Rattle.mesh.proofs.Images.Blocks.{get_d_block_kind, get_d_block_zero, get_d_block_index, get_d_block_index_high, no_link, length_order_payload}
use Rattle.mesh.proofs.Images.Blocks.{get_d_order_payload, length_links_payload, get_d_links_payload, get_d_link_bytes_low, get_d_link_bytes_high}
use Rattle.mesh.proofs.Images.Of.{kind_at, content_at, block_at_parts, length_content_at, blocks, length_image_of, bytes_image_of, get_d_image_of}
use Rattle.mesh.proofs.{Images.Of.{get_d_image_content, content_at_order, content_at_links, checks_good_image_of}, Images.Checks.{part_at}}
use Rattle.mesh.proofs.{Images.Checks.{length_part_at, get_d_part_at}, Images.Read.{word_at_radios}, Tables.Sites.{image_valid}}
use Rattle.mesh.proofs.Images.Sites.{is_image_iff, written_read}

module _ (n : ℕ) (bs : List ℕ) where
  abbrev pub site : Graph
  site = image_graph n bs

  abbrev pub order : List ℕ
  order = image_order n bs

  pub length_image_links : length (image_links n bs) ≡ word_at bs 6
  unfolding image_links
  length_image_links = length-map (range 0 (word_at bs 6)) (image_link n bs) ∙ length_range 0 (word_at bs 6)

  pub length_image_order : length order ≡ n
  unfolding image_order
  length_image_order = length-map (range 0 n) (λ j. word_at bs (entry_at 1 block_entries 2 j)) ∙ length_range 0 n

  -- how many blocks an image with these counts has
  abbrev pub listed_blocks : ℕ
  listed_blocks = block_count n (word_at bs 6)

  blocks_listed : blocks site order ≡ listed_blocks
  unfolding image_graph
  blocks_listed = ap (block_count n) length_image_links

  pub record Canonical : Type 0 where
    pub whole : length bs ≡ block_bytes * listed_blocks
    pub radios : word_at bs 4 ≡ n
    pub checks : checks_good bs ≡ true
    pub kinds : (i : ℕ) → i < listed_blocks → get_or bs (block_bytes * i) 0 ≡ kind_at site i
    pub zeros : (i : ℕ) → i < listed_blocks → get_or bs (block_bytes * i + 1) 0 ≡ 0
    pub indices : (i : ℕ) → i < listed_blocks → word_at bs (block_bytes * i + 2) ≡ i
    pub padding : (i j : ℕ) → i < listed_blocks → length (content_at site order i) ≤ j → j < payload_bytes → get_or bs (block_bytes * i + 4 + j) 0 ≡ 0

  -- ---- payloads: what was read stands where it is written

  module _ (b : Bytes bs) where
    order_place : (q j : ℕ) → j < length (order_payload order q) → get_or bs (block_bytes * suc q + 4 + j) 0 ≡ get_or (order_payload order q) j 0
    unfolding image_order entry_at
    order_place q j h =
        let v : ℕ = j / 2 in
        let e : ℕ = j % 2 in
        let read : ℕ → ℕ = λ k. word_at bs (entry_at 1 block_entries 2 k) in
        let len = length_order_payload order q in
        let full = length_image_order in
        let at : entry_at 1 block_entries 2 (0 + (block_entries * q + v)) ≡ block_bytes * suc q + 4 + 2 * v = omega arith in
        sym (ap (λ (k : ℕ). get_or (order_payload order q) k 0) {x = j} {y = 2 * v + e} (omega arith)
        ∙ get_d_order_payload order q v e (omega arith) (omega arith)
        ∙ ap (λ (x : ℕ). get_or (word x) e 0) (get_d_map_range 0 read 0 n (block_entries * q + v) (omega arith) ∙ ap (word_at bs) at)
        ∙ get_d_word_word_at bs b (block_bytes * suc q + 4 + 2 * v) e (omega arith)
        ∙ ap (λ (k : ℕ). get_or bs k 0) (omega arith))

    abbrev link_place : (k : ℕ) → ℕ
    link_place k = entry_at (1 + order_blocks n) block_links 4 k

    link_byte : (k e : ℕ) → e < 4 → get_or (link_bytes (image_link n bs k)) e 0 ≡ get_or bs (link_place k + e) 0
    unfolding image_link
    link_byte k e h =
        ⊎_elim (λ t. get_d_link_bytes_low (image_link n bs k) e (ltb-true e 2 t) ∙ get_d_word_word_at bs b (link_place k) e (ltb-true e 2 t))
        (λ t. let high : 2 + (e - 2) ≡ e = omega (arith, ltb-false e 2 t) in ap (λ (d : ℕ). get_or (link_bytes (image_link n bs k)) d 0) (sym high) ∙
        get_d_link_bytes_high (image_link n bs k) (e - 2) ∙ get_d_word_word_at bs b (link_place k + 2) (e - 2) (omega arith) ∙ ap (λ (d : ℕ). get_or bs d 0)
        (omega arith))
        (bool_cases (ltb e 2))

    links_place : (q j : ℕ) → j < length (links_payload site.links q)
        → get_or bs (block_bytes * suc (order_blocks n + q) + 4 + j) 0 ≡ get_or (links_payload site.links q) j 0
    unfolding image_graph image_links entry_at
    links_place q j h =
        let v : ℕ = j / 4 in
        let e : ℕ = j % 4 in
        let k : ℕ = block_links * q + v in
        let len = length_links_payload site.links q in
        let full = length_image_links in
        sym (ap (λ (d : ℕ). get_or (links_payload site.links q) d 0) {x = j} {y = 4 * v + e} (omega arith)
        ∙ get_d_links_payload site.links q v e (omega arith) (omega arith)
        ∙ ap (λ l. get_or (link_bytes l) e 0) (get_d_map_range no_link (image_link n bs) 0 (word_at bs 6) k (omega arith) ∙ ap (image_link n bs) (omega arith))
        ∙ link_byte k e (omega arith) ∙ ap (λ (d : ℕ). get_or bs d 0) (omega arith))

    -- ---- canonical bytes, block by block

    module _ (c : Canonical) where
      content_listed : (i j : ℕ) → j < length (content_at site order i) → get_or bs (block_bytes * i + 4 + j) 0 ≡ get_or (content_at site order i) j 0
      unfolding content_at word image_graph
      content_listed zero zero h = sym (get_d_word_word_at bs b 4 0 (omega arith)) ∙ ap (λ (x : ℕ). x % 256) c.radios
      content_listed zero (suc zero) h = sym (get_d_word_word_at bs b 4 1 (omega arith)) ∙ ap (λ (x : ℕ). x / 256 % 256) c.radios
      content_listed zero (suc (suc zero)) h = sym (get_d_word_word_at bs b 6 0 (omega arith)) ∙ ap (λ (x : ℕ). x % 256) (sym length_image_links)
      content_listed zero (suc (suc (suc zero))) h =
          sym (get_d_word_word_at bs b 6 1 (omega arith)) ∙ ap (λ (x : ℕ). x / 256 % 256) (sym length_image_links)
      content_listed zero (suc (suc (suc (suc j)))) h = absurd (omega arith)
      content_listed (suc q) j h =
          ⊎_elim (λ t. let e = content_at_order site order q (ltb-true q (order_blocks n) t) in order_place q j (omega (arith, ap length e)) ∙ ap
          (λ (x : List ℕ). get_or x j 0) (sym e))
          (λ t. let r : ℕ = q - order_blocks n in let from : order_blocks n + r ≡ q = omega (arith, ltb-false q (order_blocks n) t) in let e = ap
          (λ (k : ℕ). content_at site order (suc k)) (sym from) ∙ content_at_links site order r in ap (λ (k : ℕ). get_or bs (block_bytes * suc k + 4 + j) 0)
          (sym from) ∙ links_place r j (omega (arith, ap length e)) ∙ ap (λ (x : List ℕ). get_or x j 0) (sym e))
          (bool_cases (ltb q (order_blocks n)))

      content_place : (i j : ℕ) → i < listed_blocks → j < payload_bytes → get_or bs (block_bytes * i + 4 + j) 0 ≡ get_or (content_at site order i) j 0
      content_place i j h l =
          ⊎_elim (λ t. content_listed i j (ltb-true j (length (content_at site order i)) t))
          (λ t. let past = ltb-false j (length (content_at site order i)) t in c.padding i j h past l ∙ sym
          (List·getD-eq-default (content_at site order i) 0 {n = j} past))
          (bool_cases (ltb j (length (content_at site order i))))

      module _ (i : ℕ) (h : i < listed_blocks) where
        abbrev body : List ℕ
        body = block_body (kind_at site i) i (content_at site order i)

        fits : block_bytes * i + block_bytes ≤ length bs
        fits = omega (arith, c.whole)

        place : (j : ℕ) → j < 508 → get_or (take 508 (part_at bs i)) j 0 ≡ get_or bs (block_bytes * i + j) 0
        place j l = get_or-take 508 (part_at bs i) j 0 l ∙ get_d_part_at bs i fits j (omega arith)

        index_bytes : (e : ℕ) → e < 2 → get_or bs (block_bytes * i + 2 + e) 0 ≡ get_or (word i) e 0
        index_bytes e l = sym (get_d_word_word_at bs b (block_bytes * i + 2) e l) ∙ ap (λ (x : ℕ). get_or (word x) e 0) (c.indices i h)

        body_place : (j : ℕ) → j < 508 → get_or (take 508 (part_at bs i)) j 0 ≡ get_or body j 0
        unfolding word
        body_place zero l = place 0 l ∙ ap (λ (k : ℕ). get_or bs k 0) (omega arith) ∙ c.kinds i h
        body_place (suc zero) l = place 1 l ∙ c.zeros i h
        body_place (suc (suc zero)) l = place 2 l ∙ ap (λ (k : ℕ). get_or bs k 0) (omega arith) ∙ index_bytes 0 (omega arith)
        body_place (suc (suc (suc zero))) l = place 3 l ∙ ap (λ (k : ℕ). get_or bs k 0) (omega arith) ∙ index_bytes 1 (omega arith)
        body_place (suc (suc (suc (suc j)))) l =
            place (suc (suc (suc (suc j)))) l ∙ ap (λ (k : ℕ). get_or bs k 0) (omega arith) ∙ content_place i j h (omega arith)
            ∙ sym (get_d_append_zeros (content_at site order i) (payload_bytes - length (content_at site order i)) j)

        body_at : take 508 (part_at bs i) ≡ body
        body_at =
            let len : length (take 508 (part_at bs i)) ≡ 508 = length-take-le 508 (part_at bs i) (omega (arith, length_part_at bs i fits)) in
            ext_get_or 0 (take 508 (part_at bs i)) body
            (len ∙ sym (length_block_body (kind_at site i) i (content_at site order i) (length_content_at site order i)))
            (λ j l. body_place j (omega arith))

        check_at : drop 508 (part_at bs i) ≡ long (check_sum (take 508 (part_at bs i)))
        unfolding checks_good block_check
        check_at =
            sym (same_eq (long (check_sum (take 508 (part_at bs i)))) (drop 508 (part_at bs i))
            (all_below (block_check bs) (length bs / block_bytes) c.checks i (omega (arith, c.whole))))

        part_written : part_at bs i ≡ block_at site order i
        part_written =
            sym (take-append-drop 508 (part_at bs i))
            ∙ ap₂ {C = List ℕ} (λ x y. x ++ y) body_at (check_at ∙ ap (λ (x : List ℕ). long (check_sum x)) body_at)
            ∙ sym (block_check_last (kind_at site i) i (content_at site order i)) ∙ sym (block_at_parts site order i)

      pub canonical_written : image_of site order ≡ bs
      unfolding image_of
      canonical_written =
          flat_map_take_drop (block_at site order) block_bytes 0 (blocks site order) bs (c.whole ∙ ap (λ (k : ℕ). block_bytes * k) (sym blocks_listed))
          (λ i l. part_written i (omega (arith, blocks_listed)) ∙ ap (block_at site order) (omega arith))

  -- ---- what is written is canonical

  module _ (small : n ≤ max_radios) (e : image_of site order ≡ bs) where
    radios_at : word_at bs 4 ≡ n
    unfolding image_graph
    radios_at = sym (ap (λ (x : List ℕ). word_at x 4) e) ∙ word_at_radios site order (omega arith)

    byte : (i j : ℕ) → i < listed_blocks → j < block_bytes
        → get_or bs (block_bytes * i + j) 0 ≡ get_or (block (kind_at site i) i (content_at site order i)) j 0
    byte i j h l =
        sym (ap (λ (x : List ℕ). get_or x (block_bytes * i + j) 0) e) ∙ get_d_image_of site order i j (omega (arith, blocks_listed)) l
        ∙ ap (λ (x : List ℕ). get_or x j 0) (block_at_parts site order i)

    index_at : (i : ℕ) → i < listed_blocks → word_at bs (block_bytes * i + 2) ≡ i
    unfolding block_count order_blocks blocks_for word
    index_at i h =
        word_at_word bs (block_bytes * i + 2) i (omega (arith, word_at_less bs (subst Bytes e (bytes_image_of site order)) 6))
        (byte i 2 h (omega arith) ∙ get_d_block_index (kind_at site i) i (content_at site order i))
        (ap (λ (k : ℕ). get_or bs k 0) (omega arith) ∙ byte i 3 h (omega arith)
        ∙ get_d_block_index_high (kind_at site i) i (content_at site order i))

    pub written_canonical : Canonical
    written_canonical = record {
      whole = sym (ap length e) ∙ length_image_of site order ∙ ap (λ (k : ℕ). block_bytes * k) blocks_listed;
      radios = radios_at;
      checks = subst (λ (x : List ℕ). checks_good x ≡ true) e (checks_good_image_of site order);
      kinds = λ i h. ap (λ (k : ℕ). get_or bs k 0) (omega arith) ∙ byte i 0 h (omega arith)
          ∙ get_d_block_kind (kind_at site i) i (content_at site order i);
      zeros = λ i h. byte i 1 h (omega arith) ∙ get_d_block_zero (kind_at site i) i (content_at site order i);
      indices = index_at;
      padding = λ i j h past l. sym (ap (λ (x : List ℕ). get_or x (block_bytes * i + 4 + j) 0) e)
          ∙ get_d_image_content site order i j (omega (arith, blocks_listed)) l ∙ List·getD-eq-default (content_at site order i) 0 {n = j} past;
    }

-- ---- question 11, as a reader decides it

pub is_image_canonical : (n : ℕ) (bs : List ℕ) → n ≤ max_radios → Bytes bs
    → (is_image n bs ≡ true) ↔ (Canonical n bs × Valid max_neighbours (image_graph n bs) (image_order n bs))
unfolding image_graph
is_image_canonical n bs small b = (
  λ h. (written_canonical n bs small (written_read n bs h), image_valid n bs small h),
  λ r. (is_image_iff n bs small).1 (record {
    site = image_graph n bs;
    order = image_order n bs;
    radios = refl;
    valid = r.1;
    written = canonical_written n bs b r.0;
  }),
)
