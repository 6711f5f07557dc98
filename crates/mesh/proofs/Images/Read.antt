-- What is read from an image is what was written.
-- In order: words at their places, the order, the links, both round trips.
use Rattle.std.specs.Prelude.{◌≡◌, ◌∷◌, ◌+◌, ◌*◌, ◌/◌, ◌%◌, ◌≤◌, ◌<◌}
use Rattle.lists.{specs.Kit.{sym, ap, ◌∙◌, List, [], map, ℕ, zero, suc, arith, length, get_or, List·getD-append}}
use Rattle.lists.{specs.Kit.{get_or-append-add}, specs.Lists.{range}, proofs.Map.{map_range_of_get_d}}
use Rattle.mesh.specs.{Graph.{Link, Graph, graph}, Image.{block_bytes, payload_bytes, block_entries, block_links, word, blocks_for, order_blocks}}
use Rattle.mesh.specs.{Image.{block_count, link_bytes, links_payload, image_of, word_at, entry_at, image_order, image_link, image_links, image_graph}}
use Rattle.mesh.proofs.{GraphLaws.{Proper}, Tables.AscendingLinks.{link_eq}, Images.Words.{length_word, word_at_word}, Images.Blocks.{no_link}}
use Rattle.mesh.proofs.{Images.Blocks.{get_d_link_bytes_low, get_d_link_bytes_high, get_d_order_payload, get_d_links_payload}, Images.Of.{content_at}}
use Rattle.mesh.proofs.{Images.Of.{blocks, get_d_image_content, content_at_order, content_at_links}}

module _ (g : Graph) (xs : List ℕ) where
  abbrev image : List ℕ
  image = image_of g xs

  -- ---- words at their places

  -- two bytes of a payload
  word_at_content : (i j x : ℕ) → i < blocks g xs → j + 1 < payload_bytes → x < 65536
      → ((e : ℕ) → e < 2 → get_or (content_at g xs i) (j + e) 0 ≡ get_or (word x) e 0) → word_at image (block_bytes * i + 4 + j) ≡ x
  word_at_content i j x h l small is =
      word_at_word image (block_bytes * i + 4 + j) x small
      (get_d_image_content g xs i j h (omega arith) ∙ ap (λ (k : ℕ). get_or (content_at g xs i) k 0) (omega arith) ∙ is 0 (omega arith))
      (ap (λ (k : ℕ). get_or image k 0) (omega arith) ∙ get_d_image_content g xs i (j + 1) h l ∙ is 1 (omega arith))

  -- block 0
  pub word_at_radios : g.n < 65536 → word_at image 4 ≡ g.n
  unfolding content_at block_count
  word_at_radios h =
      word_at_content 0 0 g.n (omega arith) (omega arith) h
      (λ e l. ap (λ (k : ℕ). get_or (content_at g xs 0) k 0) (omega arith)
      ∙ List·getD-append (word g.n) (word (length g.links)) 0 e (omega (arith, length_word g.n)))

  pub word_at_links : length g.links < 65536 → word_at image 6 ≡ length g.links
  unfolding content_at block_count word
  word_at_links h =
      word_at_content 0 2 (length g.links) (omega arith) (omega arith) h
      (λ e l. get_or-append-add (word g.n) (word (length g.links)) e 0)

  -- ---- the order

  pub word_at_order : (j : ℕ) → j < g.n → get_or xs j 0 < 65536 → word_at image (entry_at 1 block_entries 2 j) ≡ get_or xs j 0
  unfolding entry_at block_count order_blocks blocks_for
  word_at_order j h small =
      let q : ℕ = j / block_entries in
      let v : ℕ = j % block_entries in
      let place : block_entries * q + v ≡ j = omega arith in
      let next : 1 + q ≡ suc q = omega arith in
      word_at_content (1 + q) (2 * v) (get_or xs j 0) (omega arith) (omega arith) small
      (λ e l. ap (λ (i : ℕ). get_or (content_at g xs i) (2 * v + e) 0) next
      ∙ ap (λ (bs : List ℕ). get_or bs (2 * v + e) 0) (content_at_order g xs q (omega arith))
      ∙ get_d_order_payload xs q v e (omega arith) l ∙ ap (λ (k : ℕ). get_or (word (get_or xs k 0)) e 0) place)

  pub image_order_image_of : length xs ≡ g.n → ((j : ℕ) → j < length xs → get_or xs j 0 < 65536) → image_order g.n image ≡ xs
  unfolding image_order
  image_order_image_of len small =
      let read : ℕ → ℕ = λ j. word_at image (entry_at 1 block_entries 2 j) in
      ap (λ (k : ℕ). map read (range 0 k)) (sym len)
      ∙ map_range_of_get_d 0 read 0 xs (λ j l. ap read (omega arith) ∙ word_at_order j (omega arith) (small j l))

  -- ---- the links

  abbrev link_at : (j : ℕ) → Link
  link_at j = get_or g.links j no_link

  -- half h of link j: 0 the lower radio, 1 the higher
  word_at_link : (j half x : ℕ) → j < length g.links → half < 2 → x < 65536
      → ((e : ℕ) → e < 2 → get_or (link_bytes (link_at j)) (2 * half + e) 0 ≡ get_or (word x) e 0)
      → word_at image (entry_at (1 + order_blocks g.n) block_links 4 j + 2 * half) ≡ x
  unfolding entry_at block_count blocks_for
  word_at_link j half x h two small is =
      let q : ℕ = j / block_links in
      let v : ℕ = j % block_links in
      let place : block_links * q + v ≡ j = omega arith in
      let next : 1 + order_blocks g.n + q ≡ suc (order_blocks g.n + q) = omega arith in
      ap (word_at image) (omega arith)
      ∙ word_at_content (1 + order_blocks g.n + q) (4 * v + 2 * half) x (omega arith) (omega arith) small
      (λ e l. ap (λ (i : ℕ). get_or (content_at g xs i) (4 * v + 2 * half + e) 0) next
      ∙ ap (λ (bs : List ℕ). get_or bs (4 * v + 2 * half + e) 0) (content_at_links g xs q)
      ∙ ap (λ (k : ℕ). get_or (links_payload g.links q) k 0) (omega arith)
      ∙ get_d_links_payload g.links q v (2 * half + e) (omega arith) (omega arith)
      ∙ ap (λ (k : ℕ). get_or (link_bytes (get_or g.links k no_link)) (2 * half + e) 0) place ∙ is e l)

  pub image_link_image_of : (j : ℕ) → j < length g.links → (link_at j).low < 65536 → (link_at j).high < 65536 → image_link g.n image j ≡ link_at j
  unfolding image_link
  image_link_image_of j h low high =
      let at : ℕ = entry_at (1 + order_blocks g.n) block_links 4 j in
      link_eq (image_link g.n image j) (link_at j)
      (ap (word_at image) (omega arith) ∙ word_at_link j 0 (link_at j).low h (omega arith) low
      (λ e l. ap (λ (k : ℕ). get_or (link_bytes (link_at j)) k 0) (omega arith) ∙ get_d_link_bytes_low (link_at j) e l))
      (word_at_link j 1 (link_at j).high h (omega arith) high (λ e l. get_d_link_bytes_high (link_at j) e))

  get_d_proper : (n : ℕ) (ls : List Link) → Proper n ls → (j : ℕ) → j < length ls → ((get_or ls j no_link).low < n) × ((get_or ls j no_link).high < n)
  get_d_proper n [] p j h = absurd (omega arith)
  get_d_proper n (l ∷ ls) p zero h = (omega (arith, p.0, p.1), p.1)
  get_d_proper n (l ∷ ls) p (suc j) h = get_d_proper n ls p.2 j (omega arith)

  pub image_graph_image_of : g.n ≤ 65536 → length g.links < 65536 → Proper g.n g.links → image_graph g.n image ≡ g
  unfolding image_graph image_links
  image_graph_image_of small few p =
      ap (graph g.n) (ap (λ (k : ℕ). map (image_link g.n image) (range 0 k)) (word_at_links few)
      ∙ map_range_of_get_d no_link (image_link g.n image) 0 g.links
      (λ j l. let r = get_d_proper g.n g.links p j l in
      ap (image_link g.n image) (omega arith) ∙ image_link_image_of j l (omega (arith, r.0)) (omega (arith, r.1))))
