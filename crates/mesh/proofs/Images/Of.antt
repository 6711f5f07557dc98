-- Laws of the image as a whole.
-- In order: kind and payload of block i, an image's length and bytes, block i in the image, questions 9 and 10.
use Rattle.std.specs.Prelude.{◌≡◌, ◌++◌, ◌+◌, ◌*◌, ◌-◌, ◌/◌, ◌%◌, ◌≤◌, ◌<◌}
use Rattle.lists.{specs.Kit.{refl, ap, ◌∙◌, Bool, true, false, cond, List, ℕ, zero, suc, arith, ltb, length}}
use Rattle.lists.{specs.Kit.{get_or, take, drop, eq-eqb, ne_eqb, lt-ltb, le-ltb}, specs.Lists.{range, same}, specs.Facts.{Bytes}, proofs.Range.{length_range}}
use Rattle.lists.{proofs.Range.{get_d_range}, proofs.All.{below_all, same_refl}, proofs.Parts.{take_drop_flat_map, bytes_append, bytes_flat_map}}
use Rattle.mesh.specs.{Graph.{Graph}, Image.{block_bytes, payload_bytes, word, long, check_sum, block, order_blocks, block_count, order_payload}}
use Rattle.mesh.specs.{Image.{links_payload, block_at, image_of, whole_blocks, block_check, checks_good}}
use Rattle.mesh.proofs.{Tables.Laws.{length_flat_map_range, get_d_flat_map_range}, Images.Words.{bytes_word}, Images.Blocks.{length_block, bytes_block}}
use Rattle.mesh.proofs.{Images.Blocks.{get_d_block_payload, drop_block, length_order_payload, bytes_order_payload, length_links_payload}}
use Rattle.mesh.proofs.{Images.Blocks.{bytes_links_payload}}

-- ---- kind and payload of block i

unfoldable pub kind_at : Graph → (i : ℕ) → ℕ
kind_at g zero = 0
kind_at g (suc j) = cond (ltb j (order_blocks g.n)) 1 2

module _ (g : Graph) (xs : List ℕ) where
  -- what the block holds before it is filled up with zeros
  unfoldable pub content_at : (i : ℕ) → List ℕ
  content_at zero = word g.n ++ word (length g.links)
  content_at (suc j) = cond (ltb j (order_blocks g.n)) (order_payload xs j) (links_payload g.links (j - order_blocks g.n))

  pub block_at_parts : (i : ℕ) → block_at g xs i ≡ block (kind_at g i) i (content_at i)
  unfolding block_at kind_at content_at
  block_at_parts zero = refl
  block_at_parts (suc j) = go (ltb j (order_blocks g.n))
    where
      go : (t : Bool)
          → cond t (block 1 (suc j) (order_payload xs j)) (block 2 (suc j) (links_payload g.links (j - order_blocks g.n)))
          ≡ block (cond t 1 2) (suc j) (cond t (order_payload xs j) (links_payload g.links (j - order_blocks g.n)))
      go true = refl
      go false = refl

  kind_at_less : (i : ℕ) → kind_at g i < 256
  unfolding kind_at
  kind_at_less zero = omega arith
  kind_at_less (suc j) = go (ltb j (order_blocks g.n))
    where
      go : (t : Bool) → cond {A = ℕ} t 1 2 < 256
      go true = omega arith
      go false = omega arith

  pub length_content_at : (i : ℕ) → length (content_at i) ≤ payload_bytes
  unfolding content_at word
  length_content_at zero = omega arith
  length_content_at (suc j) = go (ltb j (order_blocks g.n))
    where
      go : (t : Bool) → length (cond t (order_payload xs j) (links_payload g.links (j - order_blocks g.n))) ≤ payload_bytes
      go true = omega (arith, length_order_payload xs j)
      go false = omega (arith, length_links_payload g.links (j - order_blocks g.n))

  pub bytes_content_at : (i : ℕ) → Bytes (content_at i)
  unfolding content_at
  bytes_content_at zero = bytes_append (word g.n) (word (length g.links)) (bytes_word g.n) (bytes_word (length g.links))
  bytes_content_at (suc j) = go (ltb j (order_blocks g.n))
    where
      go : (t : Bool) → Bytes (cond t (order_payload xs j) (links_payload g.links (j - order_blocks g.n)))
      go true = bytes_order_payload xs j
      go false = bytes_links_payload g.links (j - order_blocks g.n)

  -- ---- length and bytes

  pub length_block_at : (i : ℕ) → length (block_at g xs i) ≡ block_bytes
  length_block_at i = ap length (block_at_parts i) ∙ length_block (kind_at g i) i (content_at i) (length_content_at i)

  pub bytes_block_at : (i : ℕ) → Bytes (block_at g xs i)
  bytes_block_at i = rw (block_at_parts i) (bytes_block (kind_at g i) i (content_at i) (kind_at_less i) (bytes_content_at i))

  abbrev pub blocks : ℕ
  blocks = block_count g.n (length g.links)

  pub length_image_of : length (image_of g xs) ≡ block_bytes * blocks
  unfolding image_of
  length_image_of = length_flat_map_range (block_at g xs) block_bytes length_block_at 0 blocks

  pub bytes_image_of : Bytes (image_of g xs)
  unfolding image_of
  bytes_image_of = bytes_flat_map (block_at g xs) bytes_block_at (range 0 blocks)

  -- ---- block i in the image

  pub take_drop_image_of : (i : ℕ) → i < blocks → take block_bytes (drop (block_bytes * i) (image_of g xs)) ≡ block_at g xs i
  unfolding image_of
  take_drop_image_of i h =
      take_drop_flat_map (block_at g xs) block_bytes length_block_at 0 (range 0 blocks) i (omega (arith, length_range 0 blocks))
      ∙ ap (block_at g xs) (omega (arith, get_d_range 0 blocks i h))

  pub get_d_image_of : (i j : ℕ) → i < blocks → j < block_bytes → get_or (image_of g xs) (block_bytes * i + j) 0 ≡ get_or (block_at g xs i) j 0
  unfolding image_of
  get_d_image_of i j h l =
      get_d_flat_map_range (block_at g xs) block_bytes length_block_at 0 blocks i j h l ∙ ap (λ (k : ℕ). get_or (block_at g xs k) j 0) (omega arith)

  -- byte j of its payload
  pub get_d_image_content : (i j : ℕ) → i < blocks → j < payload_bytes → get_or (image_of g xs) (block_bytes * i + 4 + j) 0 ≡ get_or (content_at i) j 0
  get_d_image_content i j h l =
      ap (λ (k : ℕ). get_or (image_of g xs) k 0) (omega arith) ∙ get_d_image_of i (4 + j) h (omega arith)
      ∙ ap (λ (b : List ℕ). get_or b (4 + j) 0) (block_at_parts i)
      ∙ get_d_block_payload (kind_at g i) i (content_at i) (length_content_at i) j l

  pub content_at_order : (j : ℕ) → j < order_blocks g.n → content_at (suc j) ≡ order_payload xs j
  unfolding content_at
  content_at_order j h = rw (lt-ltb j (order_blocks g.n) h)

  pub content_at_links : (j : ℕ) → content_at (suc (order_blocks g.n + j)) ≡ links_payload g.links j
  unfolding content_at
  content_at_links j =
      let e : order_blocks g.n + j - order_blocks g.n ≡ j = omega arith in
      rw (le-ltb (order_blocks g.n + j) (order_blocks g.n) (omega arith), e)

  -- ---- questions 9 and 10 get yes

  pub whole_blocks_image_of : whole_blocks (image_of g xs) ≡ true
  unfolding whole_blocks block_count
  whole_blocks_image_of =
      rw (
        ne_eqb (length (image_of g xs)) 0 (λ e. omega (arith, length_image_of)),
        eq-eqb (length (image_of g xs) % block_bytes) 0
            (omega (arith, length_image_of)),
      )

  pub checks_good_image_of : checks_good (image_of g xs) ≡ true
  unfolding checks_good block_check
  checks_good_image_of =
      below_all (block_check (image_of g xs)) (length (image_of g xs) / block_bytes)
      (λ i l. let e = take_drop_image_of i (omega (arith, length_image_of)) ∙ block_at_parts i in
      ap (λ (b : List ℕ). same (long (check_sum (take 508 b))) (drop 508 b)) e ∙ passes i)
    where
      passes : (i : ℕ)
          → same (long (check_sum (take 508 (block (kind_at g i) i (content_at i))))) (drop 508 (block (kind_at g i) i (content_at i))) ≡ true
      passes i =
          let b : List ℕ = block (kind_at g i) i (content_at i) in
          ap (same (long (check_sum (take 508 b)))) (drop_block (kind_at g i) i (content_at i) (length_content_at i))
          ∙ same_refl (long (check_sum (take 508 b)))
