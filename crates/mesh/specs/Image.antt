-- The site image: blocks of 512 bytes, numbers little-endian.
--   word, long               a number as two or four bytes
--   check_sum bs             the sum of byte × (position + 1)
--   block kind index bytes   a block: kind, zero, index, payload filled up with zeros, check
--   block_at g xs i          block i of the image of the graph g with the order xs
--   image_of g xs            the image
--   word_at, image_order, image_links, image_graph   read back
--   whole_blocks             question 9, reading: a multiple of 512 bytes, not 0
--   checks_good              question 10: every block passes its check
--   is_image_within          question 11, worked out, where `most` bounds the bits of a row
--   is_image n bs            the same with a site's own bound
--   TablesImage n bs        question 11: the bytes are the image of some sound tables with this n
--   other_size n bs          question 15, worked out: the header says another n, and the bytes are the image of sound tables with that
--   OtherSize n bs          question 15: the bytes are the image of some sound tables with another n
--   ImageOfNone bs         question 11 after 15: the bytes are the image of no sound tables
--   payload_at bs i          the payload of block i, as the block reader gives it
-- That `is_image` is `TablesImage` and `other_size` is `OtherSize` is `is_image_tables` (proofs/Images/Tables.antt) and
-- `other_size_iff` (proofs/Images/OtherSize.antt). Definitions only.
use Rattle.std.specs.Prelude.{◌≡◌, ◌&&◌, ◌∷◌, ◌++◌, ◌+◌, ◌*◌, ◌-◌, ◌/◌, ◌%◌}
use Rattle.lists.specs.{Kit.{Bool, not, cond, true, List, [], map, flat_map, ℕ, zero, suc, ltb, eqb, length}}
use Rattle.lists.specs.{Kit.{get_or, take, drop, replicate}, Lists.{range, all, same, EntriesBelow}}
use Rattle.mesh.specs.{Graph.{Link, Graph, graph, proper, ascending}, Tables.{Tables, graph_in, tables_of, TablesOfSize}, Limits.{max_neighbours}}
use Rattle.mesh.specs.{Limits.{size_good}, Sound.{sound, sound_within}}

-- document 01: blocks of 512 bytes
abbrev pub block_bytes : ℕ
block_bytes = 512

-- document 01: bytes 4-507 payload
abbrev pub payload_bytes : ℕ
payload_bytes = 504

-- document 01: kind 1, 252 entries of 2 bytes a block
abbrev pub block_entries : ℕ
block_entries = 252

-- document 01: kind 2, 126 links a block
abbrev pub block_links : ℕ
block_links = 126

-- ---- a block

-- document 01: numbers little-endian, in 2 bytes
unfoldable pub word : ℕ → List ℕ
word x = x % 256 ∷ x / 256 % 256 ∷ []

-- and in 4
unfoldable pub long : ℕ → List ℕ
long x = x % 256 ∷ x / 256 % 256 ∷ x / 65536 % 256 ∷ x / 16777216 % 256 ∷ []

-- `weight` is the position of the first byte, and 1
unfoldable pub weighted_sum : (weight : ℕ) → List ℕ → ℕ
weighted_sum i [] = 0
weighted_sum i (x ∷ xs) = x * i + weighted_sum (suc i) xs

-- document 01: the check is the sum over bytes 0 to 507 of byte × (position + 1)
unfoldable pub check_sum : List ℕ → ℕ
check_sum bs = weighted_sum 1 bs

-- document 01: byte 0 kind, byte 1 zero, bytes 2-3 block index, bytes 4-507 payload, unused payload zero, bytes 508-511 check
unfoldable pub block : (kind index : ℕ) → (payload : List ℕ) → List ℕ
block k i xs =
    let body = k ∷ 0 ∷ word i ++ xs ++ replicate (payload_bytes - length xs) 0 in body ++ long (check_sum body)

-- ---- the image

-- how many blocks hold so many entries
unfoldable pub blocks_for : (entries each : ℕ) → ℕ
blocks_for x each = (x + (each - 1)) / each

-- document 01: n/252 rounded up
unfoldable pub order_blocks : (n : ℕ) → ℕ
order_blocks n = blocks_for n block_entries

-- document 01: 1 + n/252 rounded up + links/126 rounded up blocks
unfoldable pub block_count : (n links : ℕ) → ℕ
block_count n m = 1 + order_blocks n + blocks_for m block_links

-- document 01: lower radio then higher (2 bytes each)
unfoldable pub link_bytes : Link → List ℕ
link_bytes l = word l.low ++ word l.high

-- the payload of block j of kind 1, from 0
unfoldable pub order_payload : (order : List ℕ) → (j : ℕ) → List ℕ
order_payload xs j = flat_map word (take block_entries (drop (block_entries * j) xs))

-- the payload of block j of kind 2, from 0
unfoldable pub links_payload : List Link → (j : ℕ) → List ℕ
links_payload ls j = flat_map link_bytes (take block_links (drop (block_links * j) ls))

-- document 01: blocks stand by kind, 0 first. Kind 0, one block: n (2 bytes), count of links (2), zeros
unfoldable pub block_at : Graph → (order : List ℕ) → (i : ℕ) → List ℕ
block_at g xs zero = block 0 0 (word g.n ++ word (length g.links))
block_at g xs (suc j) =
    let kinds = order_blocks g.n in
    cond (ltb j kinds) (block 1 (suc j) (order_payload xs j)) (block 2 (suc j) (links_payload g.links (j - kinds)))

-- document 01: the site image
unfoldable pub image_of : Graph → (order : List ℕ) → List ℕ
image_of g xs = flat_map (block_at g xs) (range 0 (block_count g.n (length g.links)))

-- ---- read back

-- the number in 2 bytes from a place on
unfoldable pub word_at : (image : List ℕ) → (at : ℕ) → ℕ
word_at bs i = get_or bs i 0 + 256 * get_or bs (i + 1) 0

-- where entry j stands among blocks from `first` on, `each` entries a block, `size` bytes an entry
unfoldable pub entry_at : (first each size j : ℕ) → ℕ
entry_at first each size j = block_bytes * (first + j / each) + 4 + size * (j % each)

-- the order that an image lists
unfoldable pub image_order : (n : ℕ) → (image : List ℕ) → List ℕ
image_order n bs = map (λ j. word_at bs (entry_at 1 block_entries 2 j)) (range 0 n)

-- link j of the links that an image lists
unfoldable pub image_link : (n : ℕ) → (image : List ℕ) → (j : ℕ) → Link
image_link n bs j =
    let i = entry_at (1 + order_blocks n) block_links 4 j in record { low = word_at bs i; high = word_at bs (i + 2) }

-- document 01: the pairs that the image lists
unfoldable pub image_links : (n : ℕ) → (image : List ℕ) → List Link
image_links n bs = map (image_link n bs) (range 0 (word_at bs 6))

-- the graph of these
unfoldable pub image_graph : (n : ℕ) → (image : List ℕ) → Graph
image_graph n bs = graph n (image_links n bs)

-- ---- questions 9 to 11

-- document 01, question 9, reading: is the length a multiple of 512, not 0?
unfoldable pub whole_blocks : (image : List ℕ) → Bool
whole_blocks bs = not (eqb (length bs) 0) && eqb (length bs % block_bytes) 0

-- does block i pass its check?
unfoldable pub block_check : (image : List ℕ) → (i : ℕ) → Bool
block_check bs i =
    let b = take block_bytes (drop (block_bytes * i) bs) in same (long (check_sum (take 508 b))) (drop 508 b)

-- document 01, question 10: does every block pass its check?
unfoldable pub checks_good : (image : List ℕ) → Bool
checks_good bs = all (block_check bs) (range 0 (length bs / block_bytes))

-- document 01, question 11, worked out, where `most` bounds the bits of a row: links and order that the image lists are those of
-- sound tables, and their image is these bytes
unfoldable pub is_image_within : (most n : ℕ) → (image : List ℕ) → Bool
is_image_within most n bs =
    let g = image_graph n bs in
    let xs = image_order n bs in
    (proper n g.links && ascending g.links) && (sound_within most n (tables_of g xs) && same (image_of g xs) bs)

-- the same with a site's own bound
unfoldable pub is_image : (n : ℕ) → (image : List ℕ) → Bool
is_image n bs = is_image_within max_neighbours n bs

-- document 01, question 11: the image of some sound tables with this n; each entry fits its width
pub record TablesImage (n : ℕ) (image : List ℕ) : Type 0 where
  pub tables : Tables
  pub size : TablesOfSize n tables
  pub numbers_bytes : EntriesBelow 256 tables.numbers
  pub order_words : EntriesBelow 65536 tables.order
  pub is_sound : sound n tables ≡ true
  pub written : image_of (graph_in n tables.links) tables.order ≡ image

-- ---- another size (document 02, W-207)

-- question 15, worked out: the header says another n, and the bytes are the image of sound tables with that
unfoldable pub other_size : (n : ℕ) → (image : List ℕ) → Bool
other_size n bs = let m = word_at bs 4 in not (eqb m n) && (size_good m && is_image m bs)

-- "is the image of sound tables with another n", from 1 to 512
pub record OtherSize (n : ℕ) (image : List ℕ) : Type 0 where
  pub another : ℕ
  pub size : size_good another ≡ true
  pub other : another ≡ n → ⊥
  pub of_tables : TablesImage another image

-- "the image of no sound tables at all"
abbrev pub ImageOfNone : (image : List ℕ) → Type 0
ImageOfNone bs = (m : ℕ) → size_good m ≡ true → TablesImage m bs → ⊥

-- ---- the block reader

-- document 01: the payload that a reader gives back is those 504 bytes of the image
unfoldable pub payload_at : (image : List ℕ) → (i : ℕ) → List ℕ
payload_at bs i = take payload_bytes (drop (block_bytes * i + 4) bs)
