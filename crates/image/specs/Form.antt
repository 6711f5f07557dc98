-- The form of an image of n radios, as question 11 tests it in place: bs is the image, m its count of links.
--   zeros bs at k              the k bytes from `at` on are zero
--   kind_byte k                the byte of a kind
--   kind_of n i                the kind of block i, as its byte
--   used_of n m i              how many bytes of the payload of block i are used
--   block_formed bs i k u      block i has kind k, a zero byte, its index, and zeros past u bytes of its payload
--   blocks_formed n bs b       the first b blocks are formed
--   is_formed n bs             the image has n, the length for its count of links, and its blocks are formed
-- That a formed image whose checks are good is the image of what it says is in proofs/FormLaws.antt. Definitions only.
use Rattle.std.specs.Prelude.{◌&&◌, ◌+◌, ◌*◌, ◌-◌}
use Rattle.lists.specs.{Kit.{Bool, cond, List, ℕ, zero, suc, min, ltb, eqb, length, get_or}, Lists.{range, all}}
use Rattle.image.specs.declared.layout.Kind.{Kind}
use Rattle.image.specs.declared.layout.Kind.TheVariants.{Counts, Order, Links}
use Rattle.mesh.specs.Image.{block_bytes, payload_bytes, block_entries, block_links, word_at, order_blocks, block_count}

unfoldable pub zeros : (image : List ℕ) → (at k : ℕ) → Bool
zeros bs at k = all (λ j. eqb (get_or bs (at + j) 0) 0) (range 0 k)

abbrev pub kind_byte : Kind → ℕ
kind_byte Counts = 0
kind_byte Order = 1
kind_byte Links = 2

unfoldable pub kind_of : (n i : ℕ) → ℕ
kind_of n zero = 0
kind_of n (suc j) = cond (ltb j (order_blocks n)) 1 2

unfoldable pub used_of : (n m i : ℕ) → ℕ
used_of n m zero = 4
used_of n m (suc j) =
    cond (ltb j (order_blocks n)) (2 * min block_entries (n - block_entries * j)) (4 * min block_links (m - block_links * (j - order_blocks n)))

unfoldable pub block_formed : (image : List ℕ) → (i kind used : ℕ) → Bool
block_formed bs i k u =
    eqb (get_or bs (block_bytes * i) 0) k
    && (eqb (get_or bs (block_bytes * i + 1) 0) 0
    && (eqb (word_at bs (block_bytes * i + 2)) i && zeros bs (block_bytes * i + 4 + u) (payload_bytes - u)))

unfoldable pub blocks_formed : (n m : ℕ) → (image : List ℕ) → (blocks : ℕ) → Bool
blocks_formed n m bs b = all (λ i. block_formed bs i (kind_of n i) (used_of n m i)) (range 0 b)

unfoldable pub is_formed : (n : ℕ) → (image : List ℕ) → Bool
is_formed n bs =
    let m = word_at bs 6 in
    eqb (word_at bs 4) n && (eqb (length bs) (block_bytes * block_count n m) && blocks_formed n m bs (block_count n m))
