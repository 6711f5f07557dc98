-- Laws of the blocks of links: where a block's links stand, and how many links the blocks so far have.
use Rattle.std.specs.Prelude.{◌≡◌, ◌+◌, ◌*◌, ◌-◌, ◌/◌, ◌%◌, ◌≤◌, ◌<◌}
use Rattle.lists.specs.Kit.{ap, ◌∙◌, List, ℕ, min, arith}
use Rattle.mesh.specs.Image.{block_bytes, block_links, order_blocks, blocks_for, block_count, word_at, entry_at, image_link}
use Rattle.image.specs.Header.{header}
use Rattle.image_reader.specs.Site.{LinkAt, passed, PartIs}

-- ---- a block

pub part_is : (n m q at orders left count : ℕ) → orders ≡ order_blocks n → at ≡ block_bytes * (1 + orders + q) + 4
    → left ≡ m - block_links * q → count ≡ min block_links left → PartIs (header n m) q (record { at = at; count = count })
part_is n m q at orders left count e a l c =
    record { at_is = a ∙ ap (λ (k : ℕ). block_bytes * (1 + k + q) + 4) e; count_is = c ∙ ap (min block_links) l }

module _ (n m q at count : ℕ) (part : PartIs (header n m) q (record { at = at; count = count })) where
  -- link i of block q
  pub link_in : (bs : List ℕ) (i a b : ℕ) → i < count → a ≡ word_at bs (at + 4 * i) → b ≡ word_at bs (at + 4 * i + 2)
      → LinkAt n bs (block_links * q + i) a b
  unfolding image_link entry_at
  link_in bs i a b l ea eb = record { low = ea ∙ ap (word_at bs) place; high = eb ∙ ap (λ (k : ℕ). word_at bs (k + 2)) place }
    where
      block : (block_links * q + i) / block_links ≡ q
      block = omega (arith, part.count_is)

      entry : (block_links * q + i) % block_links ≡ i
      entry = omega (arith, part.count_is)

      place : at + 4 * i ≡ entry_at (1 + order_blocks n) block_links 4 (block_links * q + i)
      place = rw (block, entry) (omega (arith, part.at_is))

  pub link_inside : (long i : ℕ) → block_bytes * block_count n m ≤ long → block_links * q < m → i < count → at + 4 * i + 4 ≤ long
  unfolding block_count blocks_for
  link_inside long i w h l = omega (arith, part.at_is, part.count_is)

  pub link_index : (i : ℕ) → i < count → block_links * q + i < m
  link_index i l = omega (arith, part.count_is)

  pub block_passed : block_links * q < m → (i : ℕ) → i ≤ count → count ≤ i → block_links * q + i ≡ passed m (q + 1)
  block_passed h i l g = omega (arith, part.count_is)

-- ---- the blocks so far

pub passed_none : (m : ℕ) → passed m 0 ≡ 0
passed_none m = omega arith

pub passed_all : (m q end : ℕ) → end ≡ blocks_for m block_links → end ≤ q → passed m q ≡ m
unfolding blocks_for
passed_all m q end e h = omega arith

pub block_there : (m q end : ℕ) → end ≡ blocks_for m block_links → q < end → block_links * q < m
unfolding blocks_for
block_there m q end e h = omega arith
