-- Laws of the counts over a block's links, whose two halves go side by side.
-- In order: a block to be counted, a link of it, the link after the first half's or the second half's, both halves together, the end.
use Rattle.std.specs.Prelude.{◌≡◌, ◌+◌, ◌*◌, ◌≤◌, ◌<◌}
use Rattle.lists.specs.Kit.{refl, List, ℕ, arith, length}
use Rattle.mesh.specs.Image.{block_links, word_at}
use Rattle.image.specs.declared.header.Header.{Header}
use Rattle.image_reader.specs.declared.blocks.Part.{Part}
use Rattle.image_reader.specs.Site.{links_up_to, passed, Tallied, count_at, LinkThere, TallyRoom, PartIs}
use Rattle.image_reader.proofs.{BlockLaws.{link_in, link_inside, link_index, block_passed}, TallyLaws.{Tallying, ListedLink, listed_link, link_fits}}
use Rattle.image_reader.proofs.{TallyLaws.{tallying_first, tallying_second, tallying_join, tallying_to}}

-- block q has its links here, and is counted from the counts `start` on
pub record Block (h : Header) (q : ℕ) (here : Part) (bs : List ℕ) (ranks : ℕ) (start : List ℕ) : Type 0 where
  pub part : PartIs h q here
  pub there : block_links * q < h.links
  pub room : TallyRoom h bs ranks (length start)

module _ {h : Header} {q : ℕ} {here : Part} {bs : List ℕ} {ranks : ℕ} {start : List ℕ} (block : Block h q here bs ranks start) where
  -- the link at place p of the block
  block_link : (p : ℕ) → p < here.count → ListedLink h.radios bs (block_links * q + p) (word_at bs (here.at + 4 * p)) (word_at bs (here.at + 4 * p + 2))
  block_link p l =
      listed_link h.radios bs h.links (block_links * q + p) (word_at bs (here.at + 4 * p)) (word_at bs (here.at + 4 * p + 2)) block.room.is_proper
      (link_index h.radios h.links q here.at here.count block.part p l)
      (link_in h.radios h.links q here.at here.count block.part bs p (word_at bs (here.at + 4 * p)) (word_at bs (here.at + 4 * p + 2)) l refl refl)

  enough : h.radios ≤ length start
  enough = omega (arith, block.room.counted)

  pub link_there : {rs : List ℕ} {s : ℕ} {counts : List ℕ} {j k i : ℕ} → Tallying h.radios rs s bs start counts j k i → (p : ℕ) → p < here.count
      → j + i < block_links * q + here.count → LinkThere bs (here.at + 4 * p) ranks counts
  link_there t p l few =
      record {
        whole = link_inside h.radios h.links q here.at here.count block.part (length bs) p block.room.whole block.there l;
        ranked = omega (arith, (block_link p l).radio, block.room.ranked);
        fits = link_fits _ _ _ _ _ _ _ _ _ t _ _ _ (block_link p l) enough (omega (arith, block.room.few, block.part.count_is));
      }

  -- the link at place p, after all before it
  pub first_turn : {rs : List ℕ} {s : ℕ} {counts after : List ℕ} (p : ℕ) {k i : ℕ} → Tallying h.radios rs s bs start counts (block_links * q + p) k i
      → p < here.count → after ≡ count_at rs s bs (here.at + 4 * p) counts → Tallying h.radios rs s bs start after (block_links * q + (p + 1)) k i
  first_turn p t l e = tallying_first _ _ _ _ _ _ _ _ _ t _ _ _ (block_link p l) enough _ e (omega arith) (block_links * q + (p + 1)) (omega arith)

  -- the link at place i of the second half, after the links of this half before it
  pub second_turn : {rs : List ℕ} {s : ℕ} {counts after : List ℕ} (half i : ℕ) {j : ℕ} → Tallying h.radios rs s bs start counts j (block_links * q + half) i
      → half + i < here.count → after ≡ count_at rs s bs (here.at + 4 * (half + i)) counts → Tallying h.radios rs s bs start after j (block_links * q + half) (i + 1)
  second_turn half i t l e = tallying_second _ _ _ _ _ _ _ _ _ t _ _ _ (block_link (half + i) l) enough _ e (omega arith) (i + 1) refl

  pub both_halves : {rs : List ℕ} {s : ℕ} {counts : List ℕ} (half i : ℕ)
      → Tallying h.radios rs s bs start counts (block_links * q + i) (block_links * q + half) i → i ≤ half → half ≤ i
      → Tallying h.radios rs s bs start counts (block_links * q + (half + half)) 0 0
  both_halves half i t l g = tallying_join _ _ _ _ _ _ _ _ _ (block_links * q + (half + half)) 0 t (omega arith) (omega arith)

  pub block_end : {rs : List ℕ} {s : ℕ} {counts : List ℕ} (p : ℕ) {k : ℕ} → Tallying h.radios rs s bs start counts (block_links * q + p) k 0
      → p ≤ here.count → here.count ≤ p → Tallied h.radios rs s (links_up_to h.radios bs (passed h.links (q + 1))) counts
  block_end p t l g = tallying_to _ _ _ _ _ _ _ _ (passed h.links (q + 1)) t (block_passed h.radios h.links q here.at here.count block.part block.there p l g)
