-- A step of the block reader, beside its form for C: a struct that holds the image, and the payload as a part of the image.
--   PartThere  the image has the payload of block i, or no bytes of it are asked for
--   part_start  where such a part lies
--   PartOf     a part of the image, and where it lies
--   Stepped     what a step gives
--   Moved       the reader after a step
-- Definitions only.
use mathlib.Core.{Path.{◌≡◌}, Logic.{◌⊎◌}, List.{List}}
use Rattle.std.specs.Prelude.{ℕ, zero, suc, ◌+◌, ◌*◌, ◌≤◌, length, take, drop}
use Rattle.std.specs.Borrow.{Bor}
use Rattle.mesh.specs.Image.{block_bytes, payload_bytes}
use Rattle.calls.specs.{CallContracts.{BlockContract}, declared.Block.{Block}}
use Rattle.block_reader.specs.declared.blocks.{BlockReader.{BlockReader}, BlockStep.{BlockStep}}

unfoldable pub PartThere : (i count : ℕ) → (image : List ℕ) → Type 0
PartThere i count bs = (count ≡ 0) ⊎ ((count ≡ payload_bytes) × (block_bytes * i + block_bytes ≤ length bs))

-- the payload of block i, or, of no bytes, the image's start
unfoldable pub part_start : (i count : ℕ) → ℕ
part_start i zero = 0
part_start i (suc k) = block_bytes * i + 4

-- r is the bytes of the image from `at` on: it lies in the image and is no copy
pub record PartOf (at count : ℕ) (image r : Bor (List ℕ)) : Type 0 where
  pub is : r.now ≡ take count (drop at image.now)
  pub memory : r.ref_ptr.0 ≡ image.ref_ptr.0
  pub place : r.ref_ptr.1 ≡ at + image.ref_ptr.1

-- the step s of the reader r: what the form for C answers, and the part of the image that it names
pub record Stepped (r : BlockReader) (s : BlockStep) : Type 0 where
  pub answer : Block
  pub answered : BlockContract r.image.now r.next answer
  pub number : s.number ≡ answer.number
  pub end : s.end ≡ answer.end
  pub part : PartOf answer.offset answer.length r.image s.part
  pub next : s.next ≡ answer.next

-- the reader q after a step of r: the same image, and the number that the form for C answers
pub record Moved (r q : BlockReader) : Type 0 where
  pub answer : Block
  pub answered : BlockContract r.image.now r.next answer
  pub image : q.image ≡ r.image
  pub next : q.next ≡ answer.next
