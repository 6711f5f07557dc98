-- A block as it is filled in.
--   opened kind index    kind, zero, index, and zeros after
--   sealed block         the block with its check in its last four bytes
-- That an opened block with its payload put and sealed is `block` of mesh is `sealed_payload` in proofs/FillerLaws.antt.
-- Definitions only.
use Rattle.std.specs.Prelude.{◌∷◌, ◌++◌}
use Rattle.lists.specs.Kit.{List, ℕ, take, replicate}
use Rattle.mesh.specs.Image.{word, long, check_sum}

unfoldable pub opened : (kind index : ℕ) → List ℕ
opened k i = k ∷ 0 ∷ word i ++ replicate 508 0

unfoldable pub sealed : (block : List ℕ) → List ℕ
sealed b = take 508 b ++ long (check_sum (take 508 b))
