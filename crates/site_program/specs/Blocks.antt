-- The block that an error line names.
--   FirstBad image i   block i is the first that does not pass its check; i is their count where all pass
-- Definitions only.
use Rattle.std.specs.Prelude.{◌≡◌, ◌/◌, ◌≤◌, ◌<◌}
use Rattle.lists.specs.Kit.{true, false, List, ℕ, length}
use Rattle.mesh.specs.Image.{block_bytes, block_check}

pub record FirstBad (image : List ℕ) (i : ℕ) : Type 0 where
  pub low : i ≤ length image / block_bytes
  pub good : (j : ℕ) → j < i → block_check image j ≡ true
  pub bad : i < length image / block_bytes → block_check image i ≡ false
