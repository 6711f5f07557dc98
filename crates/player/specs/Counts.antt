-- Lengths of the fronts of buffers.
--   IsPrefixLen n xs     the first n bytes of xs are n bytes
-- Definitions only.
use Rattle.std.specs.Prelude.{◌≡◌, ◌≤◌}
use Rattle.lists.specs.Kit.{ℕ, List, length, take}

-- `&xs[..n]` is in bounds and has n bytes
abbrev pub IsPrefixLen : ℕ → List ℕ → Type 0
IsPrefixLen n xs = (n ≤ length xs) × (n ≡ length (take n xs))
