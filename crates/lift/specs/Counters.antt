-- What the search for a link that lifts a radio of level k asks of single numbers: a degree, a core number m, a counter x.
--   room_left d          a radio with d neighbours may have one more
--   rules_out k t m x    the pair of a radio with number m and counter x does not lift the radio asked for; t is whether no pair does whose other end stays
-- Definitions only.
use Rattle.std.specs.Prelude.{◌||◌, ◌+◌}
use Rattle.lists.specs.Kit.{Bool, cond, ℕ, ltb}
use Rattle.mesh.specs.Limits.{max_neighbours}

unfoldable pub room_left : (degree : ℕ) → Bool
room_left d = ltb d max_neighbours

-- it had too few neighbours when it was taken, or it stays and no such pair lifts the radio; below 128 the radio is left
unfoldable pub rules_out : (k : ℕ) → (gone : Bool) → (m x : ℕ) → Bool
rules_out k gone m x = cond (ltb k m || ltb x 128) gone (ltb x (128 + k))
