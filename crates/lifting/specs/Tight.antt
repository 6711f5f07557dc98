-- Ends with exactly K later neighbours: where a pair that lifts a radio of number K has to begin. `place` says where a radio stands in the order.
--   Ordered g place        numbers never fall along the order, and no radio has more later neighbours than its number
--   later g place v        how many neighbours of v stand later in the order than v
--   tight g place k r v    v has number k and exactly k later neighbours, and stands no later than r
--   first_end place a b    the end of the pair a, b that stands first in the order, where a walk of its link begins
-- That only a pair whose first end is tight lifts r is `tight_refutes` in proofs/Tight.antt. Definitions only.
use Rattle.std.specs.Prelude.{◌≡◌, ◌&&◌, ◌≤◌, ◌<◌}
use Rattle.lists.specs.Kit.{Bool, cond, ℕ, ltb, leb, eqb}
use Rattle.mesh.specs.{Graph.{Graph, neighbours_in}, Cores.{number}}

unfoldable pub later : Graph → (place : ℕ → ℕ) → (v : ℕ) → ℕ
later g place v = neighbours_in g v (λ w. ltb (place v) (place w))

pub record Ordered (g : Graph) (place : ℕ → ℕ) : Type 0 where
  pub rises : (v w : ℕ) → v < g.n → w < g.n → place v < place w → number g v ≤ number g w
  pub apart : (v w : ℕ) → v < g.n → w < g.n → place v ≡ place w → v ≡ w
  pub few : (v : ℕ) → v < g.n → later g place v ≤ number g v

unfoldable pub tight : Graph → (place : ℕ → ℕ) → (k r v : ℕ) → Bool
tight g place k r v = eqb (number g v) k && (leb (place v) (place r) && eqb (later g place v) k)

unfoldable pub first_end : (place : ℕ → ℕ) → (a b : ℕ) → ℕ
first_end place a b = cond (ltb (place b) (place a)) b a
