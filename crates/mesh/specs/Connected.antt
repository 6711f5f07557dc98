-- Connected cores and the backbone.
--   Reachable g over v w     links lead from v to w over radios that pass the test `over`
--   at_least g k             the test: radios with number k or more
--   InCore g v k w          document 01: w is in the connected core of v at level k
--   reached, core_of         the same, worked out by rounds, as an ascending list
--   InBackbone g v          v's number is the greatest in its own connected part, and not 0 (document 02, W-202)
--   backbone g               the same, worked out, as an ascending list
--   site_backbone g          document 01's backbone, by the greatest number of the site; it serves `backbone_one_part` alone
-- The connected part of v is its connected core at level 0. That rounds give what is reachable is `core_of_iff` in
-- proofs/Trees/Reach.antt; of the backbone it is `backbone_iff` in proofs/Trees/Listed.antt, and there `backbone_one_part` says that
-- a site in one part has document 01's backbone. Definitions only.
use Rattle.std.specs.Prelude.{◌≡◌, ◌&&◌, ◌||◌, ◌∷◌, ◌≤◌, ◌<◌}
use Rattle.lists.specs.{Kit.{Bool, true, List, [], map, ℕ, zero, suc, max, ltb, leb, eqb}, Lists.{filter, member}}
use Rattle.mesh.specs.{Graph.{Graph, radios, linked, neighbours_among}, Cores.{number, numbers}}

-- ---- connected cores

-- links lead from v to a radio, over radios that pass the test
pub data Reachable (g : Graph) (over : ℕ → Bool) (v : ℕ) : ℕ → Type 0 where
  here : Reachable g over v v
  onward : {w x : ℕ} → Reachable g over v w → linked g w x ≡ true → x < g.n → over x ≡ true → Reachable g over v x

-- the radios with number k or more
unfoldable pub at_least : Graph → (k v : ℕ) → Bool
at_least g k = let num = number g in λ v. leb k (num v)

-- document 01: connected core of v at level k. All radios reachable from v over radios with number k or more
unfoldable pub InCore : Graph → (v k w : ℕ) → Type 0
InCore g v k w = Reachable g (at_least g k) v w

-- in each round the radios come in that pass the test and have a neighbour that is in
unfoldable pub reached : (rounds : ℕ) → Graph → (over : ℕ → Bool) → List ℕ → List ℕ
reached zero g over xs = xs
reached (suc r) g over xs =
    reached r g over (filter (λ w. member w xs || (over w && ltb 0 (neighbours_among (linked g) w xs))) (radios g))

-- the same, worked out: ascending
unfoldable pub core_of : Graph → (v k : ℕ) → List ℕ
core_of g v k = reached g.n g (at_least g k) (v ∷ [])

-- ---- backbone

-- document 01: backbone, as W-202 has it. The number is the greatest in the radio's own connected part, and not 0
pub record InBackbone (g : Graph) (v : ℕ) : Type 0 where
  pub is_radio : v < g.n
  pub positive : 1 ≤ number g v
  pub no_greater : (w : ℕ) → InCore g v 0 w → number g w ≤ number g v

unfoldable pub greatest : List ℕ → ℕ
greatest [] = 0
greatest (x ∷ xs) = max x (greatest xs)

-- the same, worked out: ascending
unfoldable pub backbone : Graph → List ℕ
backbone g =
    let num = number g in
    filter (λ v. ltb 0 (num v) && eqb (num v) (greatest (map num (core_of g v 0)))) (radios g)

-- document 01: backbone, before W-202. The radios whose number is the greatest at the site; none if that is 0
unfoldable pub site_backbone : Graph → List ℕ
site_backbone g =
    let num = number g in
    let top = greatest (numbers g) in filter (λ v. ltb 0 top && eqb (num v) top) (radios g)
