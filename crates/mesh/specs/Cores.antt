-- Core numbers: by the largest group, and worked out by peeling.
--   Group g k s       the set s gives each of its radios at least k neighbours inside it
--   Core g v k        k is the core number of v: the largest k such that a group of k has v
--   survivors, peeled radios with fewer than k neighbours left go, until none goes
--   cores g           what peeling leaves for k = 1, 2, .., until nothing is left
--   number g v        the core number of v: how many of these have v
--   numbers g         the core numbers by radio
-- That `number` is the core number is `number_core` in proofs/Cores/Peeling.antt. Definitions only.
use Rattle.std.specs.Prelude.{◌≡◌, ◌∷◌, ◌+◌, ◌≤◌, ◌<◌}
use Rattle.lists.specs.{Kit.{Bool, true, cond, List, [], map, ℕ, zero, suc, leb, eqb, length}, Lists.{filter, member}}
use Rattle.mesh.specs.Graph.{Graph, radios, linked, neighbours_among, neighbours_in}

-- ---- the largest group

-- document 01: a set that gives each member at least k neighbours inside it
unfoldable pub Group : Graph → (k : ℕ) → (set : ℕ → Bool) → Type 0
Group g k s = (v : ℕ) → v < g.n → s v ≡ true → k ≤ neighbours_in g v s

-- document 01: core number of v
pub record Core (g : Graph) (v k : ℕ) : Type 0 where
  pub group : ℕ → Bool
  pub is_group : Group g k group
  pub has : group v ≡ true
  pub largest : (j : ℕ) (s : ℕ → Bool) → Group g j s → s v ≡ true → j ≤ k

-- ---- peeling

-- the radios of xs with at least k neighbours among xs
unfoldable pub survivors : Graph → (k : ℕ) → List ℕ → List ℕ
survivors g k xs = filter (λ v. leb k (neighbours_among (linked g) v xs)) xs

-- as many rounds as there are radios are enough
unfoldable pub peeled : (rounds : ℕ) → Graph → (k : ℕ) → List ℕ → List ℕ
peeled zero g k xs = xs
peeled (suc f) g k xs =
    let ys = survivors g k xs in
    let rest = peeled f g k ys in cond (eqb (length ys) (length xs)) xs rest

-- each core is peeled from the one before it
unfoldable pub cores_from : (levels k : ℕ) → Graph → List ℕ → List (List ℕ)
cores_from zero k g xs = []
cores_from (suc f) k g [] = []
cores_from (suc f) k g (x ∷ xs) =
    let core = peeled (length (x ∷ xs)) g k (x ∷ xs) in
    let rest = cores_from f (suc k) g core in core ∷ rest

-- what peeling leaves for k = 1, 2, .., until nothing is left
unfoldable pub cores : Graph → List (List ℕ)
cores g = cores_from g.n 1 g (radios g)

-- how many of these sets have v
unfoldable pub depth : List (List ℕ) → (v : ℕ) → ℕ
depth [] v = 0
depth (c ∷ cs) v = cond (member v c) 1 0 + depth cs v

-- document 01: the core number of v, worked out
unfoldable pub number : Graph → (v : ℕ) → ℕ
number g = let cs = cores g in λ v. depth cs v

-- the core numbers by radio
unfoldable pub numbers : Graph → List ℕ
numbers g = let num = number g in map num (radios g)
