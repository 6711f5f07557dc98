-- k-orders.
--   each_once n xs       the list xs holds each radio below n once, and nothing else
--   rising num xs        the numbers never fall along xs
--   few_later f num xs   no radio of xs has more later neighbours than its number, where f tells neighbours
--   is_k_order g xs      document 01: core numbers never fall along it, and no radio has more later neighbours than its core number
--   later_in f v xs      the neighbours of v that stand after v in xs, in their order
--   nobody               no radio
--   FirstLater f v w xs   w is the first neighbour of v that stands after v in xs: there is none between
-- Laws are in proofs/Cores/Orders.antt. Definitions only.
use Rattle.std.specs.Prelude.{◌≡◌, ◌&&◌, ◌∷◌, ◌++◌}
use Rattle.lists.specs.{Kit.{Bool, true, false, cond, List, [], ℕ, leb, eqb, length}, Lists.{range, count, filter, all, In}}
use Rattle.mesh.specs.{Graph.{Graph, linked, neighbours_among}, Cores.{number}}

-- document 01: the order holds each radio once
unfoldable pub each_once : (n : ℕ) → List ℕ → Bool
each_once n xs = eqb (length xs) n && all (λ v. eqb (count (λ x. eqb x v) xs) 1) (range 0 n)

-- document 01: numbers never fall along the order
unfoldable pub rising : (num : ℕ → ℕ) → List ℕ → Bool
rising num [] = true
rising num (x ∷ []) = true
rising num (x ∷ y ∷ ys) = leb (num x) (num y) && rising num (y ∷ ys)

-- document 01: each radio has at most its number of neighbours later in the order
unfoldable pub few_later : (neighbour : ℕ → ℕ → Bool) → (num : ℕ → ℕ) → List ℕ → Bool
few_later f num [] = true
few_later f num (x ∷ xs) = leb (neighbours_among f x xs) (num x) && few_later f num xs

-- document 01: k-order. Core numbers never fall along it, and no radio has more later neighbours than its core number
unfoldable pub is_k_order : Graph → List ℕ → Bool
is_k_order g xs =
    let num = number g in each_once g.n xs && (rising num xs && few_later (linked g) num xs)

-- ---- later neighbours (document 02, W-206)

-- the neighbours of v after v, in their order; of the first v, where it stands several times, and none where it does not stand
unfoldable pub later_in : (neighbour : ℕ → ℕ → Bool) → (v : ℕ) → List ℕ → List ℕ
later_in f v [] = []
later_in f v (x ∷ xs) = let rest = later_in f v xs in cond (eqb x v) (filter (f v) xs) rest

-- in place of a radio where there is none
abbrev pub nobody : ℕ
nobody = 65535

-- the first of the later neighbours: w is a neighbour of v after it, and there is none between
pub record FirstLater (f : ℕ → ℕ → Bool) (v w : ℕ) (xs : List ℕ) : Type 0 where
  pub before : List ℕ
  pub between : List ℕ
  pub after : List ℕ
  pub is : xs ≡ before ++ (v ∷ (between ++ (w ∷ after)))
  pub neighbour : f v w ≡ true
  pub none_between : (u : ℕ) → In u between → f v u ≡ false
