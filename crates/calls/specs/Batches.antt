-- Links taken up one by one (document 02, W-213): two entries of a list a link, until one is refused.
--   list_length k            question 2 of the list: k entries are whole links
--   batch_refusal            questions 1 to 3 of a batch
--   up_refusal n a b ps      questions 4 to 7 of taking up the link between a and b, by the pairs before it
--   batch_switches n xs ps   the links of the list xs that go up, by the pairs before the batch
--   batch_stop n xs ps       the number of the link that is refused, or 0
--   ups xs                   every link of the list xs, going up
-- Definitions only.
use Rattle.std.specs.Prelude.{◌∷◌, ◌%◌}
use Rattle.lists.specs.Kit.{Bool, true, List, [], ℕ, eqb}
use Rattle.mesh.specs.{Limits.{max_neighbours}, Graph.{Link, graph, new_links}}
use Rattle.calls.specs.{Questions.{by_number, Lengths, site_refusal, ends_refusal}, Switches.{Switch, switch}}

-- ---- questions

-- 2. Has the list two entries a link?
unfoldable pub list_length : (list : ℕ) → Bool
list_length k = eqb (k % 2) 0

-- 1 to 3, of an empty list too; 4 to 7 are put to each link in turn
unfoldable pub batch_refusal : (n : ℕ) → Lengths → (list : ℕ) → (sound : Bool) → ℕ
batch_refusal n l k sound = site_refusal n l (list_length k) sound 0

-- ---- the links

abbrev pub up_refusal : (n a b : ℕ) → (pairs : List Link) → ℕ
up_refusal n a b ps = ends_refusal max_neighbours true n a b (graph n ps)

unfoldable pub batch_switches : (n : ℕ) → (list : List ℕ) → (pairs : List Link) → List Switch
batch_switches n [] ps = []
batch_switches n (a ∷ []) ps = []
batch_switches n (a ∷ b ∷ xs) ps =
    by_number (up_refusal n a b ps) (switch true a b ∷ batch_switches n xs (new_links true a b ps)) (λ q. [])

unfoldable pub batch_stop : (n : ℕ) → (list : List ℕ) → (pairs : List Link) → ℕ
batch_stop n [] ps = 0
batch_stop n (a ∷ []) ps = 0
batch_stop n (a ∷ b ∷ xs) ps = by_number (up_refusal n a b ps) (batch_stop n xs (new_links true a b ps)) (λ q. q)

unfoldable pub ups : (list : List ℕ) → List Switch
ups [] = []
ups (a ∷ []) = []
ups (a ∷ b ∷ xs) = switch true a b ∷ ups xs
