-- One link that lifts a radio (document 02, W-212).
--   lifts g v l      a link call would take the link l up now (questions 4 to 7), and the core number of v would be greater with it
--   lifting_from     the pairs that lift v and have the lower radio a, by the higher radio
--   lifting g v      the pairs that lift v, by lower radio and then higher
--   first_pair ls    the first of them
--   is_lifted ls     20: is there a pair that lifts the radio?
-- That these are core numbers by the largest group is `lift_core` in crate lifting. Definitions only.
use Rattle.std.specs.Prelude.{◌&&◌, ◌∷◌, ◌-◌}
use Rattle.lists.specs.{Kit.{Bool, true, false, List, [], map, flat_map, ℕ, suc, ltb, eqb}, Lists.{range, filter}}
use Rattle.mesh.specs.{Limits.{max_neighbours}, Graph.{Link, link_of, Graph, radios, relinked}, Cores.{number}}
use Rattle.calls.specs.Questions.{ends_refusal}

-- document 02: a pair whose link is down, would be accepted now, and would raise that radio's core number
unfoldable pub lifts : Graph → (v : ℕ) → Link → Bool
lifts g v l =
    eqb (ends_refusal max_neighbours true g.n l.low l.high g) 0
    && ltb (number g v) (number (relinked true l.low l.high g) v)

unfoldable pub lifting_from : Graph → (v a : ℕ) → List Link
lifting_from g v a = map (link_of a) (filter (λ b. lifts g v (link_of a b)) (range (suc a) (g.n - suc a)))

unfoldable pub lifting : Graph → (v : ℕ) → List Link
lifting g v = flat_map (lifting_from g v) (radios g)

-- zeros where there is none
unfoldable pub first_pair : List Link → Link
first_pair [] = link_of 0 0
first_pair (l ∷ ls) = l

-- 20. Is there a pair that lifts the radio?
unfoldable pub is_lifted : List Link → Bool
is_lifted [] = false
is_lifted (l ∷ ls) = true
