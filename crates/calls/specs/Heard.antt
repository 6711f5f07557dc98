-- Links that both ends hear (document 02, W-205). A heard table has the shape of the links table: row a says whom a hears.
--   agreed hs a b           each of a and b hears the other
--   agreed_degree n hs a    how many agreed links a has
--   heard_alone hs a b      a hears b, and b does not hear a
--   one-sided n hs          the further table: it marks these pairs, and all its other bits are zero
--   one_sided_count n hs    how many these pairs are
--   heard_lengths           question 2 of the heard and the further table
--   heard_proper n hs       question 14
--   agreed_few most n hs    question 7: agreed links of each radio
--   hear_refusal            the first "no" of the call's questions, or 0
--   switches_where up n f   the links that pass the test f going up or down, by lower radio and then higher
--   heard_switches g hs     the links to go down, then the links to come up
-- Definitions only.
use Rattle.std.specs.Prelude.{◌&&◌, ◌++◌, ◌*◌, ◌-◌}
use Rattle.lists.specs.{Kit.{Bool, true, false, not, List, map, flat_map, ℕ, suc, leb, eqb, length}, Lists.{range, count, total, filter}}
use Rattle.lists.specs.{Lists.{all}}
use Rattle.mesh.specs.{Limits.{max_neighbours, row_bytes}, Graph.{Graph, linked}, Tables.{marked, bit_table}, Sound.{irreflexive, within}}
use Rattle.calls.specs.{Questions.{Lengths, ask, site_refusal}, Switches.{Switch, switch}}

-- ---- agreed links and one-sided pairs

-- a link is agreed when each end hears the other
unfoldable pub agreed : (heard : List ℕ) → (a b : ℕ) → Bool
agreed hs a b = marked hs a b && marked hs b a

unfoldable pub agreed_degree : (n : ℕ) → (heard : List ℕ) → (a : ℕ) → ℕ
agreed_degree n hs a = count (agreed hs a) (range 0 n)

unfoldable pub heard_alone : (heard : List ℕ) → (a b : ℕ) → Bool
heard_alone hs a b = marked hs a b && not (marked hs b a)

unfoldable pub one_sided : (n : ℕ) → (heard : List ℕ) → List ℕ
one_sided n hs = bit_table n (heard_alone hs)

unfoldable pub one_sided_count : (n : ℕ) → (heard : List ℕ) → ℕ
one_sided_count n hs = total (λ a. count (heard_alone hs a) (range 0 n)) (range 0 n)

-- ---- questions

-- 2. Has each of the two tables the length of the links table?
unfoldable pub heard_lengths : (n heard further : ℕ) → Bool
heard_lengths n k w = eqb k (row_bytes * n) && eqb w (row_bytes * n)

-- 14. Does no heard row mark its own radio or one at n or above?
unfoldable pub heard_proper : (n : ℕ) → (heard : List ℕ) → Bool
heard_proper n hs = irreflexive n hs && within n hs

-- 7. Would each radio have at most so many agreed links?
unfoldable pub agreed_few : (most n : ℕ) → (heard : List ℕ) → Bool
agreed_few most n hs = all (λ a. leb (agreed_degree n hs a) most) (range 0 n)

-- 1 to 3, 14, 7
unfoldable pub hear_refusal : (n : ℕ) → Lengths → (heard : List ℕ) → (further : ℕ) → (sound : Bool) → ℕ
hear_refusal n l hs w sound =
    site_refusal n l (heard_lengths n (length hs) w) sound (ask 14 (heard_proper n hs) (ask 7 (agreed_few max_neighbours n hs) 0))

-- ---- the single calls

-- of row a: to radios above a, rising
unfoldable pub row_switches : (up : Bool) → (n : ℕ) → (ℕ → ℕ → Bool) → (a : ℕ) → List Switch
row_switches u n f a = map (λ b. switch u a b) (filter (f a) (range (suc a) (n - suc a)))

unfoldable pub switches_where : (up : Bool) → (n : ℕ) → (ℕ → ℕ → Bool) → List Switch
switches_where u n f = flat_map (row_switches u n f) (range 0 n)

-- links that are not agreed go down
unfoldable pub goes_down : Graph → (heard : List ℕ) → (a b : ℕ) → Bool
goes_down g hs a b = linked g a b && not (agreed hs a b)

-- agreed links that are down come up
unfoldable pub comes_up : Graph → (heard : List ℕ) → (a b : ℕ) → Bool
comes_up g hs a b = agreed hs a b && not (linked g a b)

unfoldable pub heard_switches : Graph → (heard : List ℕ) → List Switch
heard_switches g hs = switches_where false g.n (goes_down g hs) ++ switches_where true g.n (comes_up g hs)
