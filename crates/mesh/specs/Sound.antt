-- Soundness by document 01's local conditions, clause by clause. That sound tables are exactly the ones with proper rows, core
-- numbers and a k-order is `sound_iff` in proofs/Tables/Soundness.antt.
--   symmetric          rows are symmetric
--   irreflexive        no radio is its own neighbour
--   within             no bit at n or above
--   row_degree, few    at most so many bits a row
--   enough             each radio has at least its number of neighbours whose number is not below its own
--   rows_proper        the four conditions on rows, where `most` bounds the bits of a row
--   sound_within       all conditions, where `most` bounds the bits of a row
--   sound n t          document 01: the tables t of n radios are sound
-- The conditions on the order alone are `each_once`, `rising` and `few_later` of specs/Orders.antt. Definitions only.
use Rattle.std.specs.Prelude.{◌&&◌, ◌-◌}
use Rattle.lists.specs.{Kit.{Bool, not, Bool·beq, List, ℕ, leb, get_or}, Lists.{range, count, all}}
use Rattle.mesh.specs.{Limits.{max_radios, max_neighbours}, Orders.{each_once, rising, few_later}, Tables.{Tables, marked}}

-- ---- rows

-- document 01: rows are symmetric
unfoldable pub symmetric : (n : ℕ) → (links : List ℕ) → Bool
symmetric n ts = all (λ a. all (λ b. Bool·beq (marked ts a b) (marked ts b a)) (range 0 n)) (range 0 n)

-- document 01: with no radio its own neighbour
unfoldable pub irreflexive : (n : ℕ) → (links : List ℕ) → Bool
irreflexive n ts = all (λ a. not (marked ts a a)) (range 0 n)

-- document 01: no bit at n or above
unfoldable pub within : (n : ℕ) → (links : List ℕ) → Bool
within n ts = all (λ a. all (λ b. not (marked ts a b)) (range n (max_radios - n))) (range 0 n)

-- how many bits row a has
unfoldable pub row_degree : (links : List ℕ) → (a : ℕ) → ℕ
row_degree ts a = count (λ b. marked ts a b) (range 0 max_radios)

-- document 01: at most so many bits a row
unfoldable pub few : (most n : ℕ) → (links : List ℕ) → Bool
few most n ts = all (λ a. leb (row_degree ts a) most) (range 0 n)

-- document 01: proper rows
unfoldable pub rows_proper : (most n : ℕ) → (links : List ℕ) → Bool
rows_proper most n ts = (symmetric n ts && irreflexive n ts) && (within n ts && few most n ts)

-- ---- numbers

-- document 01: each radio has at least its number of neighbours whose number is not below its own
unfoldable pub enough : (n : ℕ) → (neighbour : ℕ → ℕ → Bool) → (num : ℕ → ℕ) → Bool
enough n f num = all (λ v. leb (num v) (count (λ b. f v b && leb (num v) (num b)) (range 0 n))) (range 0 n)

-- the number that the table ns has for v
abbrev pub number_in : (numbers : List ℕ) → (v : ℕ) → ℕ
number_in ns v = get_or ns v 0

-- ---- all of them

-- the conditions in document 01's order, where `most` bounds the bits of a row
unfoldable pub sound_within : (most n : ℕ) → Tables → Bool
sound_within most n t =
    rows_proper most n t.links
    && (each_once n t.order
    && (rising (number_in t.numbers) t.order
    && (few_later (marked t.links) (number_in t.numbers) t.order
    && enough n (marked t.links) (number_in t.numbers))))

-- document 01: sound tables
unfoldable pub sound : (n : ℕ) → Tables → Bool
sound n t = sound_within max_neighbours n t
