-- Rows of the links table, as lists of radios and as words.
--   neighbours_of ts a    the radios that row a of the links table ts marks, ascending
--   row_listed ts a       the same where row a lies whole in the table, else none
--   neighbours_above ts a the neighbours above a that row a marks, ascending; of a row that is not whole in the table none
--   row_from ts a k       the radios from 64 * k on that row a marks: its words from word k on
--   row_count most ts a   how many radios row a marks, counted no further than one past `most`
--   first_in xs           the first entry of xs, if there is one
--   set_bits d i w        the places of the set bits among the d lowest of w, ascending, counted from i
--   row_word k ts i        the k bytes of ts from place i on, as one number, lowest byte first
--   word_of row k          word k of a row that stands by itself, 0 past it
--   WordsRoom             what a private function of src/lib.rt wants of lengths
-- Laws are in proofs/RowListLaws.antt and proofs/WordLaws.antt. Definitions only.
use Rattle.std.specs.Prelude.{Option, None, Some, ◌∷◌, ◌+◌, ◌*◌, ◌-◌, ◌/◌, ◌%◌, ◌^◌, ◌≤◌}
use Rattle.lists.specs.{Kit.{cond, List, [], ℕ, zero, suc, min, ltb, leb, eqb, length, get_or}, Lists.{range, filter}}
use Rattle.mesh.specs.{Limits.{max_radios, max_neighbours, row_bytes}, Tables.{marked}}

unfoldable pub neighbours_of : (links : List ℕ) → (a : ℕ) → List ℕ
neighbours_of ts a = filter (λ b. marked ts a b) (range 0 max_radios)

unfoldable pub row_listed : (links : List ℕ) → (a : ℕ) → List ℕ
row_listed ts a = cond (leb (row_bytes * a + row_bytes) (length ts)) (neighbours_of ts a) []

unfoldable pub neighbours_above : (links : List ℕ) → (a : ℕ) → List ℕ
neighbours_above ts a = filter (ltb a) (row_listed ts a)

unfoldable pub row_from : (links : List ℕ) → (a k : ℕ) → List ℕ
row_from ts a k = filter (λ b. marked ts a b) (range (64 * k) (max_radios - 64 * k))

unfoldable pub row_count : (most : ℕ) → (links : List ℕ) → (a : ℕ) → ℕ
row_count most ts a = min (suc most) (length (row_listed ts a))

unfoldable pub first_in : List ℕ → Option ℕ
first_in [] = None
first_in (x ∷ xs) = Some x

unfoldable pub set_bits : (d i w : ℕ) → List ℕ
set_bits zero i w = []
set_bits (suc d) i w = let rest = set_bits d (suc i) (w / 2) in cond (eqb (w % 2) 1) (i ∷ rest) rest

unfoldable pub row_word : (k : ℕ) → (bytes : List ℕ) → (i : ℕ) → ℕ
row_word zero ts i = 0
row_word (suc k) ts i = get_or ts (i + k) 0 * 2 ^ (8 * k) + row_word k ts i

unfoldable pub word_of : (row : List ℕ) → (k : ℕ) → ℕ
word_of ts k = cond (leb (8 * k + 8) (length ts)) (row_word 8 ts (8 * k)) 0

-- what listing the words of row a from word `from` on wants of the lengths of the table and of the list, which has `count` entries
pub record WordsRoom (a from count links list : ℕ) : Type 0 where
  pub whole : row_bytes * a + row_bytes ≤ links
  pub word : from ≤ 8
  pub short : list ≤ suc max_neighbours
  pub counted : count ≤ list
