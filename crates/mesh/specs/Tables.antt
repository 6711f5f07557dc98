-- The lent tables, read as bits and numbers.
--   Tables             links, numbers and order, as lists of bytes and entries
--   marked ts a b      document 01: bit b of row a of the links table ts is set
--   put_bit on a b ts  the links table ts with bit b of row a set or cleared
--   put_link           both bits of a link set or cleared
--   bit_table n f      the table of that shape, of n rows, with bit b of row a by the test f
--   links_table g      the links table that marks exactly the links of g, each in both rows
--   graph_in n ts      the graph that the links table ts marks, read back from the bits above the diagonal
--   tables_of g xs     the tables of the graph g with the order xs
--   TablesOfSize     tables of n radios as they are lent: lengths, and rows of bytes
-- Laws are in proofs/Tables/. Definitions only.
use Rattle.std.specs.Prelude.{◌≡◌, ◌+◌, ◌*◌, ◌-◌, ◌/◌, ◌%◌, ◌^◌}
use Rattle.lists.specs.{Kit.{Bool, cond, List, map, flat_map, ℕ, zero, suc, eqb, length, get_or, set}, Lists.{EntriesBelow}}
use Rattle.lists.specs.{Lists.{range, filter}}
use Rattle.mesh.specs.{Limits.{row_bytes}, Graph.{Link, Graph, graph, linked}, Cores.{numbers}}

-- document 01: links, 64 bytes a radio; numbers, one byte a radio; order, n radio numbers
pub record Tables : Type 0 where
  pub links : List ℕ
  pub numbers : List ℕ
  pub order : List ℕ

abbrev pub tables : (links numbers order : List ℕ) → Tables
tables l k o = record { links = l; numbers = k; order = o }

-- ---- bits of a row: value 2^(b mod 8) in byte b div 8

-- bit i of x, lowest first
unfoldable pub digit : (x i : ℕ) → Bool
digit x i = eqb (x / 2 ^ i % 2) 1

-- where bit b of row a stands
unfoldable pub byte_at : (a b : ℕ) → ℕ
byte_at a b = row_bytes * a + b / 8

-- document 01: radio b is a neighbour of a when bit b of row a is set: value 2^(b mod 8) in byte b div 8
unfoldable pub marked : (links : List ℕ) → (a b : ℕ) → Bool
marked ts a b = digit (get_or ts (byte_at a b) 0) (b % 8)

-- x with bit i set or cleared
unfoldable pub put_digit : (on : Bool) → (x i : ℕ) → ℕ
put_digit on x i = cond (digit x i) (x - 2 ^ i) x + cond on (2 ^ i) 0

-- bit b of row a set or cleared
unfoldable pub put_bit : (on : Bool) → (a b : ℕ) → (links : List ℕ) → List ℕ
put_bit on a b ts = set ts (byte_at a b) (put_digit on (get_or ts (byte_at a b) 0) (b % 8))

-- document 01: two link bits, b in row a and a in row b
unfoldable pub put_link : (up : Bool) → (a b : ℕ) → (links : List ℕ) → List ℕ
put_link u a b ts = put_bit u b a (put_bit u a b ts)

-- ---- tables of bits, and the table of a graph

-- the number whose lowest k bits the test gives
unfoldable pub from_digits : (k : ℕ) → (ℕ → Bool) → ℕ
from_digits zero f = 0
from_digits (suc k) f = cond (f 0) 1 0 + 2 * from_digits k (λ i. f (suc i))

-- a row with bit b by the test
unfoldable pub bit_row : (ℕ → Bool) → List ℕ
bit_row f = map (λ j. from_digits 8 (λ i. f (8 * j + i))) (range 0 row_bytes)

-- a table of n such rows, row a by the test f a
unfoldable pub bit_table : (n : ℕ) → (ℕ → ℕ → Bool) → List ℕ
bit_table n f = flat_map (λ a. let near = f a in bit_row near) (range 0 n)

-- document 01: the links table that marks exactly these pairs, each in both rows
unfoldable pub links_table : Graph → List ℕ
links_table g = bit_table g.n (linked g)

-- the tables of a graph and an order: the numbers are core numbers
unfoldable pub tables_of : Graph → (order : List ℕ) → Tables
tables_of g xs = tables (links_table g) (numbers g) xs

-- ---- read back

-- the links that row a marks to radios above a
unfoldable pub row_links : (n : ℕ) → (links : List ℕ) → (a : ℕ) → List Link
row_links n ts a = map (λ b. record { low = a; high = b }) (filter (λ b. marked ts a b) (range (suc a) (n - suc a)))

-- the graph that a links table marks
unfoldable pub graph_in : (n : ℕ) → (links : List ℕ) → Graph
graph_in n ts = graph n (flat_map (row_links n ts) (range 0 n))

-- ---- tables as they are lent

-- document 01: tables of n radios. 64 bytes a radio, one number a radio, n entries
pub record TablesOfSize (n : ℕ) (t : Tables) : Type 0 where
  pub links_length : length t.links ≡ row_bytes * n
  pub numbers_length : length t.numbers ≡ n
  pub order_length : length t.order ≡ n
  pub links_bytes : EntriesBelow 256 t.links
