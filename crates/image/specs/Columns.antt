-- The check of a block's first 504 bytes, summed by columns: byte i stands in column i % 24 of run i / 24, and there are 21 runs.
--   column bs p r         the sum of column p over the first r runs of the bytes bs
--   column_twice bs p r   the sum of these sums, after each run
--   with_byte bs i p ss   the sum of column p with byte i
--   ByteFits             what adding byte i to column p wants
--   ByteAdded            byte i is added to the sum of column p, and this sum to the sum of the sums
--   Columns               twenty-four sums of each kind, after r runs
--   columns_total         what the first p columns add to the check after all 21 runs
--   ColumnsFit           these differences are no borrows, and fit their width
-- That the total over all columns is the check is `columns_check` (proofs/ColumnLaws.antt). Definitions only.
use Rattle.std.specs.Prelude.{◌≡◌, ◌+◌, ◌*◌, ◌-◌, ◌≤◌, ◌<◌}
use Rattle.lists.specs.Kit.{List, ℕ, zero, suc, length, get_or, set}

unfoldable pub column : (bytes : List ℕ) → (p r : ℕ) → ℕ
column bs p zero = 0
column bs p (suc r) = column bs p r + get_or bs (24 * r + p) 0

unfoldable pub column_twice : (bytes : List ℕ) → (p r : ℕ) → ℕ
column_twice bs p zero = 0
column_twice bs p (suc r) = column_twice bs p r + column bs p (suc r)

abbrev pub with_byte : (bytes : List ℕ) → (i p : ℕ) → (sums : List ℕ) → ℕ
with_byte bs i p ss = get_or ss p 0 + get_or bs i 0

pub record ByteFits (bytes : List ℕ) (i p : ℕ) (sums twice : List ℕ) : Type 0 where
  pub there : i < length bytes
  pub sums_there : p < length sums
  pub twice_there : p < length twice
  pub small : with_byte bytes i p sums < 65536
  pub twice_small : get_or twice p 0 + with_byte bytes i p sums < 65536

pub record ByteAdded (bytes : List ℕ) (i p : ℕ) (sums twice sums_after twice_after : List ℕ) : Type 0 where
  pub sum : sums_after ≡ set sums p (with_byte bytes i p sums)
  pub sum_twice : twice_after ≡ set twice p (get_or twice p 0 + with_byte bytes i p sums)

pub record Columns (bytes : List ℕ) (r : ℕ) (sums twice : List ℕ) : Type 0 where
  pub sums_long : length sums ≡ 24
  pub twice_long : length twice ≡ 24
  pub sum_at : (p : ℕ) → p < 24 → get_or sums p 0 ≡ column bytes p r
  pub twice_at : (p : ℕ) → p < 24 → get_or twice p 0 ≡ column_twice bytes p r

unfoldable pub columns_total : (sums twice : List ℕ) → (p : ℕ) → ℕ
columns_total ss ts zero = 0
columns_total ss ts (suc p) = columns_total ss ts p + ((p + 505) * get_or ss p 0 - 24 * get_or ts p 0)

pub record ColumnsFit (sums twice : List ℕ) : Type 0 where
  pub sums_long : length sums ≡ 24
  pub twice_long : length twice ≡ 24
  pub low : (p : ℕ) → p < 24 → 24 * get_or twice p 0 ≤ (p + 505) * get_or sums p 0
  pub small : (p : ℕ) → p < 24 → get_or sums p 0 ≤ 5355
