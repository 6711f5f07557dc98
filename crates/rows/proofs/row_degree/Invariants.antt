-- `rows::row_degree` meets its contract: the radios counted so far and the ones from word k on are all that the row marks, and
-- the byte has not passed the limit on neighbours. The measure is the words that are left.
use Rattle.rows.proofs.{RowWords.{RowCounting}}
use Rattle.rows.proofs.row_degree.Given as goal

abbrev pub invariant-loop-k : goal.invariant-loop-k
invariant-loop-k l = RowCounting l.links l.a l.n l.k
