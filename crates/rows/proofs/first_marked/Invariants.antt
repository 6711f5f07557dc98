-- `rows::first_marked` meets its contract: no radio is marked before word k (`Searching`), and the lowest set bit of the first
-- word that is not 0 is the row's. The measure is the words that are left.
use Rattle.mesh.specs.Tables.{marked}
use Rattle.rows.proofs.{RowWords.{Searching}}
use Rattle.rows.proofs.first_marked.Given as goal

abbrev pub invariant-loop-k : goal.invariant-loop-k
invariant-loop-k l = Searching (λ b. marked l.links l.a b) l.k
