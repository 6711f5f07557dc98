-- `RadioSet::first_common` meets its contract: both sets have no radio before word k (`Searching`), and the lowest bit of the first
-- word that is not 0 is theirs. The measure is the words that are left.
use Rattle.rows.proofs.{RowWords.{Searching}, SetLaws.{both}}
use Rattle.rows.proofs.sets.RadioSet.first_common.Given as goal

abbrev pub invariant-loop-k : goal.invariant-loop-k
invariant-loop-k l = Searching (both l.self-inside.words l.other-inside.words) l.k
