-- `RadioSet::join_row` meets its contract: the words before word k are joined with the row's (`RowJoining`). The measure is the words
-- that are left.
use Rattle.rows.proofs.{SetLaws.{RowJoining}}
use Rattle.rows.proofs.sets.RadioSet.join_row.Given as goal

abbrev pub invariant-loop-k : goal.invariant-loop-k
invariant-loop-k l = RowJoining l.links l.a l.initial.words l.k l.words
