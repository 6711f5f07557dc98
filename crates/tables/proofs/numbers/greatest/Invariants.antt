-- `numbers::greatest` meets its contract: the greatest so far and what is left of the table give the greatest. The measure is
-- what is left of the table.
use Rattle.tables.proofs.{NumberLaws.{GreatestSoFar}}
use Rattle.tables.proofs.numbers.greatest.Given as goal

abbrev pub invariant-loop-x : goal.invariant-loop-x
invariant-loop-x l = GreatestSoFar l.numbers l.top l.x-index
