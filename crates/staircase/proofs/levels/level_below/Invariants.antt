-- `levels::level_below` meets its contract: the greatest so far and what is left of the table give the greatest.
use Rattle.staircase.proofs.{SkipLaws.{BelowSoFar}}
use Rattle.staircase.proofs.levels.level_below.Given as goal

abbrev pub invariant-loop-x : goal.invariant-loop-x
invariant-loop-x l = BelowSoFar l.level l.numbers l.top l.x-index
