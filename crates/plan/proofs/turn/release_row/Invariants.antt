-- `turn::release_row` meets its contract: the words of the row are released one by one, and the radios from word k on give what the whole
-- row gives (`WordsReleasing`). The measure is the words that are left.
use Rattle.rows.{specs.Rows.{row_from}}
use Rattle.plan.proofs.{TurnLoops.{WordsReleasing}}
use Rattle.plan.proofs.turn.release_row.Given as goal

abbrev pub invariant-loop-k : goal.invariant-loop-k
invariant-loop-k l = WordsReleasing l.by.numbers.now l.by.places.now l.by.level l.by.most (row_from l.row 0) l.initial.counters l.initial.fits l.k l.counters
    l.fits
