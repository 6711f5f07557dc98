-- `turn::release_left` meets its contract: the words of the row are released one by one, each without what is taken, and the radios that
-- are left from word k on give what all of them give (`WordsReleasing`). The measure is the words that are left.
use Rattle.plan.proofs.{TurnLoops.{WordsReleasing}}
use Rattle.plan.proofs.{TurnLoops.{left_from}}
use Rattle.plan.proofs.turn.release_left.Given as goal

abbrev pub invariant-loop-k : goal.invariant-loop-k
invariant-loop-k l = WordsReleasing l.by.numbers.now l.by.places.now l.by.level l.by.most (left_from l.row l.left) l.initial.counters l.initial.fits l.k
    l.counters l.fits
