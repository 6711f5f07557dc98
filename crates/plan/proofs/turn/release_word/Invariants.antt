-- `turn::release_word` meets its contract: each turn takes the lowest set bit off the word and releases its radio, and what is left of
-- the set bits gives what all of them give (`WordReleasing`). The measure is the word that is left.
use Rattle.plan.proofs.TurnLoops.{WordReleasing}
use Rattle.plan.proofs.turn.release_word.Given as goal

abbrev pub invariant-loop-rest : goal.invariant-loop-rest
invariant-loop-rest l = WordReleasing l.by.numbers.now l.by.places.now l.by.level l.by.most l.first l.word l.initial.counters l.initial.fits l.rest
    l.counters l.fits

abbrev pub decreases-loop-rest : goal.decreases-loop-rest
decreases-loop-rest l = l.rest
