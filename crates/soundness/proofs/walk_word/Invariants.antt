-- `soundness::walk_word` meets its contract: a word that is not above the highest marks radios of the site alone (`walking_radio`). Each
-- turn takes the lowest set bit off the word and counts its radio, and what is left and what is counted come to what the whole word comes
-- to (`Walking`). The measure is the word that is left.
use Rattle.soundness.specs.Checks.{tally}
use Rattle.soundness.proofs.Tallies.{Walking}
use Rattle.soundness.proofs.walk_word.Given as goal

abbrev pub invariant-loop-rest : goal.invariant-loop-rest
invariant-loop-rest l = Walking l.t.links.now l.t.numbers.now l.places l.a l.first l.word
    (tally l.initial.count l.initial.later l.initial.high l.initial.key) l.rest (tally l.count l.later l.high l.key)

abbrev pub decreases-loop-rest : goal.decreases-loop-rest
decreases-loop-rest l = l.rest
