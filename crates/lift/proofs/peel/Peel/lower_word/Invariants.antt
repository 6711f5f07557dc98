-- `Peel::lower_word` meets its contract: each turn takes the lowest set bit off the word (`WordLowering`). The measure is the word that is left.
use Rattle.std.specs.Prelude.{◌≡◌}
use Rattle.lift.proofs.{PeelLaws.{WordLowering}}
use Rattle.lift.proofs.peel.Peel.lower_word.Given as goal

abbrev pub invariant-loop-rest : goal.invariant-loop-rest
invariant-loop-rest l = WordLowering l.at.level l.at.a l.at.held.now l.first l.word l.initial.self.counters l.initial.self.due l.rest l.self.counters l.self.due ×
    (l.self.stay ≡ l.initial.self.stay)

abbrev pub decreases-loop-rest : goal.decreases-loop-rest
decreases-loop-rest l = l.rest
