-- `Peel::lower` meets its contract: the words before word k are done (`WordsLowering`).
use Rattle.std.specs.Prelude.{◌≡◌}
use Rattle.lift.proofs.{PeelLaws.{WordsLowering}}
use Rattle.lift.proofs.peel.Peel.lower.Given as goal

abbrev pub invariant-loop-k : goal.invariant-loop-k
invariant-loop-k l = WordsLowering l.at.level l.at.a l.at.held.now l.near l.initial.self.stay l.initial.self.counters l.initial.self.due l.k
    l.self.counters l.self.due × (l.self.stay ≡ l.initial.self.stay)
