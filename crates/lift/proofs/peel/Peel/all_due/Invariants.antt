-- `Peel::all_due` meets its contract: of the radios below v, the set has those that are due (`Has`).
use Rattle.lift.specs.Peels.{is_due, Has}
use Rattle.lift.proofs.peel.Peel.all_due.Given as goal

abbrev pub invariant-loop-v : goal.invariant-loop-v
invariant-loop-v l = Has l.v (is_due l.at.level l.at.a l.at.held.now l.self.counters) l.due
