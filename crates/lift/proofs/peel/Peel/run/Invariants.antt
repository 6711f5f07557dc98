-- `Peel::run` meets its contract: before each turn it is not over (`PeelingOn`). The measure is the radios left.
use Rattle.lists.specs.{Lists.{count, range}}
use Rattle.mesh.specs.Limits.{max_radios}
use Rattle.lifting.specs.Peeling.{left}
use Rattle.lift.proofs.PeelSteps.{PeelingOn}
use Rattle.lift.proofs.peel.Peel.run.Given as goal

abbrev pub invariant-loop-v : goal.invariant-loop-v
invariant-loop-v l = PeelingOn l.at.links.now l.at.held.now l.at.level l.at.a l.at.r l.at.stop l.self.stay l.self.counters l.self.due

abbrev pub decreases-loop-v : goal.decreases-loop-v
decreases-loop-v l = count (left l.self.counters) (range 0 max_radios)
