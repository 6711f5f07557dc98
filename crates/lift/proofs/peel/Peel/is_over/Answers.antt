-- `Peel::is_over` meets its contract: its two tests in turn.
use Rattle.lists.specs.Kit.{rules}
use Rattle.lift.proofs.{PeelLaws.{over_stop}}
use Rattle.lift.proofs.peel.Peel.is_over.Goals as goal

pub returns : goal.returns
returns c = search (rules, over_stop)
