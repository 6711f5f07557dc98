-- `Peel::is_gone` meets its contract: its two tests in turn.
use Rattle.lists.specs.Kit.{rules}
use Rattle.lift.proofs.{PeelLaws.{gone_taken, gone_short}}
use Rattle.lift.proofs.peel.Peel.is_gone.Goals as goal

pub returns-then-self-at-ge-GONE : goal.returns-then-self-at-ge-GONE
returns-then-self-at-ge-GONE c = search (rules, gone_taken)

pub returns : goal.returns
returns c = search (rules, gone_short)
