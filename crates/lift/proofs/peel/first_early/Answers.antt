-- `peel::first_early` meets its contract: a bit of a masked word is one of the word.
use Rattle.lists.specs.Kit.{rules}
use Rattle.lift.proofs.{PeelSteps.{early_due}}
use Rattle.lift.proofs.peel.first_early.Goals as goal

pub returns-then-word-ne0 : goal.returns-then-word-ne0
returns-then-word-ne0 c = early_due _ c.loop-k.k c.word.result _ c.loop-k-test.true (search rules) c.word.ensures c.if-word-ne0.true
