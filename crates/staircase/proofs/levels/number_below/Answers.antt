-- `levels::number_below` meets its contract: both branches are the definition's.
use Rattle.lists.specs.Kit.{sym}
use Rattle.staircase.proofs.{SkipLaws.{below_hit, below_miss}}
use Rattle.staircase.proofs.levels.number_below.Goals as goal

pub returns-then-x-level : goal.returns-then-x-level
returns-then-x-level c = sym (below_hit _ _ c.if-x-level.true)

pub returns-else-x-level : goal.returns-else-x-level
returns-else-x-level c = sym (below_miss _ _ c.if-x-level.false)
