-- `checks::columns_total` meets its contract: the sum is the total of the columns passed.
use Rattle.lists.specs.Kit.{arith}
use Rattle.image.proofs.ColumnLaws.{totalling_none, totalling_turn}
use Rattle.image.proofs.checks.columns_total.Goals as goal

pub loop-p-init : goal.loop-p-init
loop-p-init c = totalling_none _ _

pub loop-p-preserved : goal.loop-p-preserved
loop-p-preserved c = totalling_turn _ _ c.requires _ _ c.loop-p.invariant (omega arith)
