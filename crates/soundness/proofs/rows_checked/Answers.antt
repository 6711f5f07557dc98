-- `soundness::rows_checked` meets its contract: the rows passed are good, so what is left decides, and their high counts are written.
-- The measure is what is left of the radios.
use Rattle.lists.specs.Kit.{refl}
use Rattle.soundness.proofs.{AllRows.{rows_none, rows_bad, rows_turn, rows_end}}
use Rattle.soundness.proofs.rows_checked.Goals as goal

pub loop-a-init : goal.loop-a-init
loop-a-init c = rows_none _ _ _ _ _

pub returns-in_default : goal.returns-in_default
returns-in_default c =
    rows_bad _ _ _ _ _ _ _ c.loop-a-test.true c.loop-a.invariant _ _ c.in_default.ensures refl

pub loop-a-preserved : goal.loop-a-preserved
loop-a-preserved c =
    rows_turn _ _ _ _ _ _ _ c.loop-a-test.true c.loop-a.invariant _ _ c.requires.1 c.in-Some.ensures refl

pub returns : goal.returns
returns c = rows_end _ _ _ _ _ _ _ c.loop-a-test.false c.loop-a.invariant
