-- `hear::switch_rows` meets its contract: the rows before row a are done (`RowsSwitching`), and the list has room for a row.
use Rattle.lists.specs.Kit.{◌∙◌}
use Rattle.hearing.proofs.HearLoops.{rows_whole, rows_turn}
use Rattle.hearing.proofs.hear.switch_rows.Goals as goal

pub list-k-requires : goal.list-k-requires
list-k-requires c = rows_whole c.loop-a.invariant.1 c.loop-a-test.true

pub loop-a-preserved : goal.loop-a-preserved
loop-a-preserved c = (
  c.list-k.auto.list ∙ c.loop-a.invariant.0,
  rows_turn c.loop-a.invariant.1 c.loop-a-test.true _ _ _ c.loop-a.invariant.0 c.list-k.ensures _ _ _
      c.switch_row.ensures,
)
