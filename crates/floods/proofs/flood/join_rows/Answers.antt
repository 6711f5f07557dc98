-- `flood::join_rows` meets its contract: before place i the rows are joined (`RowsJoined`). The measure is what is left of the places.
use Rattle.lists.specs.Kit.{arith}
use Rattle.floods.proofs.{FloodSteps.{rows_joined_none}}
use Rattle.floods.proofs.flood.join_rows.Goals as goal

pub loop-i-init : goal.loop-i-init
loop-i-init c = (omega arith, c.requires.0, rw c.empty-reach.ensures (rows_joined_none _ _ _))
