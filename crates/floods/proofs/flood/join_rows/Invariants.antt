-- `flood::join_rows` meets its contract: before place i the rows are joined (`RowsJoined`). The measure is what is left of the places.
use Rattle.std.specs.Prelude.{◌≤◌}
use Rattle.floods.specs.Floods.{RowsJoined}
use Rattle.floods.proofs.flood.join_rows.Given as goal

abbrev pub invariant-loop-i : goal.invariant-loop-i
invariant-loop-i l = (l.from ≤ l.i) × (l.i ≤ l.to) × RowsJoined l.links l.list l.from l.i l.reach
