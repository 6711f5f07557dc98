-- `soundness::rows_checked` meets its contract: the rows passed are good, so what is left decides, and their high counts are written.
-- The measure is what is left of the radios.
use Rattle.soundness.proofs.{AllRows.{RowsSoFar}}
use Rattle.soundness.proofs.rows_checked.Given as goal

abbrev pub invariant-loop-a : goal.invariant-loop-a
invariant-loop-a l = RowsSoFar l.t.radios l.t.links.now l.t.numbers.now l.places l.initial.not_lower l.not_lower l.a
