-- `hear::switch_row` meets its contract: what is left of the list gives what the whole list gives (`RowSwitching`).
use Rattle.mesh.specs.Tables.{tables}
use Rattle.hearing.proofs.HearLoops.{RowSwitching}
use Rattle.hearing.proofs.hear.switch_row.Given as goal

abbrev pub invariant-loop-b : goal.invariant-loop-b
invariant-loop-b l = RowSwitching l.up l.n l.a l.list (tables l.initial.links l.initial.numbers l.initial.order)
    (tables l.links l.numbers l.order) l.found.places l.found.not_lower l.b-index
