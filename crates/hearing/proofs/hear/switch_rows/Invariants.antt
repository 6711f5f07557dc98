-- `hear::switch_rows` meets its contract: the rows before row a are done (`RowsSwitching`), and the list has room for a row.
use Rattle.std.specs.Prelude.{◌≡◌}
use Rattle.lists.specs.Kit.{suc, length}
use Rattle.mesh.specs.{Limits.{max_neighbours}, Tables.{tables}}
use Rattle.hearing.proofs.HearLoops.{RowsSwitching}
use Rattle.hearing.proofs.hear.switch_rows.Given as goal

abbrev pub invariant-loop-a : goal.invariant-loop-a
invariant-loop-a l = (length l.room ≡ suc max_neighbours) × RowsSwitching l.up l.n
    l.hearing.heard.now l.hearing.one_sided.now (tables l.initial.links l.initial.numbers l.initial.order) (tables l.links l.numbers l.order)
    l.found.places l.found.not_lower l.a
