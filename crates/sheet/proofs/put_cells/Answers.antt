-- `put_cells` meets its contract: the cells that are left take the page where all of them do (`Cells`).
use Rattle.std.specs.Prelude.{◌+◌}
use Rattle.lists.specs.Kit.{refl, arith}
use Rattle.text.proofs.PrintLaws.{length_putting}
use Rattle.sheet.proofs.{PutLaws.{cells_none, cells_next, cells_last}}
use Rattle.sheet.proofs.put_cells.Goals as goal

pub loop-i-init : goal.loop-i-init
loop-i-init c = cells_none _ _ _ _ _

pub overflow_add-w : goal.overflow_add-w
overflow_add-w c = omega (arith, c.requires.inside)

pub overflow_mul-i : goal.overflow_mul-i
overflow_mul-i c = omega (arith, c.requires.room)

pub overflow_add-at : goal.overflow_add-at
overflow_add-at c = omega (arith, c.requires.room)

pub overflow_cast-w : goal.overflow_cast-w
overflow_cast-w c = omega (arith, c.requires.fit.radios, c.requires.inside)

pub bounds-numbers-w : goal.bounds-numbers-w
bounds-numbers-w c = omega (arith, c.requires.inside)

pub put_cell-requires : goal.put_cell-requires
put_cell-requires c =
    let low = c.requires.fit.two_digits (c.args.v + c.loop-i.i) (omega arith) in
    (omega (arith, c.requires.room, length_putting c.loop-i.invariant.is), omega arith, omega (arith, low))

pub loop-i-preserved : goal.loop-i-preserved
loop-i-preserved c = cells_next _ (omega arith) refl (c.loop-i.invariant) (c.put_cell.ensures)

pub returns : goal.returns
returns c = cells_last (omega arith) c.loop-i.invariant
