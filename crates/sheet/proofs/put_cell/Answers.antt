-- `put_cell` meets its contract: each column is put after the ones before it.
use Rattle.lists.specs.Kit.{arith, length-set}
use Rattle.sheet.proofs.{PutLaws.{cell_put}}
use Rattle.sheet.proofs.put_cell.Goals as goal

pub bounds-page-at-2 : goal.bounds-page-at-2
bounds-page-at-2 c = simp length-set (omega arith)

pub bounds-page-at-3 : goal.bounds-page-at-3
bounds-page-at-3 c = simp length-set (omega arith)

pub bounds-page-at-4 : goal.bounds-page-at-4
bounds-page-at-4 c = simp length-set (omega arith)

pub bounds-page-at-5 : goal.bounds-page-at-5
bounds-page-at-5 c = simp length-set (omega arith)

pub bounds-page-at-6 : goal.bounds-page-at-6
bounds-page-at-6 c = simp length-set (omega arith)

pub bounds-page-at-7 : goal.bounds-page-at-7
bounds-page-at-7 c = simp length-set (omega arith)

pub bounds-page-at-8 : goal.bounds-page-at-8
bounds-page-at-8 c = simp length-set (omega arith)

pub returns : goal.returns
returns c =
    cell_put _ _ _ _ (omega (arith, c.requires.0)) c.requires.1 c.requires.2 _ _ _ _ _ c.column.ensures
    c.column-2.ensures c.last_digit.ensures c.column-3.ensures c.last_digit-2.ensures
