-- `put_line` meets its contract: the cells, the spaces that are left of the line's columns, the line feed.
use Rattle.lists.specs.Kit.{arith}
use Rattle.sheet.proofs.{PutLaws.{line_put}}
use Rattle.sheet.proofs.put_line.Goals as goal

pub bounds-page-at : goal.bounds-page-at
bounds-page-at c = omega (arith, c.put_spaces.auto.page, c.put_cells.auto.page)

pub returns : goal.returns
returns c =
    line_put c.args.at c.args.i c.least-k.result c.requires.fit c.requires.inside c.least-k.ensures
    (omega (arith, c.requires.room)) c.put_cells.ensures c.put_spaces.ensures
