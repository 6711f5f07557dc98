-- `put_sheet` meets its contract: the lines that are left take the page where all of them do (`Lines`).
use Rattle.lists.specs.Kit.{arith, length}
use Rattle.text.proofs.PrintLaws.{length_putting}
use Rattle.sheet.proofs.{PutLaws.{lines_none, lines_next, lines_last, line_inside}}
use Rattle.sheet.proofs.put_sheet.Goals as goal

pub lines-count-requires : goal.lines-count-requires
lines-count-requires c = c.requires.fit.radios

pub loop-i-init : goal.loop-i-init
loop-i-init c = lines_none _ _

pub overflow_mul-i : goal.overflow_mul-i
overflow_mul-i c = omega (arith, c.lines-count.ensures, c.requires.room)

pub put_line-requires : goal.put_line-requires
put_line-requires c =
    let inside = line_inside (length c.args.numbers.now) c.loop-i.i (omega arith) in
    record { fit = c.requires.fit; inside = inside; room = omega (arith, c.requires.room, length_putting c.loop-i.invariant.is) }

pub loop-i-preserved : goal.loop-i-preserved
loop-i-preserved c = lines_next (omega (arith, c.lines-count.ensures)) c.loop-i.invariant (c.put_line.ensures)

pub returns : goal.returns
returns c = lines_last (omega (arith, c.lines-count.ensures)) c.loop-i.invariant
