-- `lines::read_last_number` meets its contract: the tests decide whether what follows the number is the line feed alone.
use Rattle.lists.specs.Kit.{arith}
use Rattle.script.proofs.LineLaws.{end_past, end_differ, end_long, end_is, last_none, last_other, last_is}
use Rattle.script.proofs.lines.read_last_number.Goals as goal

pub returns-in_default : goal.returns-in_default
returns-in_default c = last_none c.args.s.now c.args.p c.in_default.ensures

pub returns-then-s-r : goal.returns-then-s-r
returns-then-s-r c =
    last_other c.args.s.now c.args.p _ _ c.in-Some.ensures (end_past c.args.s.now c.in-Some.r.next (omega arith))

pub returns-then-s-r-ne10 : goal.returns-then-s-r-ne10
returns-then-s-r-ne10 c =
    last_other c.args.s.now c.args.p _ _ c.in-Some.ensures (end_differ c.args.s.now c.in-Some.r.next (omega arith) c.if-s-r-ne10.true)

pub returns-then-s-r-2 : goal.returns-then-s-r-2
returns-then-s-r-2 c =
    last_other c.args.s.now c.args.p _ _ c.in-Some.ensures
    (end_long c.args.s.now c.in-Some.r.next (omega arith) c.if-s-r-ne10.false c.if-s-r-2.true)

pub returns : goal.returns
returns c =
    last_is c.args.s.now c.args.p _ _ c.in-Some.ensures
    (end_is c.args.s.now c.in-Some.r.next (omega arith) c.if-s-r-ne10.false c.if-s-r-2.false)
