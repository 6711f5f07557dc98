-- `lines::read_link` meets its contract: each test decides one step of `link_from`.
use Rattle.lists.specs.Kit.{arith}
use Rattle.script.proofs.LineLaws.{space_past, space_differ, space_is, link_none, link_gap, link_one, link_both}
use Rattle.script.proofs.lines.read_link.Goals as goal

pub returns-in_default : goal.returns-in_default
returns-in_default c = link_none c.args.up c.args.s.now c.args.p c.in_default.ensures

pub returns-then-s-a : goal.returns-then-s-a
returns-then-s-a c =
    link_gap c.args.up c.args.s.now c.args.p _ _ c.in-Some.ensures (space_past c.args.s.now c.in-Some.a.next (omega arith))

pub returns-then-s-a-ne32 : goal.returns-then-s-a-ne32
returns-then-s-a-ne32 c =
    link_gap c.args.up c.args.s.now c.args.p _ _ c.in-Some.ensures
    (space_differ c.args.s.now c.in-Some.a.next (omega arith) c.if-s-a-ne32.true)

pub returns-in_default-read_last_number : goal.returns-in_default-read_last_number
returns-in_default-read_last_number c =
    link_one c.args.up c.args.s.now c.args.p _ _ c.in-Some.ensures
    (space_is c.args.s.now c.in-Some.a.next (omega arith) c.if-s-a-ne32.false) c.in_default-read_last_number.ensures

pub returns-then-up : goal.returns-then-up
returns-then-up c =
    link_both c.args.up c.args.s.now c.args.p _ _ c.in-Some.ensures
    (space_is c.args.s.now c.in-Some.a.next (omega arith) c.if-s-a-ne32.false) _ c.in-Some-read_last_number.ensures _ c.if-up.true

pub returns-else-up : goal.returns-else-up
returns-else-up c =
    link_both c.args.up c.args.s.now c.args.p _ _ c.in-Some.ensures
    (space_is c.args.s.now c.in-Some.a.next (omega arith) c.if-s-a-ne32.false) _ c.in-Some-read_last_number.ensures _ c.if-up.false
