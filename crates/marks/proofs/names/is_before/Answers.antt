-- `names::is_before` meets its contract: the bytes passed are equal, so what is left decides.
use Rattle.std.specs.Prelude.{◌≡◌}
use Rattle.lists.specs.Kit.{sym, arith, length}
use Rattle.marks.proofs.Left.{before_short, before_less, before_more, before_pass, before_end}
use Rattle.marks.proofs.names.is_before.Goals as goal

pub returns-then-b-i : goal.returns-then-b-i
returns-then-b-i c = sym (before_short _ _ _ c.loop-i.invariant c.if-b-i.true)

pub returns-then-x-y : goal.returns-then-x-y
returns-then-x-y c =
    sym (before_less _ _ c.loop-i.i c.loop-i.invariant (omega arith) (omega arith)
    c.if-x-y.true)

pub returns-then-x-y-2 : goal.returns-then-x-y-2
returns-then-x-y-2 c =
    sym
    (before_more _ _ c.loop-i.i c.loop-i.invariant (omega arith) (omega arith) c.if-x-y.false c.if-x-y-2.true)

pub loop-i-preserved : goal.loop-i-preserved
loop-i-preserved c =
    before_pass _ _ c.loop-i.i c.loop-i.invariant (omega arith) (omega arith)
    c.if-x-y.false c.if-x-y-2.false

pub returns : goal.returns
returns c =
    let all : c.loop-i.i ≡ length c.args.a.now = omega arith in rw (← all) (sym (before_end _ _ c.loop-i.i c.loop-i.invariant (omega arith)))
