-- `row_length` meets its contract: what is counted and the lines that are left are all of them (`EndsCounted`).
use Rattle.lists.specs.Kit.{arith}
use Rattle.script.proofs.ScriptLengths.{ends_counted_none, ends_counted_next, ends_counted_last}
use Rattle.script.proofs.writer.row_length.Goals as goal

pub overflow_add-own : goal.overflow_add-own
overflow_add-own c = omega (arith, c.digits-own.ensures.1)

pub loop-b-init : goal.loop-b-init
loop-b-init c = ends_counted_none _ _

pub digits-requires : goal.digits-requires
digits-requires c = omega (arith, c.requires.radios.1 c.loop-b.b-index c.loop-b-test.true)

pub overflow_add-sum : goal.overflow_add-sum
overflow_add-sum c = omega (arith, c.digits.ensures.1, c.digits-own.ensures.1)

pub overflow_add-sum-in-loop-b : goal.overflow_add-sum-in-loop-b
overflow_add-sum-in-loop-b c =
    omega (arith, c.digits.ensures.1, c.digits-own.ensures.1, c.loop-b.invariant.small, c.loop-b.invariant.low, c.requires.few)

pub loop-b-preserved : goal.loop-b-preserved
loop-b-preserved c =
    ends_counted_next _ _ _ _ _ _ c.loop-b-test.true (omega (arith, c.digits-own.ensures.0)) (omega (arith, c.digits-own.ensures.1))
    c.digits.ensures.0 c.digits.ensures.1 c.loop-b.invariant

pub returns : goal.returns
returns c = ends_counted_last _ _ _ _ c.loop-b-test.false c.loop-b.invariant
