-- `put_number` meets its contract: one, two or three digits, each put after the ones before it.
use Rattle.lists.specs.Kit.{arith, length-set}
use Rattle.text.proofs.DecimalLaws.{length_decimal_digit}
use Rattle.script.proofs.{ScriptLengths.{digits_two, digits_three}, PutLaws.{one_put, two_put, three_put}}
use Rattle.script.proofs.writer.put_number.Goals as goal

pub bounds-buffer-at : goal.bounds-buffer-at
bounds-buffer-at c = omega (arith, length_decimal_digit c.args.x c.if-x-lt10.true)

pub returns-then-x-lt10 : goal.returns-then-x-lt10
returns-then-x-lt10 c = one_put _ _ _ _ c.if-x-lt10.true c.digit_byte.ensures (omega (arith, length_decimal_digit c.args.x c.if-x-lt10.true))

pub bounds-buffer-at-then-x-lt100 : goal.bounds-buffer-at-then-x-lt100
bounds-buffer-at-then-x-lt100 c = omega (arith, digits_two c.args.x c.if-x-lt10.false c.if-x-lt100.true)

pub overflow_add-buffer : goal.overflow_add-buffer
overflow_add-buffer c = omega (arith, digits_two c.args.x c.if-x-lt10.false c.if-x-lt100.true)

pub bounds-buffer-at-then-x-lt100-2 : goal.bounds-buffer-at-then-x-lt100-2
bounds-buffer-at-then-x-lt100-2 c =
    simp length-set (omega (arith, digits_two c.args.x c.if-x-lt10.false c.if-x-lt100.true))

pub returns-then-x-lt100 : goal.returns-then-x-lt100
returns-then-x-lt100 c =
    two_put _ _ _ _ _ c.if-x-lt10.false c.if-x-lt100.true c.digit_byte-then-x-lt100.ensures
    c.digit_byte-then-x-lt100-2.ensures (omega (arith, digits_two c.args.x c.if-x-lt10.false c.if-x-lt100.true))

pub bounds-buffer-at-2 : goal.bounds-buffer-at-2
bounds-buffer-at-2 c = omega (arith, digits_three c.args.x c.if-x-lt100.false c.requires.0)

pub bounds-buffer-at-3 : goal.bounds-buffer-at-3
bounds-buffer-at-3 c =
    simp length-set
    (omega (arith, digits_three c.args.x c.if-x-lt100.false c.requires.0))

pub bounds-buffer-at-4 : goal.bounds-buffer-at-4
bounds-buffer-at-4 c =
    simp length-set (omega (arith, digits_three c.args.x c.if-x-lt100.false c.requires.0))

pub returns : goal.returns
returns c =
    three_put _ _ _ _ _ _ c.if-x-lt100.false c.requires.0
    c.digit_byte-2.ensures c.digit_byte-3.ensures c.digit_byte-4.ensures
    (omega (arith, digits_three c.args.x c.if-x-lt100.false c.requires.0))
