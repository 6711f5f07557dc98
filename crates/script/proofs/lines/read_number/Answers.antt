-- `lines::read_number` meets its contract: each branch is a case of `number_of` at the byte that stands at p.
use Rattle.lists.specs.Kit.{sym, ◌∙◌, arith}
use Rattle.script.proofs.{LineLaws.{digit_small, number_end, number_zero, number_other, number_digit}}
use Rattle.script.proofs.lines.read_number.Goals as goal

pub returns-then-s-p : goal.returns-then-s-p
returns-then-s-p c = sym (number_end c.args.s.now c.args.p (omega arith))

pub returns-then-s-p-eq48 : goal.returns-then-s-p-eq48
returns-then-s-p-eq48 c = sym (number_zero c.args.s.now c.args.p (omega arith) c.if-s-p-eq48.true)

pub returns-in_default : goal.returns-in_default
returns-in_default c = sym (number_other c.args.s.now c.args.p (omega arith) c.if-s-p-eq48.false c.in_default.ensures)

pub read_digits-requires : goal.read_digits-requires
read_digits-requires c = (omega arith, omega (arith, digit_small _ _ c.in-Some.ensures))

pub returns : goal.returns
returns c = c.read_digits.ensures ∙ sym (number_digit c.args.s.now c.args.p (omega arith) c.if-s-p-eq48.false _ c.in-Some.ensures)
