-- `lines::read_digits` meets its contract: the digits that are left, read onto v, give what all of them give.
use Rattle.lists.specs.Kit.{refl, sym, ◌∙◌, arith}
use Rattle.script.proofs.{LineLaws.{digit_small, digits_end, digits_other, digits_large, digits_step}}
use Rattle.script.proofs.lines.read_digits.Goals as goal

pub loop-next-init : goal.loop-next-init
loop-next-init c = (omega arith, refl)

pub overflow_add-longer : goal.overflow_add-longer
overflow_add-longer c = omega (arith, digit_small _ _ c.in-Some.ensures)

pub returns-in_default : goal.returns-in_default
returns-in_default c = sym (digits_other c.args.s.now c.loop-next.value c.loop-next.next (omega arith) c.in_default.ensures) ∙ c.loop-next.invariant.1

pub returns-then-longer-gt-MAX_VALUE : goal.returns-then-longer-gt-MAX_VALUE
returns-then-longer-gt-MAX_VALUE c =
    sym (digits_large c.args.s.now c.loop-next.value c.loop-next.next (omega arith) _ c.in-Some.ensures (omega arith)) ∙ c.loop-next.invariant.1

pub loop-next-preserved : goal.loop-next-preserved
loop-next-preserved c = (
  omega arith,
  sym (digits_step c.args.s.now c.loop-next.value c.loop-next.next (omega arith) _ c.in-Some.ensures (omega arith)) ∙ c.loop-next.invariant.1,
)

pub returns : goal.returns
returns c = sym (digits_end c.args.s.now c.loop-next.value c.loop-next.next (omega arith)) ∙ c.loop-next.invariant.1
