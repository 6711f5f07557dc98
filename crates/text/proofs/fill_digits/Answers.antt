-- `text::fill_digits` meets its contract: the digits that are filled in stand after those of what is left.
-- The measure is what is left.
use Rattle.std.specs.Prelude.{◌-◌, ◌/◌}
use Rattle.lists.specs.Kit.{sym, ap, subst, ◌∙◌, ℕ, arith, drop, set, length-set}
use Rattle.text.proofs.DecimalLaws.{Digits, digits_start, digits_before, digits_next, digits_end}
use Rattle.text.proofs.fill_digits.Goals as goal

pub loop-rest-init : goal.loop-rest-init
loop-rest-init c = (c.requires, digits_start c.args.x 19 c.args.digits.now c.requires (omega arith))

pub bounds-digits-i : goal.bounds-digits-i
bounds-digits-i c = c.loop-rest.invariant.1.inside

pub overflow_sub-i : goal.overflow_sub-i
overflow_sub-i c = digits_before c.loop-rest.rest c.loop-rest.i c.loop-rest-test.true c.loop-rest.invariant.1.fits

pub loop-rest-smaller : goal.loop-rest-smaller
loop-rest-smaller c = omega (arith, c.loop-rest-test.true)

pub loop-rest-preserved : goal.loop-rest-preserved
loop-rest-preserved c = (
  length-set c.loop-rest.digits c.loop-rest.i c.digit_byte.result ∙ c.loop-rest.invariant.0,
  subst (λ (d : ℕ). Digits c.args.x (c.loop-rest.rest / 10) (c.loop-rest.i - 1) (set c.loop-rest.digits c.loop-rest.i d))
      (sym c.digit_byte.ensures)
      (digits_next c.loop-rest-test.true
      (omega (arith, digits_before c.loop-rest.rest c.loop-rest.i c.loop-rest-test.true c.loop-rest.invariant.1.fits)) c.loop-rest.invariant.1),
)

pub digit_byte-requires-2 : goal.digit_byte-requires-2
digit_byte-requires-2 c = c.loop-rest-test.false

pub bounds-digits-i-2 : goal.bounds-digits-i-2
bounds-digits-i-2 c = c.loop-rest.invariant.1.inside

pub returns : goal.returns
returns c = (
  omega (arith, c.loop-rest.invariant.0, c.loop-rest.invariant.1.inside),
  ap (λ (d : ℕ). drop c.loop-rest.i (set c.loop-rest.digits c.loop-rest.i d)) c.digit_byte-2.ensures
      ∙ digits_end c.loop-rest-test.false c.loop-rest.invariant.1,
)
