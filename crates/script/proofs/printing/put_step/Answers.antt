-- `printing::put_step` meets its contract: each branch is a case of `step_text`.
use Rattle.text.proofs.PrintLaws.{puts_append, puts_as}
use Rattle.script.proofs.{StepLaws.{step_text_minus, step_text_zero, step_text_plus}}
use Rattle.script.proofs.printing.put_step.Goals as goal

pub returns-then-step-lt0 : goal.returns-then-step-lt0
returns-then-step-lt0 c =
    puts_as (step_text_minus c.args.step c.ranges.step c.step_size-size.result c.step_size-size.ensures
    c.if-step-lt0.true)
    (puts_append c.put_byte-place.ensures c.put_decimal.ensures)

pub returns-then-size-eq0 : goal.returns-then-size-eq0
returns-then-size-eq0 c =
    puts_as (step_text_zero c.args.step c.ranges.step c.step_size-size.result c.step_size-size.ensures
    c.if-size-eq0.true) c.put_decimal-then-size-eq0.ensures

pub returns : goal.returns
returns c =
    puts_as (step_text_plus c.args.step c.ranges.step c.step_size-size.result c.step_size-size.ensures
    c.if-step-lt0.false
    c.if-size-eq0.false)
    (puts_append c.put_byte-place-2.ensures c.put_decimal-2.ensures)
