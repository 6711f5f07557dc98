-- `printing::step_size` meets its contract: in sixteen bits every step can be negated.
use Rattle.script.proofs.StepLaws.{wide_fits, minus_fits, size_minus, size_minus_is, size_plus}
use Rattle.script.proofs.printing.step_size.Goals as goal

pub overflow_cast-result : goal.overflow_cast-result
overflow_cast-result c = wide_fits c.args.step c.ranges.step

pub overflow_sub-result : goal.overflow_sub-result
overflow_sub-result c = minus_fits c.args.step c.ranges.step c.if-step-lt0.true

pub overflow_cast-result-then-step-lt0 : goal.overflow_cast-result-then-step-lt0
overflow_cast-result-then-step-lt0 c = size_minus c.args.step c.ranges.step c.if-step-lt0.true

pub returns-then-step-lt0 : goal.returns-then-step-lt0
returns-then-step-lt0 c = size_minus_is c.args.step c.ranges.step c.if-step-lt0.true

pub overflow_cast-result-2 : goal.overflow_cast-result-2
overflow_cast-result-2 c = size_plus c.args.step c.ranges.step c.if-step-lt0.false
