-- `steps::stepped` meets its contract: the sum is exact in 16 bits, and the two tests hold it between 0 and 255.
use Rattle.tables.proofs.StepLaws.{sum_of, step_wide, sum_fits, held_within, sum_below, sum_above, sum_within}
use Rattle.tables.proofs.steps.stepped.Goals as goal

pub overflow_cast-sum-2 : goal.overflow_cast-sum-2
overflow_cast-sum-2 c = step_wide c.args.x c.args.step c.ranges.x.fits c.ranges.step

pub overflow_add-sum : goal.overflow_add-sum
overflow_add-sum c = sum_fits c.args.x c.args.step c.ranges.x.fits c.ranges.step

pub returns-then-sum-lt0 : goal.returns-then-sum-lt0
returns-then-sum-lt0 c = sum_below c.args.x c.args.step c.ranges.x.fits c.ranges.step c.if-sum-lt0.true

pub returns-then-sum-gt255 : goal.returns-then-sum-gt255
returns-then-sum-gt255 c = sum_above c.args.x c.args.step c.ranges.x.fits c.ranges.step c.if-sum-gt255.true

pub overflow_cast-result : goal.overflow_cast-result
overflow_cast-result c = (held_within (sum_of c.args.x c.args.step) c.if-sum-lt0.false c.if-sum-gt255.false).cast

pub returns : goal.returns
returns c = sum_within c.args.x c.args.step c.ranges.x.fits c.ranges.step c.if-sum-lt0.false c.if-sum-gt255.false
