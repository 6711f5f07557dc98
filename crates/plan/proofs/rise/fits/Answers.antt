-- `rise::fits` meets its contract: at an end the link adds one neighbour, so that fewer than `most` are few enough.
use Rattle.plan.proofs.{RisePlan.{fits_a, fits_b, fits_other}}
use Rattle.plan.proofs.rise.fits.Goals as goal

pub returns-then-v-rise : goal.returns-then-v-rise
returns-then-v-rise c = fits_a _ _ _ _ _ c.if-v-rise.true

pub returns-then-v-rise-2 : goal.returns-then-v-rise-2
returns-then-v-rise-2 c = fits_b _ _ _ _ _ c.if-v-rise.false c.if-v-rise-2.true

pub returns : goal.returns
returns c = fits_other _ _ _ _ _ c.if-v-rise.false c.if-v-rise-2.false
