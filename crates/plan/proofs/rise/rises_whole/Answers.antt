-- `rise::rises_whole` meets its contract: the radios passed do not fit, so the others decide (`StretchPassing`). The measure is the places
-- that are left.
use Rattle.std.specs.Prelude.{◌+◌}
use Rattle.lists.specs.Kit.{sym, ap, ◌∙◌, not, arith}
use Rattle.plan.specs.Turns.{stays_linked}
use Rattle.plan.proofs.{StretchLoops.{passing_none, passing_turn, passing_stop, passing_end}}
use Rattle.plan.proofs.rise.rises_whole.Goals as goal

pub loop-i-init : goal.loop-i-init
loop-i-init c = passing_none _ _ _ _

pub overflow_cast-v : goal.overflow_cast-v
overflow_cast-v c = omega (arith, c.type_inv.order (c.args.at.start + c.loop-i.i))

pub overflow_cast-v-in-loop-i : goal.overflow_cast-v-in-loop-i
overflow_cast-v-in-loop-i c = omega (arith, c.type_inv.order (c.args.at.start + c.loop-i.i))

pub bounds-not_lower-v : goal.bounds-not_lower-v
bounds-not_lower-v c = c.requires.1 (c.args.at.start + c.loop-i.i) (omega (arith, c.requires.0))

pub returns-then-fits : goal.returns-then-fits
unfolding stays_linked
returns-then-fits c =
    passing_stop _ _ _ _ c.requires.0 c.loop-i.i c.loop-i.invariant (omega arith)
    (ap not (sym c.fits.ensures ∙ c.if-fits.true))

pub loop-i-preserved : goal.loop-i-preserved
unfolding stays_linked
loop-i-preserved c =
    passing_turn _ _ _ _ c.requires.0 c.loop-i.i c.loop-i.invariant (omega arith)
    (ap not (sym c.fits.ensures ∙ c.if-fits.false))

pub returns : goal.returns
returns c = passing_end _ _ _ _ c.requires.0 _ c.loop-i.invariant c.loop-i-test.false
