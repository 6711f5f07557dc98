-- `turn::mark_fitting` meets its contract: the places from p on give what all places give (`FittingFrom`). The measure is the
-- places that are left.
use Rattle.std.specs.Prelude.{◌≡◌}
use Rattle.lists.specs.Kit.{◌∙◌, cond, arith, leb, get_or, le-leb, lt-leb}
use Rattle.rows.specs.Sets.{put_in}
use Rattle.plan.proofs.TurnLoops.{cond_passed, cond_failed, fitting_turn, fitting_end}
use Rattle.plan.proofs.turn.mark_fitting.Goals as goal
use Rattle.plan.proofs.turn.mark_fitting.Goals.{then-counters-v, else-counters-v}

pub loop-p-preserved : goal.loop-p-preserved
loop-p-preserved c =
    let counter = get_or c.args.counters.now (get_or c.args.order.now c.loop-p.p 0) 0 in
    let new : c.if-counters-v.fits ≡ cond (leb counter c.args.most) (put_in c.loop-p.p c.loop-p.fits) c.loop-p.fits =
    elim c.if-counters-v.branch [
      | then-counters-v w ↦ w.fits-is ∙ w.put_in.ensures.joined ∙ cond_passed _ _ _ (le-leb counter c.args.most w.if-counters-v.true)
      | else-counters-v w ↦ w.fits-is ∙ cond_failed _ _ _ (lt-leb counter c.args.most w.if-counters-v.false)
    ] in
    fitting_turn _ _ _ _ _ _ c.loop-p.p _ _ c.loop-p-test.true new c.loop-p.invariant

pub returns : goal.returns
returns c = fitting_end _ _ _ _ _ _ c.loop-p.p _ (omega arith) c.loop-p.invariant
