-- `stuck::list_stuck` meets its contract: the entries listed so far and the ones from place i of the stretch on are all that
-- pass (`StretchListed`). The measure is the places that are left.
use Rattle.std.specs.Prelude.{◌<◌}
use Rattle.lists.specs.Kit.{◌∙◌, lt-ltb, le-ltb}
use Rattle.plan.proofs.StretchLoops.{stretch_passed, stretch_failed, stretch_end}
use Rattle.plan.proofs.stuck.list_stuck.Goals as goal
use Rattle.plan.proofs.stuck.list_stuck.Goals.{then-most-counters, else-most-counters}

pub loop-i-preserved : goal.loop-i-preserved
loop-i-preserved c =
    let l : c.loop-i.i < c.args.at.size = c.loop-i-test.true in
    elim c.if-most-counters.branch [
      | then-most-counters w ↦
          stretch_passed _ _ _ _ _ _ c.requires.0 _ _ c.loop-i.i l c.loop-i.invariant _ _ (lt-ltb _ _ w.if-most-counters.true)
          (w.list-is ∙ w.put16.ensures) w.end-is
      | else-most-counters w ↦
          stretch_failed _ _ _ _ _ _ c.requires.0 _ _ c.loop-i.i l c.loop-i.invariant _ _ (le-ltb _ _ w.if-most-counters.false) w.list-is w.end-is
    ]

pub returns : goal.returns
returns c = stretch_end _ _ _ _ _ _ c.requires.0 _ _ c.loop-i.i c.loop-i-test.false c.loop-i.invariant
