-- `turn::release_one` meets its contract: each branch stores what `counter_less` and `place_marked` name.
use Rattle.lists.specs.Kit.{◌∙◌}
use Rattle.plan.proofs.{TurnLoops.{release_fits, release_unfit, release_other}}
use Rattle.plan.proofs.turn.release_one.Goals as goal

pub returns-then-counters-v : goal.returns-then-counters-v
returns-then-counters-v c =
    let r = release_fits _ _ _ _ _ _ _ c.if-by-v.true c.if-counters-v.true in record { counted = r.0; marked = c.put_in.ensures.joined ∙ r.1 }

pub returns-else-counters-v : goal.returns-else-counters-v
returns-else-counters-v c =
    let both = release_unfit _ _ _ _ _ _ _ c.if-by-v.true c.if-counters-v.false in record { counted = both.0; marked = both.1 }

pub returns-else-by-v : goal.returns-else-by-v
returns-else-by-v c = let both = release_other _ _ _ _ _ _ _ c.if-by-v.false in record { counted = both.0; marked = both.1 }
