-- `peel::begin` meets its contract: the ends differ, so what is counted for one leaves the other's counter.
use Rattle.plan.proofs.{BeginLaws.{begin_a, begin_b, begin_done}}
use Rattle.plan.proofs.peel.begin.Goals as goal

pub count_end-requires : goal.count_end-requires
count_end-requires c = begin_a c.requires

pub count_end-requires-2 : goal.count_end-requires-2
count_end-requires-2 c = begin_b c.requires _ c.count_end.ensures

pub returns : goal.returns
returns c =
    let both = begin_done c.requires _ c.count_end.ensures _ _ _ _ _ c.count_end-2.ensures
    c.mark_fitting.ensures in record { counted = both.0; marked = both.1 }
