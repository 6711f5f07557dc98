-- The worked pair of histories of the table of cases are the same calls.
use Rattle.lists.specs.Kit.{arith}
use Rattle.calls.specs.Cases.{one_hub, other_hub}
use Rattle.hubs.specs.Hubs.{times, SameCalls}

pub cases_same : SameCalls one_hub.calls other_hub.calls
unfolding SameCalls times one_hub other_hub
cases_same up a b = omega arith
