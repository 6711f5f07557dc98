-- `search::may_lift` meets its contract: its tests are the ones of `may_lift`, in its order.
use Rattle.lists.specs.Kit.{rules}
use Rattle.lift.proofs.{SearchLaws.{lift_low, lift_full, lift_other, lift_test}}
use Rattle.lift.proofs.search.may_lift.Goals as goal

pub returns-then-c-a : goal.returns-then-c-a
returns-then-c-a c = search (rules, lift_low)

pub returns-then-not-has : goal.returns-then-not-has
returns-then-not-has c = search (rules, lift_full)

pub returns-then-not-begins_tight : goal.returns-then-not-begins_tight
returns-then-not-begins_tight c = search (rules, lift_other)

pub returns : goal.returns
returns c = search (rules, lift_test)
