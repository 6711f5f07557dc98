-- `Peel::is_due` meets its contract: the tests are the ones of `is_due`, in its order.
use Rattle.lists.specs.Kit.{rules}
use Rattle.lift.proofs.{PeelLaws.{due_high, due_own, due_short, due_other}}
use Rattle.lift.proofs.peel.Peel.is_due.Goals as goal

pub returns-then-at-x : goal.returns-then-at-x
returns-then-at-x c = search (rules, due_high)

pub returns-then-v-at : goal.returns-then-v-at
returns-then-v-at c = search (rules, due_own)

pub returns-then-x-at : goal.returns-then-x-at
returns-then-x-at c = search (rules, due_short)

pub returns : goal.returns
returns c = search (rules, due_other)
