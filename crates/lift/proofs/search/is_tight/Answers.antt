-- `search::is_tight` meets its contract: its tests are the ones of `is_tight`, in its order.
use Rattle.lists.specs.Kit.{arith, rules}
use Rattle.lift.proofs.OrderLaws.{tight_other, tight_late, tight_test, places_links, places_radios, places_small}
use Rattle.lift.proofs.search.is_tight.Goals as goal

pub returns-then-t-v : goal.returns-then-t-v
returns-then-t-v c = search (rules, tight_other)

pub bounds-places-r : goal.bounds-places-r
bounds-places-r c = omega (arith, c.requires.2, places_small _ _ _ c.requires.0)

pub bounds-places-v : goal.bounds-places-v
bounds-places-v c = omega (arith, c.requires.1, places_small _ _ _ c.requires.0)

pub returns-then-places-r : goal.returns-then-places-r
returns-then-places-r c = search (rules, tight_late)

pub later-requires : goal.later-requires
later-requires c = (places_links _ _ _ c.requires.0, omega (arith, c.requires.1, places_radios _ _ _ c.requires.0))

pub returns : goal.returns
returns c = search (rules, tight_test)
