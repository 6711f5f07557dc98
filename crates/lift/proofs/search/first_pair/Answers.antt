-- `search::first_pair` meets its contract: no pair whose lower radio is below a lifts r.
use Rattle.lists.specs.Kit.{arith}
use Rattle.lift.proofs.{TrySteps.{site_small}, SearchSteps.{pair_some, pair_none}}
use Rattle.lift.proofs.search.first_pair.Goals as goal

pub all_free-requires : goal.all_free-requires
all_free-requires c = site_small _ _ _ c.requires.0

pub all_tight-requires : goal.all_tight-requires
all_tight-requires c = (c.requires.2, c.requires.1, site_small _ _ _ c.requires.0)

pub overflow_cast-a : goal.overflow_cast-a
overflow_cast-a c = record { fits = omega (arith, site_small _ _ _ c.requires.0, c.loop-a-test.true) }

pub returns-in-Some : goal.returns-in-Some
returns-in-Some c = pair_some _ _ _ c.requires.0 _ c.requires.1 _ c.loop-a.invariant.0 _ c.in-Some.ensures

pub returns : goal.returns
returns c =
    pair_none _ _ _ c.requires.0 _ c.requires.1 c.loop-a.a (omega (arith, c.loop-a-test.false, c.loop-a.invariant.1)) c.loop-a.invariant.0
