-- `rise::plan_up` meets its contract: the beginning end has a place, and each branch's plan is document 01's; the mathematics is in
-- `proofs.RisePlan` and `proofs.WalkPlan`.
use Rattle.lists.specs.Kit.{ap, ℕ, arith, get_or}
use Rattle.plan.proofs.{RisePlan.{stretch_known, whole_lent}, WalkPlan.{ends_known, begins_below}}
use Rattle.plan.proofs.rise.plan_up.Goals as goal

pub bounds-t-a : goal.bounds-t-a
bounds-t-a c = (ends_known c.requires).0

pub bounds-t-b : goal.bounds-t-b
bounds-t-b c = (ends_known c.requires).1

pub offset_bounds-places-e : goal.offset_bounds-places-e
offset_bounds-places-e c =
    omega (
      arith,
      begins_below c.requires c.lower-most.result c.lower-most.ensures c.beginning-e.result c.beginning-e.ensures,
      c.requires.small,
    )

pub bounds-places-e : goal.bounds-places-e
bounds-places-e c =
    omega (
      arith,
      begins_below c.requires c.lower-most.result c.lower-most.ensures c.beginning-e.result c.beginning-e.ensures,
      c.requires.places_length,
    )

pub rises_whole-requires : goal.rises_whole-requires
rises_whole-requires c =
    let known = stretch_known c.requires _ c.lower-most.ensures _ _ c.stretch_of-at.ensures in (known.0, known.2)

pub overflow_add-at : goal.overflow_add-at
overflow_add-at c =
    omega (arith, (stretch_known c.requires _ c.lower-most.ensures _ _ c.stretch_of-at.ensures).1)

pub pass-requires : goal.pass-requires
pass-requires c =
    let known = stretch_known c.requires _ c.lower-most.ensures _ _ c.stretch_of-at.ensures in
    (omega arith, known.0, omega (arith, known.1))

pub returns-then-rises_whole : goal.returns-then-rises_whole
returns-then-rises_whole c =
    whole_lent c.requires _ c.lower-most.ensures _ _ c.stretch_of-at.ensures _ c.rises_whole.ensures
    c.if-rises_whole.true _ _ (omega arith) c.pass.ensures

pub plan_on-requires : goal.plan_on-requires
plan_on-requires c =
    record {
      ready = c.requires;
      begins = record {
        level = c.lower-most.ensures;
        place = ap (λ (x : ℕ). get_or c.args.places.now x 0) c.beginning-e.ensures;
      };
    }
