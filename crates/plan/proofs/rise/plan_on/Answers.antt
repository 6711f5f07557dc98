-- `rise::plan_on` meets its contract: the order from the beginning end's place on is what the walk is made from, and each branch's plan is
-- document 01's; the mathematics is in `proofs.WalkPlan`.
use Rattle.lists.specs.Kit.{refl, arith}
use Rattle.plan.proofs.WalkPlan.{begins_inside, site_lent, settled_lent, walked_lent, planned_as}
use Rattle.plan.proofs.rise.plan_on.Goals as goal

pub offset_bounds-t-first : goal.offset_bounds-t-first
offset_bounds-t-first c =
    let inside = begins_inside c.requires.ready _ c.requires.begins.level _ refl in omega (arith, inside.1, inside.2, c.requires.begins.place, c.requires.ready.small)

pub slice_bounds-tail-count : goal.slice_bounds-tail-count
slice_bounds-tail-count c =
    let inside = begins_inside c.requires.ready _ c.requires.begins.level _ refl in omega (arith, inside.1, inside.2, c.requires.begins.place)

pub slice_bounds-tail-start : goal.slice_bounds-tail-start
slice_bounds-tail-start c =
    let inside = begins_inside c.requires.ready _ c.requires.begins.level _ refl in omega (arith, inside.1, inside.2, c.requires.begins.place)

pub settled-requires : goal.settled-requires
settled-requires c = (_, site_lent c.requires.ready _ c.requires.begins.level _ refl _ refl _ c.requires.begins.place _ refl)

pub returns-then-settled : goal.returns-then-settled
returns-then-settled c =
    planned_as c.unmoved.ensures
    (settled_lent c.requires.ready _ c.requires.begins.level _ refl _ refl _ c.requires.begins.place _ refl c.settled.result _ c.settled.ensures
    c.if-settled.true
    (omega arith))

pub overflow_add-size : goal.overflow_add-size
overflow_add-size c =
    let inside = begins_inside c.requires.ready _ c.requires.begins.level _ refl in
    omega (arith, inside.2, c.stretch_of-at.ensures.0, c.stretch_of-at.ensures.1, c.requires.ready.small)

pub overflow_sub-size : goal.overflow_sub-size
overflow_sub-size c =
    let inside = begins_inside c.requires.ready _ c.requires.begins.level _ refl in
    omega (arith, inside.1, c.requires.begins.place, c.stretch_of-at.ensures.0, c.stretch_of-at.ensures.1)

pub walk-requires : goal.walk-requires
walk-requires c =
    record {
      site = (
        _,
        site_lent c.requires.ready _ c.requires.begins.level _ refl _ (omega (arith, c.stretch_of-at.ensures.0, c.stretch_of-at.ensures.1, c.requires.begins.place)) _
            c.requires.begins.place _ refl,
      );
      room = omega arith;
    }

pub returns-then-rise-ge-WIDE : goal.returns-then-rise-ge-WIDE
returns-then-rise-ge-WIDE c =
    walked_lent c.requires.ready _ c.requires.begins.level _ refl _ (omega (arith, c.stretch_of-at.ensures.0, c.stretch_of-at.ensures.1, c.requires.begins.place)) _ c.requires.begins.place
    _
    refl _ _ _ _
    c.walk.ensures.start c.walk.ensures.walked

pub walk-requires-2 : goal.walk-requires-2
walk-requires-2 c =
    record {
      site = site_lent c.requires.ready _ c.requires.begins.level _ refl _ (omega (arith, c.stretch_of-at.ensures.0, c.stretch_of-at.ensures.1, c.requires.begins.place)) _ c.requires.begins.place
          _
          refl;
      room = omega arith;
    }

pub returns : goal.returns
returns c =
    walked_lent c.requires.ready _ c.requires.begins.level _ refl _ (omega (arith, c.stretch_of-at.ensures.0, c.stretch_of-at.ensures.1, c.requires.begins.place)) _ c.requires.begins.place
    _
    refl _ _ _ _
    c.walk-2.ensures.start c.walk-2.ensures.walked
