-- `soundness::place` meets its contract: the entries passed have their places and no other radio has one, so a radio that has a
-- place stood there before. The measure is what is left of the order.
use Rattle.lists.specs.Kit.{sym, arith, length-take-le}
use Rattle.soundness.proofs.CheckLoops.{placing_none, placing_high, placing_again, placing_room, placing_turn, placing_end, placing_not}
use Rattle.soundness.proofs.place.Goals as goal

pub slice_bounds-fill-end-2 : goal.slice_bounds-fill-end-2
slice_bounds-fill-end-2 c = sym (length-take-le _ _ c.requires.0)

pub loop-i-init : goal.loop-i-init
loop-i-init c = placing_none c.args.order.now c.args.places.now _ c.requires c.fill.ensures

pub bounds-order-i : goal.bounds-order-i
bounds-order-i c = omega (arith, c.type_inv.order c.loop-i.i)

pub returns-then-order-v : goal.returns-then-order-v
returns-then-order-v c =
    placing_not c.args.order.now c.args.places.now _ c.requires c.fill.ensures _ _ c.loop-i.invariant
    (placing_high c.args.order.now c.args.places.now _ c.requires c.fill.ensures _ _ c.loop-i-test.true c.loop-i.invariant
    c.if-order-v.true)

pub bounds-places-v : goal.bounds-places-v
bounds-places-v c =
    placing_room c.args.order.now c.args.places.now _ c.requires c.fill.ensures _ _ c.loop-i-test.true
    c.loop-i.invariant c.if-order-v.false

pub returns-then-places-v : goal.returns-then-places-v
returns-then-places-v c =
    placing_not c.args.order.now c.args.places.now _ c.requires c.fill.ensures _ _ c.loop-i.invariant
    (placing_again c.args.order.now c.args.places.now _ c.requires c.fill.ensures _ _ c.loop-i-test.true
    c.loop-i.invariant c.if-order-v.false c.if-places-v.true)

pub overflow_cast-places : goal.overflow_cast-places
overflow_cast-places c = omega arith

pub bounds-places-v-in-loop-i : goal.bounds-places-v-in-loop-i
bounds-places-v-in-loop-i c =
    placing_room c.args.order.now c.args.places.now _ c.requires c.fill.ensures _ _ c.loop-i-test.true
    c.loop-i.invariant c.if-order-v.false

pub loop-i-preserved : goal.loop-i-preserved
loop-i-preserved c =
    placing_turn c.args.order.now c.args.places.now _ c.requires c.fill.ensures _ _ c.loop-i-test.true
    c.loop-i.invariant c.if-order-v.false c.if-places-v.false

pub returns : goal.returns
returns c = placing_end c.args.order.now c.args.places.now _ c.requires c.fill.ensures _ _ c.loop-i-test.false c.loop-i.invariant
