-- `come_back` meets its contract: a refusal touches nothing; accepted, the mark's image is read from its part of the store.
use Rattle.lists.specs.Kit.{arith, not-true, not-false}
use Rattle.mesh.specs.Tables.{tables}
use Rattle.calls.proofs.AnswerLaws.{refused_not}
use Rattle.marks.proofs.{CallLaws.{return_refused, return_absent, returned, fits}}
use Rattle.marks.proofs.come_back.Goals as goal

pub returns-in-Err : goal.returns-in-Err
returns-in-Err c =
    return_refused _ _ (tables c.args.links.now c.args.numbers.now c.args.order.now) _ _ c.in-Err.ensures.asked (refused_not c.in-Err.refusal)

pub returns-then-not-spot : goal.returns-then-not-spot
returns-then-not-spot c =
    return_absent _ _ (tables c.args.links.now c.args.numbers.now c.args.order.now) _ c.in-Ok.ensures.asked _ _ _ c.in-Ok.ensures.located
    (not-true _ c.if-not-spot.true)

pub slice_bounds-read-end : goal.slice_bounds-read-end
slice_bounds-read-end c =
    let s = c.in-Ok.ensures.located in
    let there = not-false _ c.if-not-spot.false in
    let f = fits _ _ (tables c.args.links.now c.args.numbers.now c.args.order.now) _ c.in-Ok.ensures.asked _ _ _ s there c.image_size.result
    c.image_size.ensures.0 in
    omega (arith, s.long, s.few, s.less there, f)

pub returns : goal.returns
returns c =
    returned _ _ (tables c.args.links.now c.args.numbers.now c.args.order.now) _ c.in-Ok.ensures.asked _ _ _ c.in-Ok.ensures.located
    (not-false _ c.if-not-spot.false) c.image_size.result c.image_size.ensures.0 _ _ c.read.ensures
