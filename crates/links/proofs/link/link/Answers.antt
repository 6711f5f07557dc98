-- `link::link` meets its contract: a refusal touches nothing but scratch, and the plan of an accepted call is applied.
use Rattle.lists.specs.Kit.{refl}
use Rattle.mesh.specs.Tables.{tables}
use Rattle.calls.proofs.AnswerLaws.{refused_not}
use Rattle.links.proofs.{LinkCalls.{link_refused, fits_decided, link_accepted}}
use Rattle.links.proofs.link.link.Goals as goal

pub apply-requires : goal.apply-requires
apply-requires c =
    fits_decided c.args.up c.args.n c.args.a c.args.b (tables c.args.links.now c.args.numbers.now c.args.order.now) c.args.answer.now _ _ _ _ _ _
    c.in-Ok.ensures refl

pub returns-in-Ok : goal.returns-in-Ok
returns-in-Ok c =
    link_accepted c.args.up c.args.n c.args.a c.args.b (tables c.args.links.now c.args.numbers.now c.args.order.now) c.args.answer.now _ _ _ _ _ _
    c.in-Ok.ensures refl _ _ _ c.apply.ensures

pub returns-in-Err : goal.returns-in-Err
returns-in-Err c =
    link_refused c.args.up c.args.n c.args.a c.args.b (tables c.args.links.now c.args.numbers.now c.args.order.now) c.args.answer.now _ _ _ _ _ _
    c.in-Err.ensures (refused_not c.in-Err.refusal)
