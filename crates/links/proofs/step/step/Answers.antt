-- `step::step` meets its contract: a refusal touches nothing. Of the tables after the change the places are put where the order may be
-- another, and the not-lower counts are found anew of the radios that the change touched.
use Rattle.lists.specs.Kit.{refl}
use Rattle.links.proofs.StepLaws.{step_asked, step_ready, step_done, put_ready, renew_ready, step_carried}
use Rattle.links.proofs.step.step.Goals as goal

pub ask_ends-requires : goal.ask_ends-requires
ask_ends-requires c = step_asked c.requires

pub change-made-requires : goal.change-made-requires
change-made-requires c = step_ready c.args.up c.args.n c.args.a c.args.b _ _ _ c.requires _ c.in_default.ensures refl

pub put_places-requires : goal.put_places-requires
put_places-requires c = put_ready (step_ready c.args.up c.args.n c.args.a c.args.b _ _ _ c.requires _ c.in_default.ensures refl) _ _ _ _ _ c.change-made.ensures

pub renew-requires : goal.renew-requires
renew-requires c = renew_ready (step_ready c.args.up c.args.n c.args.a c.args.b _ _ _ c.requires _ c.in_default.ensures refl) _ _ _ _ _ c.change-made.ensures

pub returns : goal.returns
returns c =
    let ready = step_ready c.args.up c.args.n c.args.a c.args.b _ _ _ c.requires _ c.in_default.ensures refl in
    step_done c.args.up c.args.n c.args.a c.args.b _ _ _ c.requires _ c.in_default.ensures refl
    _ _ _ (step_carried ready _ _ _ _ _ c.change-made.ensures _ c.put_places.ensures _ c.renew.ensures)
