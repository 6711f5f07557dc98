-- `decision::plan` meets its contract: a refusal touches nothing but scratch, else
-- the link is planned.
use Rattle.lists.specs.Kit.{refl, sym}
use Rattle.mesh.specs.Lent.{read_of}
use Rattle.calls.{specs.Questions.{answer_length}, proofs.AnswerLaws.{refused_not}}
use Rattle.plan.proofs.{Asking.{ends_room}, CallLaws.{plan_refused, plan_refused_ends, plan_made}}
use Rattle.plan.proofs.decision.plan.Goals as goal

pub returns-in-Err : goal.returns-in-Err
unfolding answer_length
returns-in-Err c =
    let t = read_of c.args.t.now in
    plan_refused c.args.up c.args.t.now.radios c.args.a c.args.b t c.args.answer c.args.stretch.now _ _ _ c.in-Err.ensures
    (refused_not c.in-Err.refusal)

pub ask_ends-requires : goal.ask_ends-requires
unfolding answer_length
ask_ends-requires c =
    let t = read_of c.args.t.now in
    ends_room c.args.up c.args.t.now.radios c.args.a c.args.b t c.args.answer _ _ _ c.in_default.ensures refl

pub returns-in-Err-ask_ends : goal.returns-in-Err-ask_ends
unfolding answer_length
returns-in-Err-ask_ends c =
    let t = read_of c.args.t.now in
    plan_refused_ends c.args.up c.args.t.now.radios c.args.a c.args.b t c.args.answer c.args.stretch.now _ _ _ c.in_default.ensures refl _
    c.in-Err-ask_ends.ensures (refused_not c.in-Err-ask_ends.refusal)

pub plan_found-requires : goal.plan_found-requires
unfolding answer_length
plan_found-requires c = (c.args.answer, c.in_default.ensures, sym c.in_default-ask_ends.ensures)

pub returns : goal.returns
unfolding answer_length
returns c =
    let t = read_of c.args.t.now in
    plan_made c.args.up c.args.t.now.radios c.args.a c.args.b t c.args.answer c.args.stretch.now _ _ _ c.in_default.ensures refl _
    c.in_default-ask_ends.ensures refl _ _ _ _ c.plan_found.ensures
