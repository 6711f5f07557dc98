-- `ask::ask` meets its contract: a refusal touches nothing but scratch, and the plan of an accepted call is reported.
use Rattle.lists.specs.Kit.{refl}
use Rattle.mesh.specs.Lent.{read_of}
use Rattle.calls.proofs.AnswerLaws.{refused_not}
use Rattle.links.proofs.{ProposalLaws.{ask_refused, ask_accepted}}
use Rattle.links.proofs.ask.ask.Goals as goal

pub returns-in-Ok : goal.returns-in-Ok
returns-in-Ok c =
    ask_accepted c.args.up c.args.t.now.radios c.args.a c.args.b (read_of c.args.t.now) c.args.answer.now _ _ _ _ _ _
    c.in-Ok.ensures refl _ _ c.report.ensures

pub returns-in-Err : goal.returns-in-Err
returns-in-Err c =
    ask_refused c.args.up c.args.t.now.radios c.args.a c.args.b (read_of c.args.t.now) c.args.answer.now _ _ _ _ _ _
    c.in-Err.ensures (refused_not c.in-Err.refusal)
