-- `radios::first` meets its contract: the order is walked.
use Rattle.lists.specs.Kit.{sym}
use Rattle.mesh.specs.Lent.{read_of}
use Rattle.queries.proofs.{AnswerLaws.{first_refused, first_answered}}
use Rattle.calls.proofs.AnswerLaws.{refused_not}
use Rattle.queries.proofs.radios.first.Goals as goal

pub returns-in-Err : goal.returns-in-Err
returns-in-Err c =
    let t = read_of c.args.t.now in
    first_refused c.args.t.now.radios c.args.a c.args.b t _ c.in-Err.ensures (refused_not c.in-Err.refusal)

pub returns : goal.returns
returns c =
    let t = read_of c.args.t.now in
    first_answered c.args.t.now.radios c.args.a c.args.b t (sym c.in_default.ensures) _ c.first_of_two.ensures
