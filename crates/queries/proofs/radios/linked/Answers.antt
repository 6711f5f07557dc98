-- `radios::linked` meets its contract: the bit says whether there is a link.
use Rattle.lists.specs.Kit.{sym}
use Rattle.mesh.specs.Lent.{read_of}
use Rattle.queries.proofs.{AnswerLaws.{linked_refused, linked_answered}}
use Rattle.calls.proofs.AnswerLaws.{refused_not}
use Rattle.queries.proofs.radios.linked.Goals as goal

pub returns-in-Err : goal.returns-in-Err
returns-in-Err c =
    let t = read_of c.args.t.now in
    linked_refused c.args.t.now.radios c.args.a c.args.b t _ c.in-Err.ensures (refused_not c.in-Err.refusal)

pub returns : goal.returns
returns c =
    let t = read_of c.args.t.now in
    linked_answered c.args.t.now.radios c.args.a c.args.b t (sym c.in_default.ensures) _ c.is_marked.ensures
