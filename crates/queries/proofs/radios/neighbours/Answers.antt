-- `radios::neighbours` meets its contract: the bits of a row count the neighbours.
use Rattle.lists.specs.Kit.{sym}
use Rattle.mesh.specs.Lent.{read_of}
use Rattle.queries.proofs.{AnswerLaws.{neighbours_refused, neighbours_answered}}
use Rattle.calls.proofs.AnswerLaws.{refused_not}
use Rattle.queries.proofs.radios.neighbours.Goals as goal

pub returns-in-Err : goal.returns-in-Err
returns-in-Err c =
    let t = read_of c.args.t.now in
    neighbours_refused c.args.t.now.radios c.args.v t _ c.in-Err.ensures (refused_not c.in-Err.refusal)

pub returns : goal.returns
returns c =
    let t = read_of c.args.t.now in
    neighbours_answered c.args.t.now.radios c.args.v t (sym c.in_default.ensures) _ c.row_degree.ensures
