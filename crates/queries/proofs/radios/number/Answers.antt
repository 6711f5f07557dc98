-- `radios::number` meets its contract: on sound tables the entry is the number.
use Rattle.lists.specs.Kit.{sym, arith}
use Rattle.mesh.specs.Lent.{read_of}
use Rattle.calls.proofs.AnswerLaws.{refused_not}
use Rattle.queries.proofs.AnswerLaws.{number_refused, number_answered, radio_site, radio_below}
use Rattle.queries.proofs.radios.number.Goals as goal

pub returns-in-Err : goal.returns-in-Err
returns-in-Err c =
    number_refused c.args.t.now.radios c.args.v (read_of c.args.t.now) _ c.in-Err.ensures (refused_not c.in-Err.refusal)

pub bounds-t-v : goal.bounds-t-v
bounds-t-v c =
    let n = c.args.t.now.radios in
    let t = read_of c.args.t.now in
    let e = sym c.in_default.ensures in
    omega (arith, (radio_site n c.args.v t e).numbers_long, radio_below n c.args.v t e)

pub returns : goal.returns
returns c = number_answered c.args.t.now.radios c.args.v (read_of c.args.t.now) (sym c.in_default.ensures)
