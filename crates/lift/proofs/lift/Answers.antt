-- `lift` meets its contract: questions 1 to 4, and then the first pair that lifts v, or 20.
use Rattle.lists.specs.Kit.{arith, refl}
use Rattle.mesh.specs.Lent.{read_of}
use Rattle.calls.proofs.AnswerLaws.{refused_not}
use Rattle.lift.proofs.SearchLaws.{asked_radios, search_ready, answer_refused, answer_past, answer_none, answer_some}
use Rattle.lift.proofs.lift.Goals as goal

pub returns-in-Err : goal.returns-in-Err
returns-in-Err c =
    answer_refused c.args.t.now.radios c.args.v (read_of c.args.t.now) _ _ _ c.in-Err.ensures (refused_not c.in-Err.refusal)

pub returns-then-t-v : goal.returns-then-t-v
returns-then-t-v c = answer_past c.args.t.now.radios c.args.v (read_of c.args.t.now) _ _ _ c.in_default.ensures refl c.if-t-v.true

pub first_pair-requires : goal.first_pair-requires
first_pair-requires c =
    let t = read_of c.args.t.now in
    let ready = search_ready c.args.t.now.radios c.args.v t _ _ _ c.in_default.ensures refl in
    (ready.0, omega (arith, c.if-t-v.false, asked_radios c.args.t.now.radios c.args.v t _ _ _ c.in_default.ensures refl), ready.1)

pub returns-in-Some : goal.returns-in-Some
returns-in-Some c =
    answer_some c.args.t.now.radios c.args.v (read_of c.args.t.now) _ _ _ c.in_default.ensures refl c.if-t-v.false _ _ c.in-Some.ensures

pub returns-in-None : goal.returns-in-None
returns-in-None c =
    answer_none c.args.t.now.radios c.args.v (read_of c.args.t.now) _ _ _ c.in_default.ensures refl c.if-t-v.false c.in-None.ensures
