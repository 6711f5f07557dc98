-- `radios::ask_pair` meets its contract: the questions of the first radio, and then 4 of the second.
use Rattle.mesh.specs.{Sound.{sound}, Lent.{read_of}}
use Rattle.lists.specs.Kit.{refl}
use Rattle.calls.specs.Questions.{lengths_of}
use Rattle.queries.proofs.{RefusalLaws.{pair_no, pair_four, pair_none}}
use Rattle.calls.proofs.AnswerLaws.{refused_not}
use Rattle.queries.proofs.radios.ask_pair.Goals as goal

pub returns-in-Err : goal.returns-in-Err
returns-in-Err c =
    let t = read_of c.args.t.now in
    pair_no c.args.t.now.radios c.args.a c.args.b (lengths_of t) (sound c.args.t.now.radios t) _ c.in-Err.ensures (refused_not c.in-Err.refusal)

pub returns-then-t-b : goal.returns-then-t-b
returns-then-t-b c =
    let t = read_of c.args.t.now in
    pair_four c.args.t.now.radios c.args.a c.args.b (lengths_of t) (sound c.args.t.now.radios t) _ c.in_default.ensures refl
    c.if-t-b.true

pub returns : goal.returns
returns c =
    let t = read_of c.args.t.now in
    pair_none c.args.t.now.radios c.args.a c.args.b (lengths_of t) (sound c.args.t.now.radios t) _ c.in_default.ensures refl
    c.if-t-b.false
