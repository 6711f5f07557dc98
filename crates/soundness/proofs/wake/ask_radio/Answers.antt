-- `wake::ask_radio` meets its contract: questions 1 to 3, and 4 after them.
use Rattle.mesh.specs.{Sound.{sound}, Lent.{read_of}}
use Rattle.lists.specs.Kit.{refl}
use Rattle.calls.{specs.Questions.{lengths_of}, proofs.AnswerLaws.{refused_not}}
use Rattle.soundness.proofs.{RadioLaws.{radio_no, radio_four, radio_none}}
use Rattle.soundness.proofs.wake.ask_radio.Goals as goal

pub returns-in-Err : goal.returns-in-Err
returns-in-Err c =
    let t = read_of c.args.t.now in
    radio_no c.args.t.now.radios c.args.v (lengths_of t) (sound c.args.t.now.radios t) _ c.in-Err.ensures (refused_not c.in-Err.refusal)

pub returns-then-t-v : goal.returns-then-t-v
returns-then-t-v c =
    let t = read_of c.args.t.now in
    radio_four c.args.t.now.radios c.args.v (lengths_of t) (sound c.args.t.now.radios t) _ c.in_default.ensures refl c.if-t-v.true

pub returns : goal.returns
returns c =
    let t = read_of c.args.t.now in
    radio_none c.args.t.now.radios c.args.v (lengths_of t) (sound c.args.t.now.radios t) _ c.in_default.ensures refl c.if-t-v.false
