-- `wake::later_of` meets its contract: refused by questions 1 to 4, or the later neighbours of a radio of sound tables.
use Rattle.lists.specs.Kit.{sym}
use Rattle.calls.proofs.AnswerLaws.{refused_not}
use Rattle.mesh.specs.Lent.{read_of}
use Rattle.soundness.proofs.{WakeLaws.{later_refused, later_radio, later_answered}}
use Rattle.soundness.proofs.wake.later_of.Goals as goal

pub returns-in-Err : goal.returns-in-Err
returns-in-Err c =
    let t = read_of c.args.t.now in
    later_refused c.args.t.now.radios c.args.v t _ c.in-Err.ensures (refused_not c.in-Err.refusal)

pub wake_of-requires : goal.wake_of-requires
wake_of-requires c =
    let t = read_of c.args.t.now in
    later_radio c.args.t.now.radios c.args.v t (sym c.in_default.ensures)

pub returns : goal.returns
returns c =
    let t = read_of c.args.t.now in
    later_answered c.args.t.now.radios c.args.v t (sym c.in_default.ensures) _ _ c.wake_of.ensures
