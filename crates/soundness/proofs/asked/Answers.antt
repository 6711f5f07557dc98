-- `soundness::asked` meets its contract: questions 1 and 2 are put to the lengths, and then the tables have the sizes that the
-- conditions are tested at.
use Rattle.mesh.specs.Lent.{read_of}
use Rattle.lists.specs.Kit.{refl, arith}
use Rattle.calls.proofs.AnswerLaws.{refused_not}
use Rattle.soundness.proofs.{CheckLaws.{asked_lengths, asked_sizes, asked_no, asked_yes}}
use Rattle.soundness.proofs.asked.Goals as goal

pub returns-in-Err : goal.returns-in-Err
returns-in-Err c =
    let t = read_of c.args.t.now in
    asked_lengths c.args.t.now.radios t c.args.others _ c.in-Err.ensures _ _ (refused_not c.in-Err.refusal)

pub is_sound-requires : goal.is_sound-requires
is_sound-requires c =
    let t = read_of c.args.t.now in
    asked_sizes c.args.t.now.radios t c.args.others _ c.in_default.ensures refl _ _ (omega (arith, c.requires.0)) (omega (arith, c.requires.1))

pub returns-then-not-is_sound : goal.returns-then-not-is_sound
returns-then-not-is_sound c =
    let t = read_of c.args.t.now in
    asked_no c.args.t.now.radios t c.args.others _ c.in_default.ensures refl _ _ _ c.is_sound.ensures (c.if-not-is_sound.true)

pub returns : goal.returns
returns c =
    let t = read_of c.args.t.now in
    asked_yes c.args.t.now.radios t c.args.others _ c.in_default.ensures refl _ _ _ c.is_sound.ensures (c.if-not-is_sound.false)
