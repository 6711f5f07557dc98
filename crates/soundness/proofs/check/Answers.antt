-- `soundness::check` meets its contract: the third question is the value, and not a refusal.
use Rattle.lists.specs.Kit.{sym, arith}
use Rattle.mesh.specs.Lent.{read_of}
use Rattle.calls.proofs.AnswerLaws.{refused_not}
use Rattle.soundness.proofs.CheckLaws.{check_refused, check_sizes, check_answered}
use Rattle.soundness.proofs.check.Goals as goal

pub returns-in-Err : goal.returns-in-Err
returns-in-Err c = check_refused c.args.t.now.radios (read_of c.args.t.now) _ c.in-Err.ensures (refused_not c.in-Err.refusal)

pub is_sound-requires : goal.is_sound-requires
is_sound-requires c = check_sizes c.args.t.now.radios (read_of c.args.t.now) (sym c.in_default.ensures) _ _ (omega arith) (omega arith)

pub returns : goal.returns
returns c = check_answered c.args.t.now.radios (read_of c.args.t.now) (sym c.in_default.ensures) _ c.is_sound.ensures.answer
