-- `length` meets its contract: refused by 1 to 3; else the script of sound tables is measured.
use Rattle.lists.specs.Kit.{sym, arith}
use Rattle.mesh.specs.Lent.{read_of}
use Rattle.calls.proofs.AnswerLaws.{refused_not}
use Rattle.script.proofs.ScriptOutcomes.{length_refused, rows_good, script_short, length_answered}
use Rattle.script.proofs.writer.length.Goals as goal

pub returns-in-Err : goal.returns-in-Err
returns-in-Err c =
    length_refused c.args.t.now.radios (read_of c.args.t.now) _ c.in-Err.ensures (refused_not c.in-Err.refusal)

pub measure-requires : goal.measure-requires
measure-requires c =
    let t = read_of c.args.t.now in
    record { listed = rows_good c.args.t.now.radios t (sym c.in_default.ensures); short = script_short c.args.t.now.radios t (sym c.in_default.ensures) }

pub overflow_cast-result : goal.overflow_cast-result
overflow_cast-result c =
    let t = read_of c.args.t.now in
    omega (arith, c.measure.ensures, script_short c.args.t.now.radios t (sym c.in_default.ensures))

pub returns : goal.returns
returns c =
    let t = read_of c.args.t.now in
    length_answered c.args.t.now.radios t (sym c.in_default.ensures) _ c.measure.ensures
