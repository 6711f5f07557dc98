-- `write` meets its contract: a refusal touches nothing; accepted, the script that was measured is put.
use Rattle.lists.specs.Kit.{sym, arith}
use Rattle.mesh.specs.Lent.{read_of}
use Rattle.calls.proofs.AnswerLaws.{refused_not}
use Rattle.script.proofs.ScriptOutcomes.{write_refused, rows_good, script_short, write_no_room, write_accepted}
use Rattle.script.proofs.writer.write.Goals as goal

pub returns-in-Err : goal.returns-in-Err
returns-in-Err c =
    write_refused c.args.t.now.radios (read_of c.args.t.now) c.args.buffer.now _ c.in-Err.ensures (refused_not c.in-Err.refusal)

pub measure-size-requires : goal.measure-size-requires
measure-size-requires c =
    let t = read_of c.args.t.now in
    record { listed = rows_good c.args.t.now.radios t (sym c.in_default.ensures); short = script_short c.args.t.now.radios t (sym c.in_default.ensures) }

pub returns-then-buffer-size : goal.returns-then-buffer-size
returns-then-buffer-size c =
    write_no_room c.args.t.now.radios (read_of c.args.t.now) (sym c.in_default.ensures) _
    c.measure-size.ensures c.args.buffer.now c.if-buffer-size.true

pub put_script-requires : goal.put_script-requires
put_script-requires c =
    let t = read_of c.args.t.now in
    record { listed = rows_good c.args.t.now.radios t (sym c.in_default.ensures); room = omega (arith, c.measure-size.ensures, c.if-buffer-size.false) }

pub overflow_cast-result : goal.overflow_cast-result
overflow_cast-result c =
    let t = read_of c.args.t.now in
    omega (arith, c.measure-size.ensures, script_short c.args.t.now.radios t (sym c.in_default.ensures))

pub returns : goal.returns
returns c =
    write_accepted c.args.t.now.radios (read_of c.args.t.now) (sym c.in_default.ensures) _
    c.measure-size.ensures c.args.buffer.now _ _ c.if-buffer-size.false (omega arith)
    c.put_script.ensures
