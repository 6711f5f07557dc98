-- `sheet` meets its contract: a refusal touches nothing; accepted, the numbers have at most two digits, and the lines are put.
use Rattle.std.specs.Prelude.{◌*◌}
use Rattle.lists.specs.Kit.{sym, ap, ℕ, arith}
use Rattle.mesh.specs.Lent.{read_of}
use Rattle.calls.{specs.Sheet.{line_bytes, sheet_lines}, proofs.AnswerLaws.{refused_not}}
use Rattle.sheet.proofs.{SheetOutcomes.{sheet_refused, sheet_small, sheet_cells_fit, sheet_room, sheet_no_room, sheet_accepted}}
use Rattle.sheet.proofs.sheet.Goals as goal

pub returns-in-Err : goal.returns-in-Err
returns-in-Err c =
    sheet_refused c.args.t.now.radios (read_of c.args.t.now) c.args.page.now _ c.in-Err.ensures (refused_not c.in-Err.refusal)

pub lines-requires : goal.lines-requires
lines-requires c = omega (arith, sheet_small c.args.t.now.radios (read_of c.args.t.now) c.args.page.now (sym c.in_default.ensures))

pub overflow_mul-size : goal.overflow_mul-size
unfolding sheet_lines
overflow_mul-size c =
    omega (arith, c.lines.ensures, sheet_small c.args.t.now.radios (read_of c.args.t.now) c.args.page.now (sym c.in_default.ensures))

pub returns-then-page-size : goal.returns-then-page-size
returns-then-page-size c =
    sheet_no_room c.args.t.now.radios (read_of c.args.t.now) c.args.page.now (sym c.in_default.ensures) _
    (ap (λ (k : ℕ). line_bytes * k) c.lines.ensures) c.if-page-size.true

pub put_sheet-requires : goal.put_sheet-requires
put_sheet-requires c =
    let none = sym c.in_default.ensures in
    record {
      fit = sheet_cells_fit c.args.t.now.radios (read_of c.args.t.now) c.args.page.now none;
      room = sheet_room c.args.t.now.radios (read_of c.args.t.now) c.args.page.now none _ (ap (λ (k : ℕ). line_bytes * k) c.lines.ensures)
          c.if-page-size.false;
    }

pub overflow_cast-result : goal.overflow_cast-result
unfolding sheet_lines
overflow_cast-result c =
    omega (arith, c.lines.ensures, sheet_small c.args.t.now.radios (read_of c.args.t.now) c.args.page.now (sym c.in_default.ensures))

pub returns : goal.returns
returns c =
    sheet_accepted c.args.t.now.radios (read_of c.args.t.now) c.args.page.now (sym c.in_default.ensures)
    _ (ap (λ (k : ℕ). line_bytes * k) c.lines.ensures) _ c.if-page-size.false (omega arith) c.put_sheet.ensures
