-- Every worked cell and every worked sheet is right: computed.
use Rattle.std.specs.Prelude.{◌≡◌}
use Rattle.lists.specs.{Kit.{refl, true, flat_map}, Lists.{range, same}}
use Rattle.text.specs.Text.{digit_byte, digits_in, decimal}
use Rattle.calls.specs.{Sheet.{right_aligned, filled, cell, cells, sheet_line, sheet_lines, sheet}, SheetCases.{cell_good, cells_good, cell_cases}}
use Rattle.calls.specs.{SheetCases.{sheet_good, sheets_good, sheet_cases}}

pub cells_right : cells_good cell_cases ≡ true
unfolding cell_cases cells_good cell_good same cell right_aligned decimal digits_in digit_byte
cells_right = refl

pub sheets_right : sheets_good sheet_cases ≡ true
unfolding sheet_cases sheets_good sheet_good same sheet sheet_lines sheet_line filled cells cell right_aligned decimal digits_in digit_byte range flat_map
sheets_right = refl
