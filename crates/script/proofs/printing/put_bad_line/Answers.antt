-- `printing::put_bad_line` meets its contract: one text after another.
use Rattle.calls.specs.Replay.{bad_line}
use Rattle.text.{specs.Text.{printed_line, further_fields}, proofs.PrintLaws.{puts_append}}
use Rattle.script.proofs.printing.put_bad_line.Goals as goal

pub returns : goal.returns
unfolding bad_line printed_line further_fields
returns c =
    puts_append c.put_text-after_word.ensures
    (puts_append c.put_field-after_line.ensures c.put_byte.ensures)
