-- `printing::put_numbers_line` meets its contract: one text after another.
use Rattle.calls.specs.Replay.{numbers_line}
use Rattle.text.{specs.Text.{printed_line}, proofs.PrintLaws.{puts_append}}
use Rattle.script.proofs.printing.put_numbers_line.Goals as goal

pub returns : goal.returns
unfolding numbers_line printed_line
returns c = puts_append c.put_text-place.ensures c.put_fields.ensures
