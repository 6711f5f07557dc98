-- `printing::put_order_line` meets its contract: one text after another.
use Rattle.calls.specs.Replay.{order_line}
use Rattle.text.{specs.Text.{printed_line}, proofs.PrintLaws.{puts_append}}
use Rattle.script.proofs.printing.put_order_line.Goals as goal

pub returns : goal.returns
unfolding order_line printed_line
returns c = puts_append c.put_text-place.ensures c.put_fields.ensures
