-- `faults::put_line` meets its contract: one text after another.
use Rattle.text.proofs.PrintLaws.{puts_append}
use Rattle.player.proofs.faults.put_line.Goals as goal

pub returns : goal.returns
returns c =
    puts_append c.put_text-name.ensures (puts_append c.put_text-colon.ensures (puts_append c.put_text-said.ensures c.put_text.ensures))
