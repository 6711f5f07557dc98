-- `answers::put_check` meets its contract: one text after another.
use Rattle.text.proofs.PrintLaws.{puts_append}
use Rattle.site_program.specs.Texts.{accepted_line}
use Rattle.site_program.proofs.answers.put_check.Goals as goal

pub returns : goal.returns
unfolding accepted_line
returns c = puts_append c.put_text-word.ensures (puts_append c.put_decimal-size.ensures c.put_text.ensures)
