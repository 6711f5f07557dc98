-- `refusals::put_script` meets its contract: one text after another.
use Rattle.text.proofs.PrintLaws.{puts_append}
use Rattle.site_program.specs.Errors.{script_text}
use Rattle.site_program.proofs.refusals.put_script.Goals as goal

pub returns : goal.returns
unfolding script_text
returns c =
    puts_append c.put_text-word.ensures (puts_append c.put_field-digits.ensures
    (puts_append c.put_text-colon.ensures c.put_line.ensures))
