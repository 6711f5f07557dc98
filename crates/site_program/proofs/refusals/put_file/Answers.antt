-- `refusals::put_file` meets its contract: one text after another.
use Rattle.text.proofs.PrintLaws.{puts_append}
use Rattle.site_program.specs.Errors.{file_words}
use Rattle.site_program.proofs.refusals.put_file.Goals as goal

pub returns : goal.returns
unfolding file_words
returns c =
    puts_append c.put_text-word.ensures (puts_append c.put_text-said.ensures
    (puts_append c.put_text-again.ensures c.put_text.ensures))
