-- `put_refused` meets its contract: one text after another.
use Rattle.text.proofs.PrintLaws.{puts_append}
use Rattle.site_program.specs.Words.{refused_text}
use Rattle.site_program.proofs.words.put_refused.Goals as goal

pub returns : goal.returns
unfolding refused_text
returns c =
    puts_append c.put_text-word.ensures (puts_append c.put_field-digits.ensures
    (puts_append c.put_text-colon.ensures c.put_words.ensures))
