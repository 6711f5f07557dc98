-- `refusals::put_image` meets its contract: one text after another.
use Rattle.text.proofs.PrintLaws.{puts_append}
use Rattle.site_program.specs.Errors.{image_text}
use Rattle.site_program.proofs.refusals.put_image.Goals as goal

pub returns : goal.returns
unfolding image_text
returns c =
    puts_append c.put_text-word.ensures (puts_append c.put_text-named.ensures (puts_append c.put_field-digits.ensures
    (puts_append c.put_text-colon.ensures (rw c.from.ensures at c.put_refused.ensures))))
