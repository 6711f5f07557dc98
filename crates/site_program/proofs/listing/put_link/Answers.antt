-- `listing::put_link` meets its contract: one text after another.
use Rattle.text.{specs.Text.{printed_line, further_fields}, proofs.PrintLaws.{puts_append}}
use Rattle.site_program.proofs.listing.put_link.Goals as goal

pub returns : goal.returns
unfolding printed_line further_fields
returns c =
    puts_append c.put_text-after_word.ensures
    (puts_append c.put_field-after_a.ensures (puts_append c.put_field-after_b.ensures c.put_byte.ensures))
