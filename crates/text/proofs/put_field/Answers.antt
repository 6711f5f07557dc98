-- `text::put_field` meets its contract: one text after another.
use Rattle.text.proofs.{PrintLaws.{puts_append}}
use Rattle.text.proofs.put_field.Goals as goal

pub returns : goal.returns
returns c = puts_append c.put_byte-place.ensures c.put_decimal.ensures
