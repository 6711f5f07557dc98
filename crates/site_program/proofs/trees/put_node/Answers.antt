-- `trees::put_node` meets its contract: one text after another.
use Rattle.text.{specs.Text.{printed_line, further_fields}, proofs.PrintLaws.{puts_append}}
use Rattle.site_program.specs.Texts.{node_line}
use Rattle.site_program.proofs.trees.put_node.Goals as goal

pub returns : goal.returns
unfolding node_line printed_line further_fields
returns c =
    puts_append c.put_text-after_word.ensures
    (puts_append c.put_field-after_name.ensures (puts_append c.put_field-after_level.ensures (puts_append c.put_field-after_parent.ensures c.put_byte.ensures)))
