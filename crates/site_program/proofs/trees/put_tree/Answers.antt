-- `trees::put_tree` meets its contract: the nodes' lines and the line of the radios.
use Rattle.text.{specs.Text.{printed_line}, proofs.PrintLaws.{puts_append}}
use Rattle.site_program.specs.Texts.{radios_line}
use Rattle.site_program.proofs.trees.put_tree.Goals as goal

pub returns : goal.returns
unfolding radios_line printed_line
returns c = puts_append c.put_nodes-lines.ensures (puts_append c.put_text-word.ensures c.put_fields.ensures)
