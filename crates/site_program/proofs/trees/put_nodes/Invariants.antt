-- `trees::put_nodes` meets its contract: the lines that are left take the buffer where all lines take the lent one.
use Rattle.lists.specs.Kit.{drop}
use Rattle.text.{specs.Print.{buffer_at}, proofs.PrintLaws.{Putting}}
use Rattle.site_program.specs.Texts.{node_lines}
use Rattle.site_program.proofs.trees.put_nodes.Given as goal

abbrev pub invariant-loop-i : goal.invariant-loop-i
invariant-loop-i l = Putting (buffer_at l.initial.out 0) (node_lines l.nodes) (buffer_at l.out l.place) (node_lines (drop l.i l.nodes))
