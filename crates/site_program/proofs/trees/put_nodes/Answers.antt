-- `trees::put_nodes` meets its contract: the lines that are left take the buffer where all lines take the lent one.
use Rattle.lists.specs.Kit.{refl}
use Rattle.text.proofs.PrintLaws.{putting_none, putting_piece, putting_end}
use Rattle.site_program.proofs.{LineLaws.{node_next, node_end}}
use Rattle.site_program.proofs.trees.put_nodes.Goals as goal

pub loop-i-init : goal.loop-i-init
loop-i-init c = putting_none

pub loop-i-preserved : goal.loop-i-preserved
loop-i-preserved c = putting_piece _ _ (node_next c.args.nodes.now c.loop-i.i _ _ c.loop-i-test.true refl) c.loop-i.invariant c.put_node-place.ensures

pub returns : goal.returns
returns c = putting_end c.loop-i.invariant (node_end c.args.nodes.now c.loop-i.i c.loop-i-test.false)
