-- `nodes::name_all` meets its contract: what is left of the list gives what all of it gives (`Folding`).
use Rattle.lists.proofs.Loops.{folding_turn, folding_end}
use Rattle.tree.specs.Trees.{entries_set}
use Rattle.tree.proofs.nodes.name_all.Goals as goal

pub loop-w-preserved : goal.loop-w-preserved
loop-w-preserved c =
    folding_turn _ c.args.list.now c.args.answer.now c.loop-w.answer _ c.loop-w.w-index c.loop-w.invariant c.loop-w-test.true
    c.put16.ensures

pub returns : goal.returns
unfolding entries_set
returns c = folding_end _ c.args.list.now c.args.answer.now _ c.loop-w.w-index c.loop-w.invariant c.loop-w-test.false
