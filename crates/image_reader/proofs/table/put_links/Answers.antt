-- `table::put_links` meets its contract: the blocks passed are marked.
use Rattle.lists.specs.Kit.{refl, sym}
use Rattle.image_reader.proofs.{BlockLaws.{block_there, passed_none, passed_all}, TableWritten.{linking_none, linking_at}}
use Rattle.image_reader.proofs.table.put_links.Goals as goal

pub loop-q-init : goal.loop-q-init
loop-q-init c = (refl, linking_at _ _ _ _ _ (linking_none _ _ c.args.links.now _ c.requires.1 c.fill.ensures) (sym (passed_none _)))

pub mark_block-requires-clause-there : goal.mark_block-requires-clause-there
mark_block-requires-clause-there c = block_there _ _ _ c.blocks_for-end.ensures c.loop-q-test.true

pub returns : goal.returns
returns c = linking_at _ _ _ _ _ c.loop-q.invariant.1 (passed_all _ _ _ c.blocks_for-end.ensures c.loop-q-test.false)
