-- `site::are_listed` meets its contract: what the blocks passed and the rest decide is what all links decide.
use Rattle.lists.specs.Kit.{sym}
use Rattle.image_reader.proofs.{BlockLaws.{block_there, passed_none, passed_all}, ListedLaws.{listed_none, listed_at, listed_end}}
use Rattle.image_reader.proofs.site.are_listed.Goals as goal

pub loop-q-init : goal.loop-q-init
loop-q-init c = listed_at _ _ _ _ _ _ _ (listed_none _ _ _) (sym (passed_none _))

pub list_block-last-requires-clause-there : goal.list_block-last-requires-clause-there
list_block-last-requires-clause-there c = block_there _ _ _ c.blocks_for-end.ensures c.loop-q-test.true

pub returns : goal.returns
returns c = listed_end _ _ _ _ _ _ c.loop-q.invariant (passed_all _ _ _ c.blocks_for-end.ensures c.loop-q-test.false)
