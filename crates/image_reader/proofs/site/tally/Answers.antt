-- `site::tally` meets its contract: the blocks passed are counted.
use Rattle.lists.specs.Kit.{refl, arith, length}
use Rattle.image_reader.proofs.{BlockLaws.{block_there, passed_none, passed_all}, TallyLaws.{tallied_none, tallied_at}}
use Rattle.image_reader.proofs.site.tally.Goals as goal

pub loop-q-init : goal.loop-q-init
loop-q-init c =
    (refl, tallied_none _ _ _ _ _ (length c.args.counts.now) _ (omega (arith, c.requires.counted)) c.fill.ensures (passed_none _))

pub tally_block-requires-clause-there : goal.tally_block-requires-clause-there
tally_block-requires-clause-there c = block_there _ _ _ c.blocks_for-end.ensures c.loop-q-test.true

pub returns : goal.returns
returns c = tallied_at _ _ _ _ _ _ _ c.loop-q.invariant.1 (passed_all _ _ _ c.blocks_for-end.ensures c.loop-q-test.false)
