-- `site::count_links` meets its contract: the blocks passed are counted in both tables.
use Rattle.lists.specs.Kit.{refl, arith, length}
use Rattle.image_reader.proofs.{BlockLaws.{block_there, passed_none, passed_all}, TallyLaws.{tallied_none, tallied_at}}
use Rattle.image_reader.proofs.site.count_links.Goals as goal

pub loop-q-init : goal.loop-q-init
loop-q-init c = (
  refl,
  refl,
  tallied_none _ _ _ _ _ (length c.args.counts.now) _ (omega (arith, c.requires.room.counted)) c.fill.ensures (passed_none _),
  tallied_none _ _ _ _ _ (length c.args.later.now) _ (omega (arith, c.requires.later_long)) c.fill-2.ensures (passed_none _),
)

pub count_block-requires-clause-there : goal.count_block-requires-clause-there
count_block-requires-clause-there c = block_there _ _ _ c.blocks_for-end.ensures c.loop-q-test.true

pub returns : goal.returns
returns c =
    let e = passed_all _ _ _ c.blocks_for-end.ensures c.loop-q-test.false in
    (tallied_at _ _ _ _ _ _ _ c.loop-q.invariant.2 e, tallied_at _ _ _ _ _ _ _ c.loop-q.invariant.3 e)
