-- `blocks::list_block` meets its contract: whether all links are listed well is what the links passed and the rest decide.
use Rattle.std.specs.Prelude.{◌≡◌, ◌+◌, ◌*◌}
use Rattle.lists.specs.Kit.{refl, arith}
use Rattle.mesh.specs.Image.{block_links}
use Rattle.image_reader.proofs.{BlockLaws.{link_in, link_inside, link_index}, ListedLaws.{listed_turn}}
use Rattle.image_reader.proofs.blocks.list_block.Goals as goal

pub long_at-x-requires : goal.long_at-x-requires
long_at-x-requires c = link_inside _ _ _ _ _ c.part_of-part.ensures _ _ c.requires.room.whole c.requires.there c.loop-i-test.true

pub loop-i-preserved : goal.loop-i-preserved
loop-i-preserved c =
    let e : block_links * c.args.q + c.loop-i.i + 1 ≡ block_links * c.args.q + (c.loop-i.i + 1) = omega arith in (
      omega arith,
      rw (e, ← c.is_next-good.ensures, ← c.key_of-key.ensures) at
          (listed_turn _ _ _ _ _ _ c.loop-i.invariant.1 (link_index _ _ _ _ _ c.part_of-part.ensures _ c.loop-i-test.true) _ _ _
          (link_in _ _ _ _ _ c.part_of-part.ensures _ _ _ _ c.loop-i-test.true refl refl)
          c.long_at-x.ensures.0 c.long_at-x.ensures.1 c.long_at-x.ensures.2),
    )
