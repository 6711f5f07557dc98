-- `table::mark_block` meets its contract: the block's links passed are marked.
use Rattle.std.specs.Prelude.{◌≡◌, ◌+◌, ◌*◌}
use Rattle.lists.specs.Kit.{◌∙◌, arith}
use Rattle.mesh.specs.Image.{block_links}
use Rattle.image_reader.proofs.{BlockLaws.{link_in, link_inside, link_index}, TallyLaws.{proper_pair}, TableWritten.{linking_at}}
use Rattle.image_reader.proofs.{TableWritten.{linking_turn, rows_there}}
use Rattle.image_reader.proofs.table.mark_block.Goals as goal

pub word_at-a-requires : goal.word_at-a-requires
word_at-a-requires c =
    omega (arith, link_inside _ _ _ _ _ c.part_of-part.ensures _ _ c.requires.room.whole c.requires.there c.loop-i-test.true)

pub word_at-b-requires : goal.word_at-b-requires
word_at-b-requires c =
    omega (arith, link_inside _ _ _ _ _ c.part_of-part.ensures _ _ c.requires.room.whole c.requires.there c.loop-i-test.true)

pub set_link-requires : goal.set_link-requires
set_link-requires c =
    let pair = link_in _ _ _ _ _ c.part_of-part.ensures _ _ _ _ c.loop-i-test.true c.word_at-a.ensures.0 c.word_at-b.ensures.0 in
    let index = link_index _ _ _ _ _ c.part_of-part.ensures _ c.loop-i-test.true in
    let good = proper_pair _ _ _ _ _ _ c.requires.room.is_proper index pair in
    (good.0, omega (arith, c.requires.room.most), rows_there _ _ _ _ _ c.loop-i.invariant.2 good.1)

pub loop-i-preserved : goal.loop-i-preserved
loop-i-preserved c =
    let pair = link_in _ _ _ _ _ c.part_of-part.ensures _ _ _ _ c.loop-i-test.true c.word_at-a.ensures.0 c.word_at-b.ensures.0 in
    let index = link_index _ _ _ _ _ c.part_of-part.ensures _ c.loop-i-test.true in
    let e : block_links * c.args.q + c.loop-i.i + 1 ≡ block_links * c.args.q + (c.loop-i.i + 1) = omega arith in (
      omega arith,
      c.set_link.auto.links ∙ c.loop-i.invariant.1,
      linking_at _ _ _ _ _
          (linking_turn _ _ _ _ _ _ _ _ c.requires.room.most c.requires.room.is_proper index pair c.loop-i.invariant.2 c.set_link.ensures)
          e,
    )
