-- `blocks::order_block` meets its contract: the block's entries passed are read.
use Rattle.std.specs.Prelude.{◌≡◌, ◌+◌, ◌*◌, ◌%◌, ◌<◌}
use Rattle.lists.specs.Kit.{◌∙◌, arith, length, set, length-set}
use Rattle.mesh.specs.Image.{block_entries}
use Rattle.image_reader.proofs.{ListedLaws.{order_at, order_in, order_turn}}
use Rattle.image_reader.proofs.blocks.order_block.Goals as goal

pub loop-i-preserved : goal.loop-i-preserved
loop-i-preserved c =
    let here : c.loop-i.i < block_entries = omega (arith, c.least-count.ensures, c.loop-i-test.true) in
    let room : block_entries * c.args.q + c.loop-i.i < length c.loop-i.order = omega (arith, c.least-count.ensures, c.loop-i-test.true, c.loop-i.invariant.1) in
    let e : block_entries * c.args.q + c.loop-i.i + 1 ≡ block_entries * c.args.q + (c.loop-i.i + 1) = omega arith in (
      omega arith,
      length-set c.loop-i.order (block_entries * c.args.q + c.loop-i.i) (c.word_at-x.result % 65536) ∙ c.loop-i.invariant.1,
      order_at c.args.image.now (set c.loop-i.order (block_entries * c.args.q + c.loop-i.i) (c.word_at-x.result % 65536)) (block_entries * c.args.q + c.loop-i.i + 1) (block_entries * c.args.q + (c.loop-i.i + 1))
          (order_turn c.args.image.now c.loop-i.order (block_entries * c.args.q + c.loop-i.i) c.word_at-x.result c.loop-i.invariant.2 room (order_in c.args.image.now c.args.q c.loop-i.i c.word_at-x.result here c.word_at-x.ensures.0) c.word_at-x.ensures.1)
          e,
    )
