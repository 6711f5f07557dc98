-- `site::read_order` meets its contract: the blocks passed are read.
use Rattle.std.specs.Prelude.{◌≡◌, ◌*◌}
use Rattle.lists.specs.Kit.{min, arith, length}
use Rattle.mesh.specs.Image.{block_entries, order_blocks, blocks_for}
use Rattle.image_reader.proofs.{ListedLaws.{order_at, order_whole}}
use Rattle.image_reader.proofs.site.read_order.Goals as goal

pub order_block-requires : goal.order_block-requires
unfolding order_blocks blocks_for
order_block-requires c =
    let e : min (length c.args.order.now) (block_entries * c.loop-q.q) ≡ min (length c.loop-q.order) (block_entries * c.loop-q.q) = omega arith in record {
      room = (
        omega (arith, c.requires.0),
        omega (arith, c.loop-q-test.true, c.blocks_for-end.ensures),
        omega (arith, c.requires.1, c.loop-q-test.true, c.blocks_for-end.ensures),
      );
      before = order_at c.args.image.now c.loop-q.order (min (length c.args.order.now) (block_entries * c.loop-q.q))
          (min (length c.loop-q.order) (block_entries * c.loop-q.q)) c.loop-q.invariant.1 e;
    }

pub returns : goal.returns
unfolding blocks_for
returns c =
    let e : min (length c.args.order.now) (block_entries * c.loop-q.q) ≡ length c.args.order.now =
    omega (arith, c.loop-q.invariant.0, c.loop-q-test.false, c.blocks_for-end.ensures) in
    order_whole c.args.image.now c.loop-q.order (length c.args.order.now) c.loop-q.invariant.0
    (order_at c.args.image.now c.loop-q.order (min (length c.args.order.now) (block_entries * c.loop-q.q)) (length c.args.order.now) c.loop-q.invariant.1 e)
