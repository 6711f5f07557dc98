-- `form::shape_of` meets its contract: by the block's kind.
use Rattle.std.specs.Prelude.{◌-◌, ◌*◌}
use Rattle.lists.specs.Kit.{ap, ◌∙◌, ℕ, min, arith}
use Rattle.mesh.specs.Image.{block_links, order_blocks, block_count, blocks_for}
use Rattle.image.proofs.{FormLaws.{shape_counts, shape_order, shape_links, links_most}}
use Rattle.image.proofs.form.shape_of.Goals as goal

pub returns-then-i-eq0 : goal.returns-then-i-eq0
returns-then-i-eq0 c = let p = shape_counts _ _ _ c.if-i-eq0.true in (p.0, p.1, omega arith)

pub overflow_mul-left : goal.overflow_mul-left
unfolding order_blocks block_count blocks_for
overflow_mul-left c = omega (arith, c.blocks_for-orders.ensures)

pub overflow_sub-left : goal.overflow_sub-left
unfolding order_blocks block_count blocks_for
overflow_sub-left c = omega (arith, c.blocks_for-orders.ensures)

pub returns-then-j-orders : goal.returns-then-j-orders
unfolding order_blocks
returns-then-j-orders c =
    let p = shape_order c.args.header.radios c.args.header.links c.args.i (omega arith) (omega (arith, c.blocks_for-orders.ensures)) in
    (p.0, ap (λ (k : ℕ). 2 * k) c.least.ensures ∙ p.1, omega arith)

pub overflow_mul-left-2 : goal.overflow_mul-left-2
unfolding order_blocks block_count blocks_for
overflow_mul-left-2 c = omega (arith, c.blocks_for-orders.ensures)

pub overflow_sub-left-3 : goal.overflow_sub-left-3
unfolding order_blocks block_count blocks_for
overflow_sub-left-3 c = omega (arith, c.blocks_for-orders.ensures)

pub returns : goal.returns
unfolding order_blocks
returns c =
    let p = shape_links c.args.header.radios c.args.header.links c.args.i (omega arith) (omega (arith, c.blocks_for-orders.ensures)) in (
      p.0,
      ap (λ (k : ℕ). 4 * k) (c.least-2.ensures ∙ ap (λ (k : ℕ). min block_links (c.args.header.links - block_links * (c.args.i - 1 - k))) c.blocks_for-orders.ensures) ∙ p.1,
      links_most _ _
          c.least-2.ensures,
    )
