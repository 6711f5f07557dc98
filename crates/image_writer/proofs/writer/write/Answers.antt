-- `writer::write` meets its contract: a refusal touches nothing; accepted, the blocks of links are filled in, and then the ones before them.
use Rattle.std.specs.Prelude.{◌+◌}
use Rattle.lists.specs.Kit.{refl, sym, ap, ◌∙◌, ℕ, arith, leb-true, leb-false}
use Rattle.calls.proofs.AnswerLaws.{refused_not}
use Rattle.mesh.specs.Image.{order_blocks, blocks_for}
use Rattle.image_writer.proofs.WriteLaws.{write_refused, write_small, write_order, write_rows, write_most, write_no_room, write_fit, write_length, write_done}
use Rattle.image_writer.proofs.writer.write.Goals as goal

pub returns-in-Err : goal.returns-in-Err
returns-in-Err c = write_refused _ _ _ _ c.in-Err.ensures (refused_not c.in-Err.refusal)

pub has_room-requires : goal.has_room-requires
has_room-requires c =
    (write_rows _ _ c.args.buffer.now (sym c.in_default.ensures), write_most _ _ c.args.buffer.now (sym c.in_default.ensures))

pub returns-then-not-has_room : goal.returns-then-not-has_room
returns-then-not-has_room c =
    write_no_room _ _ _ (sym c.in_default.ensures) _ refl (leb-false _ _ (sym c.has_room.ensures ∙ c.if-not-has_room.true))

pub overflow_add-first : goal.overflow_add-first
unfolding blocks_for
overflow_add-first c = omega (arith, c.blocks_for-first.ensures, write_small _ _ c.args.buffer.now (sym c.in_default.ensures))

pub fill_link_blocks-ended-requires : goal.fill_link_blocks-ended-requires
unfolding order_blocks
fill_link_blocks-ended-requires c =
    write_fit _ _ c.args.buffer.now (sym c.in_default.ensures) _ (ap (λ (k : ℕ). 1 + k) c.blocks_for-first.ensures)
    (leb-true _ _ (sym c.has_room.ensures ∙ c.if-not-has_room.false))

pub fill_blocks-requires : goal.fill_blocks-requires
unfolding order_blocks
fill_blocks-requires c =
    let good = sym c.in_default.ensures in
    let first_is = ap (λ (k : ℕ). 1 + k) c.blocks_for-first.ensures in
    let fit = write_fit _ _ c.args.buffer.now good _ first_is (leb-true _ _ (sym c.has_room.ensures ∙ c.if-not-has_room.false)) in (
      omega (arith, fit.fits, c.fill_link_blocks-ended.ensures.long),
      write_order _ _ c.args.buffer.now good,
      first_is,
      write_small _ _ c.args.buffer.now good,
    )

pub overflow_mul-result : goal.overflow_mul-result
unfolding order_blocks
overflow_mul-result c =
    let first_is = ap (λ (k : ℕ). 1 + k) c.blocks_for-first.ensures in
    omega (
      arith,
      write_length _ _ c.args.buffer.now (sym c.in_default.ensures) _ first_is (leb-true _ _ (sym c.has_room.ensures ∙ c.if-not-has_room.false)) _ _ _
          c.fill_link_blocks-ended.ensures,
    )

pub returns : goal.returns
unfolding order_blocks
returns c =
    let first_is = ap (λ (k : ℕ). 1 + k) c.blocks_for-first.ensures in
    write_done _ _ _ (sym c.in_default.ensures) _ first_is (leb-true _ _ (sym c.has_room.ensures ∙ c.if-not-has_room.false)) _ _ _
    c.fill_link_blocks-ended.ensures _ c.fill_blocks.ensures
