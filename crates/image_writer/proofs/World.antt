-- The functions that other crates call, as they stand in a linked program: the crate's table of names and codes, and that each has its code there,
-- with the code of all that it calls, where this table and those of the crates below stand in it. Written by tools/worlds.
use mathlib.Core.Bool.{true}
use prog.{Linked.{Tree, World, Holds, in_world}, LinkedThreads.{HasT}}
use Rattle.image_writer.proofs.TheLink as link
use Rattle.image_writer.proofs.writer.write.Symbol as writer_write
use Rattle.image.proofs.World as image
use Rattle.rows.proofs.World as rows
use Rattle.soundness.proofs.World as soundness
use Rattle.tables.proofs.World as tables

abbrev pub table : Tree
table = link.table

-- the tables that stand in it
abbrev pub Stand : World → Type 0
Stand W = Holds W "image_writer" table × image.Stand W × rows.Stand W × soundness.Stand W × tables.Stand W

below : (W : World) → Stand W → link.Below W
below W h = (
  image.has_checks_check_sum W h.1,
  (
    image.has_layout_Kind_byte W h.1,
    (
      image.has_layout_block_count W h.1,
      (
        image.has_layout_blocks_for W h.1,
        (
          rows.has_link_list_count_links W h.2,
          (
            rows.has_word_of W h.2,
            (
              soundness.has_ask W h.3,
              (tables.has_fill_U8Entry_is W h.4, (tables.has_fill_U8Entry_set W h.4, (tables.has_fill_fill W h.4, (tables.has_fill_least W h.4, tt)))),
            ),
          ),
        ),
      ),
    ),
  ),
)

pub has_writer_write : (W : World) → Stand W → HasT (in_world W) true writer_write.code
has_writer_write W h = link.linked-image_writer::writer::write W h.0 (below W h)
