-- The functions that other crates call, as they stand in a linked program: the crate's table of names and codes, and that each has its code there,
-- with the code of all that it calls, where this table and those of the crates below stand in it. Written by tools/worlds.
use mathlib.Core.Bool.{true}
use prog.{Linked.{Tree, World, Holds, in_world}, LinkedThreads.{HasT}}
use Rattle.marks.proofs.TheLink as link
use Rattle.marks.proofs.come_back.Symbol as come_back
use Rattle.marks.proofs.remove.Symbol as remove
use Rattle.marks.proofs.set.Symbol as set
use Rattle.image.proofs.World as image
use Rattle.image_reader.proofs.World as image_reader
use Rattle.image_writer.proofs.World as image_writer
use Rattle.soundness.proofs.World as soundness
use Rattle.tables.proofs.World as tables

abbrev pub table : Tree
table = link.table

-- the tables that stand in it
abbrev pub Stand : World → Type 0
Stand W = Holds W "marks" table × image.Stand W × image_reader.Stand W × image_writer.Stand W × soundness.Stand W × tables.Stand W

below : (W : World) → Stand W → link.Below W
below W h = (
  image.has_header_header_of W h.1,
  (
    image.has_layout_block_count W h.1,
    (
      image_reader.has_reader_ask W h.2,
      (
        image_reader.has_reader_read W h.2,
        (
          image_writer.has_writer_write W h.3,
          (
            soundness.has_ask W h.4,
            (
              tables.has_fill_U8Entry_is W h.5,
              (tables.has_fill_U8Entry_set W h.5, (tables.has_fill_copy W h.5, (tables.has_fill_fill W h.5, (tables.has_fill_is_same W h.5, tt)))),
            ),
          ),
        ),
      ),
    ),
  ),
)

pub has_come_back : (W : World) → Stand W → HasT (in_world W) true come_back.code
has_come_back W h = link.linked-marks::come_back W h.0 (below W h)

pub has_remove : (W : World) → Stand W → HasT (in_world W) true remove.code
has_remove W h = link.linked-marks::remove W h.0 (below W h)

pub has_set : (W : World) → Stand W → HasT (in_world W) true set.code
has_set W h = link.linked-marks::set W h.0 (below W h)
