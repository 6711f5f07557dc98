-- The functions that other crates call, as they stand in a linked program: the crate's table of names and codes, and that each has its code there,
-- with the code of all that it calls, where this table and those of the crates below stand in it. Written by tools/worlds.
use mathlib.Core.Bool.{true}
use prog.{Linked.{Tree, World, Holds, in_world}, LinkedThreads.{HasT}}
use Rattle.image_reader.proofs.TheLink as link
use Rattle.image_reader.proofs.reader.ask.Symbol as reader_ask
use Rattle.image_reader.proofs.reader.read.Symbol as reader_read
use Rattle.image.proofs.World as image
use Rattle.soundness.proofs.World as soundness
use Rattle.tables.proofs.World as tables

abbrev pub table : Tree
table = link.table

-- the tables that stand in it
abbrev pub Stand : World → Type 0
Stand W = Holds W "image_reader" table × image.Stand W × soundness.Stand W × tables.Stand W

below : (W : World) → Stand W → link.Below W
below W h = (
  image.has_bytes_long_at W h.1,
  (
    image.has_bytes_word_at W h.1,
    (
      image.has_checks_ask W h.1,
      (
        image.has_form_is_formed W h.1,
        (
          image.has_header_header_of W h.1,
          (
            image.has_layout_blocks_for W h.1,
            (
              soundness.has_places_of W h.2,
              (
                tables.has_fill_U16Entry_is W h.3,
                (
                  tables.has_fill_U16Entry_set W h.3,
                  (
                    tables.has_fill_U8Entry_is W h.3,
                    (
                      tables.has_fill_U8Entry_set W h.3,
                      (
                        tables.has_fill_copy W h.3,
                        (tables.has_fill_fill W h.3, (tables.has_fill_least W h.3, (tables.has_sizes_ask W h.3, (tables.has_sizes_is_size W h.3, tt)))),
                      ),
                    ),
                  ),
                ),
              ),
            ),
          ),
        ),
      ),
    ),
  ),
)

pub has_reader_ask : (W : World) → Stand W → HasT (in_world W) true reader_ask.code
has_reader_ask W h = link.linked-image_reader::reader::ask W h.0 (below W h)

pub has_reader_read : (W : World) → Stand W → HasT (in_world W) true reader_read.code
has_reader_read W h = link.linked-image_reader::reader::read W h.0 (below W h)
