-- The functions that other crates call, as they stand in a linked program: the crate's table of names and codes, and that each has its code there,
-- with the code of all that it calls, where this table and those of the crates below stand in it. Written by tools/worlds.
use mathlib.Core.Bool.{true}
use prog.{Linked.{Tree, World, Holds, in_world}, LinkedThreads.{HasT}}
use Rattle.script.proofs.TheLink as link
use Rattle.script.proofs.writer.length.Symbol as writer_length
use Rattle.script.proofs.writer.write.Symbol as writer_write
use Rattle.rows.proofs.World as rows
use Rattle.soundness.proofs.World as soundness
use Rattle.tables.proofs.World as tables
use Rattle.text.proofs.World as text

abbrev pub table : Tree
table = link.table

-- the tables that stand in it
abbrev pub Stand : World → Type 0
Stand W = Holds W "script" table × rows.Stand W × soundness.Stand W × tables.Stand W × text.Stand W

below : (W : World) → Stand W → link.Below W
below W h = (
  rows.has_row_above W h.1,
  (
    soundness.has_ask W h.2,
    (
      tables.has_fill_U8Entry_is W h.3,
      (
        tables.has_fill_U8Entry_set W h.3,
        (
          tables.has_fill_copy W h.3,
          (
            text.has_U16Field_wide W h.4,
            (
              text.has_U8Field_wide W h.4,
              (
                text.has_put_byte W h.4,
                (text.has_put_decimal W h.4, (text.has_put_field W h.4, (text.has_put_fields W h.4, (text.has_put_text W h.4, tt)))),
              ),
            ),
          ),
        ),
      ),
    ),
  ),
)

pub has_writer_length : (W : World) → Stand W → HasT (in_world W) true writer_length.code
has_writer_length W h = link.linked-script::writer::length W h.0 (below W h)

pub has_writer_write : (W : World) → Stand W → HasT (in_world W) true writer_write.code
has_writer_write W h = link.linked-script::writer::write W h.0 (below W h)
