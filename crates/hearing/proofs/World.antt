-- The functions that other crates call, as they stand in a linked program: the crate's table of names and codes, and that each has its code there,
-- with the code of all that it calls, where this table and those of the crates below stand in it. Written by tools/worlds.
use mathlib.Core.Bool.{true}
use prog.{Linked.{Tree, World, Holds, in_world}, LinkedThreads.{HasT}}
use Rattle.hearing.proofs.TheLink as link
use Rattle.hearing.proofs.hear.hear.Symbol as hear_hear
use Rattle.links.proofs.World as links
use Rattle.rows.proofs.World as rows
use Rattle.soundness.proofs.World as soundness
use Rattle.tables.proofs.World as tables

abbrev pub table : Tree
table = link.table

-- the tables that stand in it
abbrev pub Stand : World → Type 0
Stand W = Holds W "hearing" table × links.Stand W × rows.Stand W × soundness.Stand W × tables.Stand W

below : (W : World) → Stand W → link.Below W
below W h = (
  links.has_step_step W h.1,
  (
    rows.has_is_marked W h.2,
    (
      rows.has_put_bit W h.2,
      (
        rows.has_row_degree W h.2,
        (
          rows.has_word_of W h.2,
          (
            soundness.has_Found_new W h.3,
            (
              soundness.has_asked W h.3,
              (
                tables.has_fill_U8Entry_is W h.4,
                (
                  tables.has_fill_U8Entry_set W h.4,
                  (tables.has_fill_fill W h.4, tt),
                ),
              ),
            ),
          ),
        ),
      ),
    ),
  ),
)

pub has_hear_hear : (W : World) → Stand W → HasT (in_world W) true hear_hear.code
has_hear_hear W h = link.linked-hearing::hear::hear W h.0 (below W h)
