-- The functions that other crates call, as they stand in a linked program: the crate's table of names and codes, and that each has its code there,
-- with the code of all that it calls, where this table and those of the crates below stand in it. Written by tools/worlds.
use mathlib.Core.Bool.{true}
use prog.{Linked.{Tree, World, Holds, in_world}, LinkedThreads.{HasT}}
use Rattle.lift.proofs.TheLink as link
use Rattle.lift.proofs.lift.Symbol as lift
use Rattle.rows.proofs.World as rows
use Rattle.soundness.proofs.World as soundness

abbrev pub table : Tree
table = link.table

-- the tables that stand in it
abbrev pub Stand : World → Type 0
Stand W = Holds W "lift" table × rows.Stand W × soundness.Stand W

below : (W : World) → Stand W → link.Below W
below W h = (
  rows.has_is_marked W h.1,
  (
    rows.has_row_degree W h.1,
    (
      rows.has_row_neighbours W h.1,
      (
        rows.has_sets_RadioSet_empty W h.1,
        (
          rows.has_sets_RadioSet_first_common W h.1,
          (
            rows.has_sets_RadioSet_full W h.1,
            (
              rows.has_sets_RadioSet_has W h.1,
              (
                rows.has_sets_RadioSet_join_row W h.1,
                (
                  rows.has_sets_RadioSet_put_in W h.1,
                  (
                    rows.has_sets_RadioSet_take_out W h.1,
                    (rows.has_sets_RadioSet_word W h.1, (soundness.has_Found_new W h.2, (soundness.has_asked W h.2, tt))),
                  ),
                ),
              ),
            ),
          ),
        ),
      ),
    ),
  ),
)

pub has_lift : (W : World) → Stand W → HasT (in_world W) true lift.code
has_lift W h = link.linked-lift::lift W h.0 (below W h)
