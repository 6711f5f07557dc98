-- The functions that other crates call, as they stand in a linked program: the crate's table of names and codes, and that each has its code there,
-- with the code of all that it calls, where this table and those of the crates below stand in it. Written by tools/worlds.
use mathlib.Core.Bool.{true}
use prog.{Linked.{Tree, World, Holds, in_world}, LinkedThreads.{HasT}}
use Rattle.tree.proofs.TheLink as link
use Rattle.tree.proofs.levels.shell_tree.Symbol as levels_shell_tree
use Rattle.floods.proofs.World as floods
use Rattle.rows.proofs.World as rows
use Rattle.soundness.proofs.World as soundness
use Rattle.tables.proofs.World as tables

abbrev pub table : Tree
table = link.table

-- the tables that stand in it
abbrev pub Stand : World → Type 0
Stand W = Holds W "tree" table × floods.Stand W × rows.Stand W × soundness.Stand W × tables.Stand W

below : (W : World) → Stand W → link.Below W
below W h = (
  floods.has_flood_flood W h.1,
  (
    floods.has_level_at_least W h.1,
    (
      rows.has_sets_RadioSet_empty W h.2,
      (
        rows.has_sets_RadioSet_first_common W h.2,
        (
          rows.has_sets_RadioSet_put_in W h.2,
          (
            rows.has_sets_RadioSet_take_set W h.2,
            (
              soundness.has_ask W h.3,
              (
                tables.has_fill_U16Entry_is W h.4,
                (
                  tables.has_fill_U16Entry_set W h.4,
                  (
                    tables.has_fill_fill W h.4,
                    (tables.has_fill_least W h.4, (tables.has_fill_put16 W h.4, (tables.has_numbers_greatest W h.4, tt))),
                  ),
                ),
              ),
            ),
          ),
        ),
      ),
    ),
  ),
)

pub has_levels_shell_tree : (W : World) → Stand W → HasT (in_world W) true levels_shell_tree.code
has_levels_shell_tree W h = link.linked-tree::levels::shell_tree W h.0 (below W h)
