-- The functions that other crates call, as they stand in a linked program: the crate's table of names and codes, and that each has its code there,
-- with the code of all that it calls, where this table and those of the crates below stand in it. Written by tools/worlds.
use mathlib.Core.Bool.{true}
use prog.{Linked.{Tree, World, Holds, in_world}, LinkedThreads.{HasT}}
use Rattle.floods.proofs.TheLink as link
use Rattle.floods.proofs.flood.flood.Symbol as flood_flood
use Rattle.floods.proofs.level.at_least.Symbol as level_at_least
use Rattle.rows.proofs.World as rows
use Rattle.tables.proofs.World as tables

abbrev pub table : Tree
table = link.table

-- the tables that stand in it
abbrev pub Stand : World → Type 0
Stand W = Holds W "floods" table × rows.Stand W × tables.Stand W

below : (W : World) → Stand W → link.Below W
below W h = (
  rows.has_sets_RadioSet_empty W h.1,
  (
    rows.has_sets_RadioSet_join_row W h.1,
    (
      rows.has_sets_RadioSet_of W h.1,
      (rows.has_sets_RadioSet_take_common W h.1, (rows.has_sets_RadioSet_take_out W h.1, (tables.has_fill_least W h.2, tt))),
    ),
  ),
)

pub has_flood_flood : (W : World) → Stand W → HasT (in_world W) true flood_flood.code
has_flood_flood W h = link.linked-floods::flood::flood W h.0 (below W h)

pub has_level_at_least : (W : World) → Stand W → HasT (in_world W) true level_at_least.code
has_level_at_least W h = link.linked-floods::level::at_least W h.0 (below W h)
