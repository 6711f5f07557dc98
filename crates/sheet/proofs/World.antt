-- The functions that other crates call, as they stand in a linked program: the crate's table of names and codes, and that each has its code there,
-- with the code of all that it calls, where this table and those of the crates below stand in it. Written by tools/worlds.
use mathlib.Core.Bool.{true}
use prog.{Linked.{Tree, World, Holds, in_world}, LinkedThreads.{HasT}}
use Rattle.sheet.proofs.TheLink as link
use Rattle.sheet.proofs.sheet.Symbol as sheet
use Rattle.soundness.proofs.World as soundness
use Rattle.tables.proofs.World as tables

abbrev pub table : Tree
table = link.table

-- the tables that stand in it
abbrev pub Stand : World → Type 0
Stand W = Holds W "sheet" table × soundness.Stand W × tables.Stand W

below : (W : World) → Stand W → link.Below W
below W h =
    (soundness.has_ask W h.1, (tables.has_fill_least W h.2, tt))

pub has_sheet : (W : World) → Stand W → HasT (in_world W) true sheet.code
has_sheet W h = link.linked-sheet::sheet W h.0 (below W h)
