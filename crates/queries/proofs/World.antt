-- The functions that other crates call, as they stand in a linked program: the crate's table of names and codes, and that each has its code there,
-- with the code of all that it calls, where this table and those of the crates below stand in it. Written by tools/worlds.
use mathlib.Core.Bool.{true}
use prog.{Linked.{Tree, World, Holds, in_world}, LinkedThreads.{HasT}}
use Rattle.queries.proofs.TheLink as link
use Rattle.queries.proofs.backbone.backbone.Symbol as backbone_backbone
use Rattle.queries.proofs.cores.core.Symbol as cores_core
use Rattle.queries.proofs.radios.first.Symbol as radios_first
use Rattle.queries.proofs.radios.linked.Symbol as radios_linked
use Rattle.queries.proofs.radios.neighbours.Symbol as radios_neighbours
use Rattle.queries.proofs.radios.number.Symbol as radios_number
use Rattle.floods.proofs.World as floods
use Rattle.rows.proofs.World as rows
use Rattle.soundness.proofs.World as soundness
use Rattle.tables.proofs.World as tables

abbrev pub table : Tree
table = link.table

-- the tables that stand in it
abbrev pub Stand : World → Type 0
Stand W = Holds W "queries" table × floods.Stand W × rows.Stand W × soundness.Stand W × tables.Stand W

below : (W : World) → Stand W → link.Below W
below W h = (
  floods.has_flood_flood W h.1,
  (
    floods.has_level_at_least W h.1,
    (
      rows.has_is_marked W h.2,
      (
        rows.has_row_degree W h.2,
        (
          rows.has_sets_RadioSet_empty W h.2,
          (
            rows.has_sets_RadioSet_has W h.2,
            (
              rows.has_sets_RadioSet_list W h.2,
              (
                rows.has_sets_RadioSet_put_in W h.2,
                (
                  rows.has_sets_RadioSet_take_set W h.2,
                  (
                    soundness.has_ask W h.3,
                    (soundness.has_wake_ask_radio W h.3, (tables.has_numbers_larger W h.4, tt)),
                  ),
                ),
              ),
            ),
          ),
        ),
      ),
    ),
  ),
)

pub has_backbone_backbone : (W : World) → Stand W → HasT (in_world W) true backbone_backbone.code
has_backbone_backbone W h = link.linked-queries::backbone::backbone W h.0 (below W h)

pub has_cores_core : (W : World) → Stand W → HasT (in_world W) true cores_core.code
has_cores_core W h = link.linked-queries::cores::core W h.0 (below W h)

pub has_radios_first : (W : World) → Stand W → HasT (in_world W) true radios_first.code
has_radios_first W h = link.linked-queries::radios::first W h.0 (below W h)

pub has_radios_linked : (W : World) → Stand W → HasT (in_world W) true radios_linked.code
has_radios_linked W h = link.linked-queries::radios::linked W h.0 (below W h)

pub has_radios_neighbours : (W : World) → Stand W → HasT (in_world W) true radios_neighbours.code
has_radios_neighbours W h = link.linked-queries::radios::neighbours W h.0 (below W h)

pub has_radios_number : (W : World) → Stand W → HasT (in_world W) true radios_number.code
has_radios_number W h = link.linked-queries::radios::number W h.0 (below W h)
