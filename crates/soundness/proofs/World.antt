-- The functions that other crates call, as they stand in a linked program: the crate's table of names and codes, and that each has its code there,
-- with the code of all that it calls, where this table and those of the crates below stand in it. Written by tools/worlds.
use mathlib.Core.Bool.{true}
use prog.{Linked.{Tree, World, Holds, in_world}, LinkedThreads.{HasT}}
use Rattle.soundness.proofs.TheLink as link
use Rattle.soundness.proofs.Found.new.Symbol as Found_new
use Rattle.soundness.proofs.asked.Symbol as asked
use Rattle.soundness.proofs.ask.Symbol as ask
use Rattle.soundness.proofs.places_of.Symbol as places_of
use Rattle.soundness.proofs.wake.ask_radio.Symbol as wake_ask_radio
use Rattle.soundness.proofs.check.Symbol as check
use Rattle.soundness.proofs.wake.later_of.Symbol as wake_later_of
use Rattle.rows.proofs.World as rows
use Rattle.tables.proofs.World as tables

abbrev pub table : Tree
table = link.table

-- the tables that stand in it
abbrev pub Stand : World → Type 0
Stand W = Holds W "soundness" table × rows.Stand W × tables.Stand W

below : (W : World) → Stand W → link.Below W
below W h = (
  rows.has_is_marked W h.1,
  (
    rows.has_word_of W h.1,
    (
      tables.has_fill_U16Entry_is W h.2,
      (
        tables.has_fill_U16Entry_set W h.2,
        (tables.has_fill_fill W h.2, (tables.has_sizes_ask W h.2, (tables.has_sizes_ask_with W h.2, tt))),
      ),
    ),
  ),
)

pub has_Found_new : (W : World) → Stand W → HasT (in_world W) true Found_new.code
has_Found_new W h = link.linked-soundness::Found::new W h.0 (below W h)

pub has_asked : (W : World) → Stand W → HasT (in_world W) true asked.code
has_asked W h = link.linked-soundness::asked W h.0 (below W h)

pub has_ask : (W : World) → Stand W → HasT (in_world W) true ask.code
has_ask W h = link.linked-soundness::ask W h.0 (below W h)

pub has_places_of : (W : World) → Stand W → HasT (in_world W) true places_of.code
has_places_of W h = link.linked-soundness::places_of W h.0 (below W h)

pub has_wake_ask_radio : (W : World) → Stand W → HasT (in_world W) true wake_ask_radio.code
has_wake_ask_radio W h = link.linked-soundness::wake::ask_radio W h.0 (below W h)

pub has_check : (W : World) → Stand W → HasT (in_world W) true check.code
has_check W h = link.linked-soundness::check W h.0 (below W h)

pub has_wake_later_of : (W : World) → Stand W → HasT (in_world W) true wake_later_of.code
has_wake_later_of W h = link.linked-soundness::wake::later_of W h.0 (below W h)
