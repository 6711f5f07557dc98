-- The functions that other crates call, as they stand in a linked program: the crate's table of names and codes, and that each has its code there,
-- with the code of all that it calls, where this table and those of the crates below stand in it. Written by tools/worlds.
use mathlib.Core.Bool.{true}
use prog.{Linked.{Tree, World, Holds, in_world}, LinkedThreads.{HasT}}
use Rattle.tables.proofs.TheLink as link
use Rattle.tables.proofs.fill.least.Symbol as fill_least
use Rattle.tables.proofs.fill.U16Entry.is.Symbol as fill_U16Entry_is
use Rattle.tables.proofs.fill.U16Entry.set.Symbol as fill_U16Entry_set
use Rattle.tables.proofs.fill.fill.Symbol as fill_fill
use Rattle.tables.proofs.sizes.ask.Symbol as sizes_ask
use Rattle.tables.proofs.sizes.ask_with.Symbol as sizes_ask_with
use Rattle.tables.proofs.fill.U8Entry.is.Symbol as fill_U8Entry_is
use Rattle.tables.proofs.fill.U8Entry.set.Symbol as fill_U8Entry_set
use Rattle.tables.proofs.fill.copy.Symbol as fill_copy
use Rattle.tables.proofs.fill.put16.Symbol as fill_put16
use Rattle.tables.proofs.sizes.is_size.Symbol as sizes_is_size
use Rattle.tables.proofs.numbers.larger.Symbol as numbers_larger
use Rattle.tables.proofs.numbers.greatest.Symbol as numbers_greatest
use Rattle.tables.proofs.fill.index16.Symbol as fill_index16
use Rattle.tables.proofs.fill.is_same.Symbol as fill_is_same
use Rattle.tables.proofs.steps.step_numbers.Symbol as steps_step_numbers
use Rattle.tables.proofs.clear.clear.Symbol as clear_clear

abbrev pub table : Tree
table = link.table

-- the tables that stand in it
abbrev pub Stand : World → Type 0
Stand W = Holds W "tables" table

pub has_fill_least : (W : World) → Stand W → HasT (in_world W) true fill_least.code
has_fill_least W h = link.linked-tables::fill::least W h tt

pub has_fill_U16Entry_is : (W : World) → Stand W → HasT (in_world W) true fill_U16Entry_is.code
has_fill_U16Entry_is W h = link.linked-tables::fill::U16Entry::is W h tt

pub has_fill_U16Entry_set : (W : World) → Stand W → HasT (in_world W) true fill_U16Entry_set.code
has_fill_U16Entry_set W h = link.linked-tables::fill::U16Entry::set W h tt

pub has_fill_fill : (W : World) → Stand W → HasT (in_world W) true fill_fill.code
has_fill_fill W h = link.linked-tables::fill::fill W h tt

pub has_sizes_ask : (W : World) → Stand W → HasT (in_world W) true sizes_ask.code
has_sizes_ask W h = link.linked-tables::sizes::ask W h tt

pub has_sizes_ask_with : (W : World) → Stand W → HasT (in_world W) true sizes_ask_with.code
has_sizes_ask_with W h = link.linked-tables::sizes::ask_with W h tt

pub has_fill_U8Entry_is : (W : World) → Stand W → HasT (in_world W) true fill_U8Entry_is.code
has_fill_U8Entry_is W h = link.linked-tables::fill::U8Entry::is W h tt

pub has_fill_U8Entry_set : (W : World) → Stand W → HasT (in_world W) true fill_U8Entry_set.code
has_fill_U8Entry_set W h = link.linked-tables::fill::U8Entry::set W h tt

pub has_fill_copy : (W : World) → Stand W → HasT (in_world W) true fill_copy.code
has_fill_copy W h = link.linked-tables::fill::copy W h tt

pub has_fill_put16 : (W : World) → Stand W → HasT (in_world W) true fill_put16.code
has_fill_put16 W h = link.linked-tables::fill::put16 W h tt

pub has_sizes_is_size : (W : World) → Stand W → HasT (in_world W) true sizes_is_size.code
has_sizes_is_size W h = link.linked-tables::sizes::is_size W h tt

pub has_numbers_larger : (W : World) → Stand W → HasT (in_world W) true numbers_larger.code
has_numbers_larger W h = link.linked-tables::numbers::larger W h tt

pub has_numbers_greatest : (W : World) → Stand W → HasT (in_world W) true numbers_greatest.code
has_numbers_greatest W h = link.linked-tables::numbers::greatest W h tt

pub has_fill_index16 : (W : World) → Stand W → HasT (in_world W) true fill_index16.code
has_fill_index16 W h = link.linked-tables::fill::index16 W h tt

pub has_fill_is_same : (W : World) → Stand W → HasT (in_world W) true fill_is_same.code
has_fill_is_same W h = link.linked-tables::fill::is_same W h tt

pub has_steps_step_numbers : (W : World) → Stand W → HasT (in_world W) true steps_step_numbers.code
has_steps_step_numbers W h = link.linked-tables::steps::step_numbers W h tt

pub has_clear_clear : (W : World) → Stand W → HasT (in_world W) true clear_clear.code
has_clear_clear W h = link.linked-tables::clear::clear W h tt
