-- The functions that other crates call, as they stand in a linked program: the crate's table of names and codes, and that each has its code there,
-- with the code of all that it calls, where this table and those of the crates below stand in it. Written by tools/worlds.
use mathlib.Core.Bool.{true}
use prog.{Linked.{Tree, World, Holds, in_world}, LinkedThreads.{HasT}}
use Rattle.text.proofs.TheLink as link
use Rattle.text.proofs.U16Field.wide.Symbol as U16Field_wide
use Rattle.text.proofs.U8Field.wide.Symbol as U8Field_wide
use Rattle.text.proofs.put_byte.Symbol as put_byte
use Rattle.text.proofs.put_decimal.Symbol as put_decimal
use Rattle.text.proofs.put_field.Symbol as put_field
use Rattle.text.proofs.put_fields.Symbol as put_fields
use Rattle.text.proofs.put_text.Symbol as put_text

abbrev pub table : Tree
table = link.table

-- the tables that stand in it
abbrev pub Stand : World → Type 0
Stand W = Holds W "text" table

pub has_U16Field_wide : (W : World) → Stand W → HasT (in_world W) true U16Field_wide.code
has_U16Field_wide W h = link.linked-text::U16Field::wide W h tt

pub has_U8Field_wide : (W : World) → Stand W → HasT (in_world W) true U8Field_wide.code
has_U8Field_wide W h = link.linked-text::U8Field::wide W h tt

pub has_put_byte : (W : World) → Stand W → HasT (in_world W) true put_byte.code
has_put_byte W h = link.linked-text::put_byte W h tt

pub has_put_decimal : (W : World) → Stand W → HasT (in_world W) true put_decimal.code
has_put_decimal W h = link.linked-text::put_decimal W h tt

pub has_put_field : (W : World) → Stand W → HasT (in_world W) true put_field.code
has_put_field W h = link.linked-text::put_field W h tt

pub has_put_fields : (W : World) → Stand W → HasT (in_world W) true put_fields.code
has_put_fields W h = link.linked-text::put_fields W h tt

pub has_put_text : (W : World) → Stand W → HasT (in_world W) true put_text.code
has_put_text W h = link.linked-text::put_text W h tt
