-- The functions that other crates call, as they stand in a linked program: the crate's table of names and codes, and that each has its code there,
-- with the code of all that it calls, where this table and those of the crates below stand in it. Written by tools/worlds.
use mathlib.Core.Bool.{true}
use prog.{Linked.{Tree, World, Holds, in_world}, LinkedThreads.{HasT}}
use Rattle.image.proofs.TheLink as link
use Rattle.image.proofs.bytes.long_at.Symbol as bytes_long_at
use Rattle.image.proofs.bytes.word_at.Symbol as bytes_word_at
use Rattle.image.proofs.checks.ask.Symbol as checks_ask
use Rattle.image.proofs.form.is_formed.Symbol as form_is_formed
use Rattle.image.proofs.header.header_of.Symbol as header_header_of
use Rattle.image.proofs.layout.blocks_for.Symbol as layout_blocks_for
use Rattle.image.proofs.checks.check_sum.Symbol as checks_check_sum
use Rattle.image.proofs.layout.Kind.byte.Symbol as layout_Kind_byte
use Rattle.image.proofs.layout.block_count.Symbol as layout_block_count
use Rattle.tables.proofs.World as tables

abbrev pub table : Tree
table = link.table

-- the tables that stand in it
abbrev pub Stand : World → Type 0
Stand W = Holds W "image" table × tables.Stand W

below : (W : World) → Stand W → link.Below W
below W h =
    (tables.has_fill_least W h.1, tt)

pub has_bytes_long_at : (W : World) → Stand W → HasT (in_world W) true bytes_long_at.code
has_bytes_long_at W h = link.linked-image::bytes::long_at W h.0 (below W h)

pub has_bytes_word_at : (W : World) → Stand W → HasT (in_world W) true bytes_word_at.code
has_bytes_word_at W h = link.linked-image::bytes::word_at W h.0 (below W h)

pub has_checks_ask : (W : World) → Stand W → HasT (in_world W) true checks_ask.code
has_checks_ask W h = link.linked-image::checks::ask W h.0 (below W h)

pub has_form_is_formed : (W : World) → Stand W → HasT (in_world W) true form_is_formed.code
has_form_is_formed W h = link.linked-image::form::is_formed W h.0 (below W h)

pub has_header_header_of : (W : World) → Stand W → HasT (in_world W) true header_header_of.code
has_header_header_of W h = link.linked-image::header::header_of W h.0 (below W h)

pub has_layout_blocks_for : (W : World) → Stand W → HasT (in_world W) true layout_blocks_for.code
has_layout_blocks_for W h = link.linked-image::layout::blocks_for W h.0 (below W h)

pub has_checks_check_sum : (W : World) → Stand W → HasT (in_world W) true checks_check_sum.code
has_checks_check_sum W h = link.linked-image::checks::check_sum W h.0 (below W h)

pub has_layout_Kind_byte : (W : World) → Stand W → HasT (in_world W) true layout_Kind_byte.code
has_layout_Kind_byte W h = link.linked-image::layout::Kind::byte W h.0 (below W h)

pub has_layout_block_count : (W : World) → Stand W → HasT (in_world W) true layout_block_count.code
has_layout_block_count W h = link.linked-image::layout::block_count W h.0 (below W h)
