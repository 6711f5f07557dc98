-- The functions that other crates call, as they stand in a linked program: the crate's table of names and codes, and that each has its code there,
-- with the code of all that it calls, where this table and those of the crates below stand in it. Written by tools/worlds.
use mathlib.Core.Bool.{true}
use prog.{Linked.{Tree, World, Holds, in_world}, LinkedThreads.{HasT}}
use Rattle.block_reader.proofs.TheLink as link
use Rattle.block_reader.proofs.blocks.block.Symbol as blocks_block
use Rattle.block_reader.proofs.blocks.open.Symbol as blocks_open
use Rattle.block_reader.proofs.blocks.step.Symbol as blocks_step
use Rattle.block_reader.proofs.blocks.moved.Symbol as blocks_moved
use Rattle.calls.proofs.World as calls
use Rattle.image.proofs.World as image

abbrev pub table : Tree
table = link.table

-- the tables that stand in it
abbrev pub Stand : World → Type 0
Stand W = Holds W "block_reader" table × calls.Stand W × image.Stand W

below : (W : World) → Stand W → link.Below W
below W h =
    (calls.has_U32FromRefusal_from W h.1, (image.has_checks_ask W h.2, tt))

pub has_blocks_block : (W : World) → Stand W → HasT (in_world W) true blocks_block.code
has_blocks_block W h = link.linked-block_reader::blocks::block W h.0 (below W h)

pub has_blocks_open : (W : World) → Stand W → HasT (in_world W) true blocks_open.code
has_blocks_open W h = link.linked-block_reader::blocks::open W h.0 (below W h)

pub has_blocks_step : (W : World) → Stand W → HasT (in_world W) true blocks_step.code
has_blocks_step W h = link.linked-block_reader::blocks::step W h.0 (below W h)

pub has_blocks_moved : (W : World) → Stand W → HasT (in_world W) true blocks_moved.code
has_blocks_moved W h = link.linked-block_reader::blocks::moved W h.0 (below W h)
