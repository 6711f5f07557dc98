-- The functions that other crates call, as they stand in a linked program: the crate's table of names and codes, and that each has its code there,
-- with the code of all that it calls, where this table and those of the crates below stand in it. Written by tools/worlds.
use mathlib.Core.Bool.{true}
use prog.{Linked.{Tree, World, Holds, in_world}, LinkedThreads.{HasT}}
use Rattle.calls.proofs.TheLink as link
use Rattle.calls.proofs.U32FromRefusal.from.Symbol as U32FromRefusal_from
use Rattle.calls.proofs.LaterFromResultWakeRefusal.from.Symbol as LaterFromResultWakeRefusal_from
use Rattle.calls.proofs.PairFromResultEndsRefusal.from.Symbol as PairFromResultEndsRefusal_from
use Rattle.calls.proofs.ReplyFromResultChangeRefusal.from.Symbol as ReplyFromResultChangeRefusal_from
use Rattle.calls.proofs.ValueFromResultU32Refusal.from.Symbol as ValueFromResultU32Refusal_from
use Rattle.calls.proofs.number.Symbol as number

abbrev pub table : Tree
table = link.table

-- the tables that stand in it
abbrev pub Stand : World → Type 0
Stand W = Holds W "calls" table

pub has_U32FromRefusal_from : (W : World) → Stand W → HasT (in_world W) true U32FromRefusal_from.code
has_U32FromRefusal_from W h = link.linked-calls::U32FromRefusal::from W h tt

pub has_LaterFromResultWakeRefusal_from : (W : World) → Stand W → HasT (in_world W) true LaterFromResultWakeRefusal_from.code
has_LaterFromResultWakeRefusal_from W h = link.linked-calls::LaterFromResultWakeRefusal::from W h tt

pub has_PairFromResultEndsRefusal_from : (W : World) → Stand W → HasT (in_world W) true PairFromResultEndsRefusal_from.code
has_PairFromResultEndsRefusal_from W h = link.linked-calls::PairFromResultEndsRefusal::from W h tt

pub has_ReplyFromResultChangeRefusal_from : (W : World) → Stand W → HasT (in_world W) true ReplyFromResultChangeRefusal_from.code
has_ReplyFromResultChangeRefusal_from W h = link.linked-calls::ReplyFromResultChangeRefusal::from W h tt

pub has_ValueFromResultU32Refusal_from : (W : World) → Stand W → HasT (in_world W) true ValueFromResultU32Refusal_from.code
has_ValueFromResultU32Refusal_from W h = link.linked-calls::ValueFromResultU32Refusal::from W h tt

pub has_number : (W : World) → Stand W → HasT (in_world W) true number.code
has_number W h = link.linked-calls::number W h tt
