-- The functions that other crates call, as they stand in a linked program: the crate's table of names and codes, and that each has its code there,
-- with the code of all that it calls, where this table and those of the crates below stand in it. Written by tools/worlds.
use mathlib.Core.Bool.{true}
use prog.{Linked.{Tree, World, Holds, in_world}, LinkedThreads.{HasT}}
use Rattle.rows.proofs.TheLink as link
use Rattle.rows.proofs.is_marked.Symbol as is_marked
use Rattle.rows.proofs.word_of.Symbol as word_of
use Rattle.rows.proofs.row_degree.Symbol as row_degree
use Rattle.rows.proofs.row_neighbours.Symbol as row_neighbours
use Rattle.rows.proofs.sets.RadioSet.empty.Symbol as sets_RadioSet_empty
use Rattle.rows.proofs.sets.RadioSet.first_common.Symbol as sets_RadioSet_first_common
use Rattle.rows.proofs.sets.RadioSet.full.Symbol as sets_RadioSet_full
use Rattle.rows.proofs.sets.RadioSet.has.Symbol as sets_RadioSet_has
use Rattle.rows.proofs.sets.RadioSet.join_row.Symbol as sets_RadioSet_join_row
use Rattle.rows.proofs.sets.RadioSet.put_in.Symbol as sets_RadioSet_put_in
use Rattle.rows.proofs.sets.RadioSet.take_out.Symbol as sets_RadioSet_take_out
use Rattle.rows.proofs.sets.RadioSet.word.Symbol as sets_RadioSet_word
use Rattle.rows.proofs.row_above.Symbol as row_above
use Rattle.rows.proofs.put_bit.Symbol as put_bit
use Rattle.rows.proofs.sets.RadioSet.count_common.Symbol as sets_RadioSet_count_common
use Rattle.rows.proofs.sets.RadioSet.of.Symbol as sets_RadioSet_of
use Rattle.rows.proofs.sets.RadioSet.take_common.Symbol as sets_RadioSet_take_common
use Rattle.rows.proofs.sets.RadioSet.list.Symbol as sets_RadioSet_list
use Rattle.rows.proofs.sets.RadioSet.take_set.Symbol as sets_RadioSet_take_set
use Rattle.rows.proofs.link_list.count_links.Symbol as link_list_count_links
use Rattle.rows.proofs.put_link.Symbol as put_link

abbrev pub table : Tree
table = link.table

-- the tables that stand in it
abbrev pub Stand : World → Type 0
Stand W = Holds W "rows" table

pub has_is_marked : (W : World) → Stand W → HasT (in_world W) true is_marked.code
has_is_marked W h = link.linked-rows::is_marked W h tt

pub has_word_of : (W : World) → Stand W → HasT (in_world W) true word_of.code
has_word_of W h = link.linked-rows::word_of W h tt

pub has_row_degree : (W : World) → Stand W → HasT (in_world W) true row_degree.code
has_row_degree W h = link.linked-rows::row_degree W h tt

pub has_row_neighbours : (W : World) → Stand W → HasT (in_world W) true row_neighbours.code
has_row_neighbours W h = link.linked-rows::row_neighbours W h tt

pub has_sets_RadioSet_empty : (W : World) → Stand W → HasT (in_world W) true sets_RadioSet_empty.code
has_sets_RadioSet_empty W h = link.linked-rows::sets::RadioSet::empty W h tt

pub has_sets_RadioSet_first_common : (W : World) → Stand W → HasT (in_world W) true sets_RadioSet_first_common.code
has_sets_RadioSet_first_common W h = link.linked-rows::sets::RadioSet::first_common W h tt

pub has_sets_RadioSet_full : (W : World) → Stand W → HasT (in_world W) true sets_RadioSet_full.code
has_sets_RadioSet_full W h = link.linked-rows::sets::RadioSet::full W h tt

pub has_sets_RadioSet_has : (W : World) → Stand W → HasT (in_world W) true sets_RadioSet_has.code
has_sets_RadioSet_has W h = link.linked-rows::sets::RadioSet::has W h tt

pub has_sets_RadioSet_join_row : (W : World) → Stand W → HasT (in_world W) true sets_RadioSet_join_row.code
has_sets_RadioSet_join_row W h = link.linked-rows::sets::RadioSet::join_row W h tt

pub has_sets_RadioSet_put_in : (W : World) → Stand W → HasT (in_world W) true sets_RadioSet_put_in.code
has_sets_RadioSet_put_in W h = link.linked-rows::sets::RadioSet::put_in W h tt

pub has_sets_RadioSet_take_out : (W : World) → Stand W → HasT (in_world W) true sets_RadioSet_take_out.code
has_sets_RadioSet_take_out W h = link.linked-rows::sets::RadioSet::take_out W h tt

pub has_sets_RadioSet_word : (W : World) → Stand W → HasT (in_world W) true sets_RadioSet_word.code
has_sets_RadioSet_word W h = link.linked-rows::sets::RadioSet::word W h tt

pub has_row_above : (W : World) → Stand W → HasT (in_world W) true row_above.code
has_row_above W h = link.linked-rows::row_above W h tt

pub has_put_bit : (W : World) → Stand W → HasT (in_world W) true put_bit.code
has_put_bit W h = link.linked-rows::put_bit W h tt

pub has_sets_RadioSet_count_common : (W : World) → Stand W → HasT (in_world W) true sets_RadioSet_count_common.code
has_sets_RadioSet_count_common W h = link.linked-rows::sets::RadioSet::count_common W h tt

pub has_sets_RadioSet_of : (W : World) → Stand W → HasT (in_world W) true sets_RadioSet_of.code
has_sets_RadioSet_of W h = link.linked-rows::sets::RadioSet::of W h tt

pub has_sets_RadioSet_take_common : (W : World) → Stand W → HasT (in_world W) true sets_RadioSet_take_common.code
has_sets_RadioSet_take_common W h = link.linked-rows::sets::RadioSet::take_common W h tt

pub has_sets_RadioSet_list : (W : World) → Stand W → HasT (in_world W) true sets_RadioSet_list.code
has_sets_RadioSet_list W h = link.linked-rows::sets::RadioSet::list W h tt

pub has_sets_RadioSet_take_set : (W : World) → Stand W → HasT (in_world W) true sets_RadioSet_take_set.code
has_sets_RadioSet_take_set W h = link.linked-rows::sets::RadioSet::take_set W h tt

pub has_link_list_count_links : (W : World) → Stand W → HasT (in_world W) true link_list_count_links.code
has_link_list_count_links W h = link.linked-rows::link_list::count_links W h tt

pub has_put_link : (W : World) → Stand W → HasT (in_world W) true put_link.code
has_put_link W h = link.linked-rows::put_link W h tt
