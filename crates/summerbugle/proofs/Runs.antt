-- The public calls run, in cells: `runs`, of each the routine that its code is, from the triple that is proved of it.
--   routines    the routines of the public calls
--   runs        each runs as crate hosts says of it
use Rattle.std.specs.Prelude.{◌≡◌, ◌∷◌}
use Rattle.lists.specs.Kit.{ap, Bool, true, false, List, [], ℕ}
use mir.Syntax.{Callee, w8, w16, w32, w64}
use contract.{Running.{Running, within}, Closed.{model⁺, real⁺}}
use prog.{Routine.{Routine, Env}, Wired.{Wired, Code}}
use Rattle.machine.{specs.Cells.{entries, Runs}, proofs.Whole.{𝓥}, proofs.Rows.{Row, W₀}, proofs.Lending.{Lending, by_value, to_read, to_write}}
use Rattle.machine.{proofs.Law.{Answer, Promised, in_cells}, proofs.Numbers.{number_row, signed_row, number_answer, declared_answer}}
use Rattle.mesh.specs.{Tables.{Tables, tables}, declared.Node.{Node}}
use Rattle.calls.specs.{declared.Later.{Later}, declared.Pair.{Pair}, declared.Block.{Block}, CallContracts.{ClearContract, ReadContract, ReturnContract}}
use Rattle.calls.specs.{CallContracts.{LinkContract, AskContract, CommitContract, BatchContract, HearContract, CheckContract, NumberContract}}
use Rattle.calls.specs.{CallContracts.{NeighboursContract, LinkedContract, FirstContract, LaterContract, LiftContract, CoreContract, BackboneContract}}
use Rattle.calls.specs.{CallContracts.{StaircaseContract, WriteContract, SheetContract, ScriptLengthContract, ScriptContract, TreeContract, SetContract}}
use Rattle.calls.specs.{CallContracts.{RemoveContract, BlockContract}, Outcomes.{Listing}, declared.Value.{Value}}
use Rattle.hosts.specs.{Public.{Public, of_book, this_version, call, the_tables, with_tables, with_both, with_list}, Public.Known.{clear, image_read, link}}
use Rattle.hosts.specs.{Public.Known.{commit, link_batch, hear}}
use Rattle.hosts.specs.{Public.Known.{mark_set, mark_remove, mark_return}, Public.Public.{ask, check, number, neighbours, linked, first, later_of, lift, core}}
use Rattle.hosts.specs.{Public.Public.{backbone, tree, staircase, image_write, sheet, script_length, script_write, image_block, reader_open, reader_step}}
use Rattle.hosts.specs.{Public.Public.{reader_moved, version}}
use Rattle.block_reader.proofs.Runs.{open_runs, step_runs, moved_runs}
use Rattle.summerbugle.proofs.NodeRow.{node_row}
use ghost.Model as Closed
use Rattle.calls.specs.contracts.Reply as reply
use Rattle.calls.proofs.Reply.TheLaws as reply_laws
use Rattle.calls.specs.contracts.Value as value
use Rattle.calls.proofs.Value.TheLaws as value_laws
use Rattle.calls.specs.contracts.Later as later
use Rattle.calls.proofs.Later.TheLaws as later_laws
use Rattle.calls.specs.contracts.Pair as pair
use Rattle.calls.proofs.Pair.TheLaws as pair_laws
use Rattle.calls.specs.contracts.Block as block
use Rattle.calls.proofs.Block.TheLaws as block_laws
use Rattle.summerbugle.proofs.sb_clear.Symbol as clear_symbol
use Rattle.summerbugle.proofs.sb_clear.Met as clear_proof
use Rattle.summerbugle.proofs.sb_link_up.Symbol as link_up_symbol
use Rattle.summerbugle.proofs.sb_link_up.Met as link_up_proof
use Rattle.summerbugle.proofs.sb_link_down.Symbol as link_down_symbol
use Rattle.summerbugle.proofs.sb_link_down.Met as link_down_proof
use Rattle.summerbugle.proofs.sb_ask_up.Symbol as ask_up_symbol
use Rattle.summerbugle.proofs.sb_ask_up.Met as ask_up_proof
use Rattle.summerbugle.proofs.sb_ask_down.Symbol as ask_down_symbol
use Rattle.summerbugle.proofs.sb_ask_down.Met as ask_down_proof
use Rattle.summerbugle.proofs.sb_commit_up.Symbol as commit_up_symbol
use Rattle.summerbugle.proofs.sb_commit_up.Met as commit_up_proof
use Rattle.summerbugle.proofs.sb_commit_down.Symbol as commit_down_symbol
use Rattle.summerbugle.proofs.sb_commit_down.Met as commit_down_proof
use Rattle.summerbugle.proofs.sb_link_batch.Symbol as link_batch_symbol
use Rattle.summerbugle.proofs.sb_link_batch.Met as link_batch_proof
use Rattle.summerbugle.proofs.sb_hear.Symbol as hear_symbol
use Rattle.summerbugle.proofs.sb_hear.Met as hear_proof
use Rattle.summerbugle.proofs.sb_image_read.Symbol as image_read_symbol
use Rattle.summerbugle.proofs.sb_image_read.Met as image_read_proof
use Rattle.summerbugle.proofs.sb_check.Symbol as check_symbol
use Rattle.summerbugle.proofs.sb_check.Met as check_proof
use Rattle.summerbugle.proofs.sb_number.Symbol as number_symbol
use Rattle.summerbugle.proofs.sb_number.Met as number_proof
use Rattle.summerbugle.proofs.sb_neighbours.Symbol as neighbours_symbol
use Rattle.summerbugle.proofs.sb_neighbours.Met as neighbours_proof
use Rattle.summerbugle.proofs.sb_linked.Symbol as linked_symbol
use Rattle.summerbugle.proofs.sb_linked.Met as linked_proof
use Rattle.summerbugle.proofs.sb_first.Symbol as first_symbol
use Rattle.summerbugle.proofs.sb_first.Met as first_proof
use Rattle.summerbugle.proofs.sb_later_of.Symbol as later_of_symbol
use Rattle.summerbugle.proofs.sb_later_of.Met as later_of_proof
use Rattle.summerbugle.proofs.sb_lift.Symbol as lift_symbol
use Rattle.summerbugle.proofs.sb_lift.Met as lift_proof
use Rattle.summerbugle.proofs.sb_core.Symbol as core_symbol
use Rattle.summerbugle.proofs.sb_core.Met as core_proof
use Rattle.summerbugle.proofs.sb_backbone.Symbol as backbone_symbol
use Rattle.summerbugle.proofs.sb_backbone.Met as backbone_proof
use Rattle.summerbugle.proofs.sb_tree.Symbol as tree_symbol
use Rattle.summerbugle.proofs.sb_tree.Met as tree_proof
use Rattle.summerbugle.proofs.sb_staircase.Symbol as staircase_symbol
use Rattle.summerbugle.proofs.sb_staircase.Met as staircase_proof
use Rattle.summerbugle.proofs.sb_image_write.Symbol as image_write_symbol
use Rattle.summerbugle.proofs.sb_image_write.Met as image_write_proof
use Rattle.summerbugle.proofs.sb_sheet.Symbol as sheet_symbol
use Rattle.summerbugle.proofs.sb_sheet.Met as sheet_proof
use Rattle.summerbugle.proofs.sb_script_length.Symbol as script_length_symbol
use Rattle.summerbugle.proofs.sb_script_length.Met as script_length_proof
use Rattle.summerbugle.proofs.sb_script_write.Symbol as script_write_symbol
use Rattle.summerbugle.proofs.sb_script_write.Met as script_write_proof
use Rattle.summerbugle.proofs.sb_mark_set.Symbol as mark_set_symbol
use Rattle.summerbugle.proofs.sb_mark_set.Met as mark_set_proof
use Rattle.summerbugle.proofs.sb_mark_remove.Symbol as mark_remove_symbol
use Rattle.summerbugle.proofs.sb_mark_remove.Met as mark_remove_proof
use Rattle.summerbugle.proofs.sb_mark_return.Symbol as mark_return_symbol
use Rattle.summerbugle.proofs.sb_mark_return.Met as mark_return_proof
use Rattle.summerbugle.proofs.sb_version.Symbol as version_symbol
use Rattle.summerbugle.proofs.sb_version.Met as version_proof
use Rattle.summerbugle.proofs.sb_image_block.Symbol as image_block_symbol
use Rattle.summerbugle.proofs.sb_image_block.Met as image_block_proof
use Rattle.block_reader.proofs.blocks.open.Symbol as open_symbol
use Rattle.block_reader.proofs.blocks.step.Symbol as step_symbol
use Rattle.block_reader.proofs.blocks.moved.Symbol as moved_symbol

-- the names of the public calls, and their codes, each with the code of all that it calls

abbrev pub names : Public → Callee
names (of_book clear) = clear_symbol.name
names (of_book image_read) = image_read_symbol.name
names (of_book (link true)) = link_up_symbol.name
names (of_book (link false)) = link_down_symbol.name
names (of_book (commit true)) = commit_up_symbol.name
names (of_book (commit false)) = commit_down_symbol.name
names (of_book link_batch) = link_batch_symbol.name
names (of_book hear) = hear_symbol.name
names (of_book mark_set) = mark_set_symbol.name
names (of_book mark_remove) = mark_remove_symbol.name
names (of_book mark_return) = mark_return_symbol.name
names (ask true) = ask_up_symbol.name
names (ask false) = ask_down_symbol.name
names check = check_symbol.name
names number = number_symbol.name
names neighbours = neighbours_symbol.name
names linked = linked_symbol.name
names first = first_symbol.name
names later_of = later_of_symbol.name
names lift = lift_symbol.name
names core = core_symbol.name
names backbone = backbone_symbol.name
names tree = tree_symbol.name
names staircase = staircase_symbol.name
names image_write = image_write_symbol.name
names sheet = sheet_symbol.name
names script_length = script_length_symbol.name
names script_write = script_write_symbol.name
names image_block = image_block_symbol.name
names reader_open = open_symbol.name
names reader_step = step_symbol.name
names reader_moved = moved_symbol.name
names version = version_symbol.name

abbrev pub codes : Public → Code
codes (of_book clear) = clear_symbol.code
codes (of_book image_read) = image_read_symbol.code
codes (of_book (link true)) = link_up_symbol.code
codes (of_book (link false)) = link_down_symbol.code
codes (of_book (commit true)) = commit_up_symbol.code
codes (of_book (commit false)) = commit_down_symbol.code
codes (of_book link_batch) = link_batch_symbol.code
codes (of_book hear) = hear_symbol.code
codes (of_book mark_set) = mark_set_symbol.code
codes (of_book mark_remove) = mark_remove_symbol.code
codes (of_book mark_return) = mark_return_symbol.code
codes (ask true) = ask_up_symbol.code
codes (ask false) = ask_down_symbol.code
codes check = check_symbol.code
codes number = number_symbol.code
codes neighbours = neighbours_symbol.code
codes linked = linked_symbol.code
codes first = first_symbol.code
codes later_of = later_of_symbol.code
codes lift = lift_symbol.code
codes core = core_symbol.code
codes backbone = backbone_symbol.code
codes tree = tree_symbol.code
codes staircase = staircase_symbol.code
codes image_write = image_write_symbol.code
codes sheet = sheet_symbol.code
codes script_length = script_length_symbol.code
codes script_write = script_write_symbol.code
codes image_block = image_block_symbol.code
codes reader_open = open_symbol.code
codes reader_step = step_symbol.code
codes reader_moved = moved_symbol.code
codes version = version_symbol.code

-- ---- parameters and results, as the logic has them

abbrev 𝓡 : Env → Running 𝓥 Closed.H model⁺
𝓡 γ = within 𝓥 Closed.H model⁺ real⁺ γ

abbrev u8 : Row
u8 = number_row w8

abbrev u16 : Row
u16 = number_row w16

-- a radio, a count of radios, a level
abbrev n32 : {k : ℕ} → Lending k
n32 = by_value (number_row w32)

abbrev a_number : Answer
a_number = number_answer w32

abbrev a_reply : Answer
a_reply = declared_answer reply.the_row reply_laws.lowers

abbrev a_value : Answer
a_value = declared_answer value.the_row value_laws.lowers

abbrev a_later : Answer
a_later = declared_answer later.the_row later_laws.lowers

abbrev a_pair : Answer
a_pair = declared_answer pair.the_row pair_laws.lowers

abbrev a_block : Answer
a_block = declared_answer block.the_row block_laws.lowers

-- links, numbers and order on return
abbrev left : {X : Type 0} → List ℕ × (List ℕ × (List ℕ × X)) → Tables
left o = tables o.0 o.1.0 o.1.1.0

-- ---- calls that write links, numbers and order

clear_runs : (γ : Env) → Wired γ (codes (of_book clear)) → Runs (γ (names (of_book clear))) (call (of_book clear))
unfolding ClearContract
clear_runs γ wired =
    in_cells 3 (n32 ∷ to_write 0 tt u8 ∷ to_write 1 tt u8 ∷ to_write 2 tt u16 ∷ []) a_number _
    (λ i r o. ClearContract i.0 (the_tables i.1.0 i.1.1.0 i.1.1.1.0) r (left o)) _
    (λ i r o e. ap with_tables e)
    (clear_proof.met 𝓥 W₀ model⁺ (𝓡 γ) wired)

image_read_runs : (γ : Env) → Wired γ (codes (of_book image_read)) → Runs (γ (names (of_book image_read))) (call (of_book image_read))
unfolding ReadContract
image_read_runs γ wired =
    in_cells 4 (n32 ∷ to_write 0 tt u8 ∷ to_write 1 tt u8 ∷ to_write 2 tt u16 ∷ to_read 3 tt u8 ∷ []) a_number _
    (λ i r o. ReadContract i.0 (entries i.1.1.1.1.0) (the_tables i.1.0 i.1.1.0 i.1.1.1.0) r (left o)) _
    (λ i r o e. ap with_tables e)
    (image_read_proof.met 𝓥 W₀ model⁺ (𝓡 γ) wired)

abbrev link_runs_params : List (Lending 4)
link_runs_params = n32 ∷ n32 ∷ n32 ∷ to_write 0 tt u8 ∷ to_write 1 tt u8 ∷ to_write 2 tt u16 ∷ to_write 3 tt u16 ∷ []

link_runs : (up : Bool) (ρ : Routine) →
    Promised 4 link_runs_params a_reply ρ (λ i r o. LinkContract up i.0 i.1.0 i.1.1.0
    (the_tables i.1.1.1.0 i.1.1.1.1.0 i.1.1.1.1.1.0) (entries i.1.1.1.1.1.1.0) r (left o) o.1.1.1.0) →
    Runs ρ (call (of_book (link up)))
unfolding LinkContract
link_runs up ρ met = in_cells 4 link_runs_params a_reply ρ _ _ (λ i r o e. ap with_both e) met

abbrev commit_runs_params : List (Lending 4)
commit_runs_params = n32 ∷ n32 ∷ n32 ∷ by_value (signed_row w8) ∷ to_write 0 tt u8 ∷ to_write 1 tt u8 ∷ to_write 2 tt u16 ∷ to_read 3 tt u16 ∷ []

commit_runs : (up : Bool) (ρ : Routine) →
    Promised 4 commit_runs_params a_reply ρ (λ i r o. CommitContract up i.0 i.1.0 i.1.1.0 i.1.1.1.0 (entries i.1.1.1.1.1.1.1.0)
    (the_tables i.1.1.1.1.0 i.1.1.1.1.1.0 i.1.1.1.1.1.1.0) r (left o)) →
    Runs ρ (call (of_book (commit up)))
unfolding CommitContract
commit_runs up ρ met = in_cells 4 commit_runs_params a_reply ρ _ _ (λ i r o e. ap with_tables e) met

batch_runs : (γ : Env) → Wired γ (codes (of_book link_batch)) → Runs (γ (names (of_book link_batch))) (call (of_book link_batch))
unfolding BatchContract
batch_runs γ wired =
    in_cells 4 (n32 ∷ to_write 0 tt u8 ∷ to_write 1 tt u8 ∷ to_write 2 tt u16 ∷ to_read 3 tt u16 ∷ []) a_value _
    (λ i r o. BatchContract i.0 (entries i.1.1.1.1.0) (the_tables i.1.0 i.1.1.0 i.1.1.1.0) r (left o)) _
    (λ i r o e. ap with_tables e)
    (link_batch_proof.met 𝓥 W₀ model⁺ (𝓡 γ) wired)

hear_runs : (γ : Env) → Wired γ (codes (of_book hear)) → Runs (γ (names (of_book hear))) (call (of_book hear))
unfolding HearContract
hear_runs γ wired =
    in_cells 5 (n32 ∷ to_write 0 tt u8 ∷ to_write 1 tt u8 ∷ to_write 2 tt u16 ∷ to_read 3 tt u8 ∷ to_write 4 tt u8 ∷ []) a_value _
    (λ i r o. HearContract i.0 (entries i.1.1.1.1.0) (the_tables i.1.0 i.1.1.0 i.1.1.1.0) (entries i.1.1.1.1.1.0) r
    (left o) o.1.1.1.0) _
    (λ i r o e. ap with_both e)
    (hear_proof.met 𝓥 W₀ model⁺ (𝓡 γ) wired)

set_runs : (γ : Env) → Wired γ (codes (of_book mark_set)) → Runs (γ (names (of_book mark_set))) (call (of_book mark_set))
unfolding SetContract
set_runs γ wired =
    in_cells 5 (n32 ∷ to_read 0 tt u8 ∷ to_read 1 tt u8 ∷ to_read 2 tt u16 ∷ to_read 3 tt u8 ∷ to_write 4 tt u8 ∷ []) a_number _
    (λ i r o. SetContract i.0 (entries i.1.1.1.1.0) (the_tables i.1.0 i.1.1.0 i.1.1.1.0) (entries i.1.1.1.1.1.0) r
    o.0) _
    (λ i r o e. ap with_list e)
    (mark_set_proof.met 𝓥 W₀ model⁺ (𝓡 γ) wired)

remove_runs : (γ : Env) → Wired γ (codes (of_book mark_remove)) → Runs (γ (names (of_book mark_remove))) (call (of_book mark_remove))
unfolding RemoveContract
remove_runs γ wired =
    in_cells 5 (n32 ∷ to_read 0 tt u8 ∷ to_read 1 tt u8 ∷ to_read 2 tt u16 ∷ to_read 3 tt u8 ∷ to_write 4 tt u8 ∷ []) a_number _
    (λ i r o. RemoveContract i.0 (entries i.1.1.1.1.0) (the_tables i.1.0 i.1.1.0 i.1.1.1.0) (entries i.1.1.1.1.1.0) r
    o.0) _
    (λ i r o e. ap with_list e)
    (mark_remove_proof.met 𝓥 W₀ model⁺ (𝓡 γ) wired)

return_runs : (γ : Env) → Wired γ (codes (of_book mark_return)) → Runs (γ (names (of_book mark_return))) (call (of_book mark_return))
unfolding ReturnContract
return_runs γ wired =
    in_cells 5 (n32 ∷ to_write 0 tt u8 ∷ to_write 1 tt u8 ∷ to_write 2 tt u16 ∷ to_read 3 tt u8 ∷ to_read 4 tt u8 ∷ []) a_number _
    (λ i r o. ReturnContract i.0 (entries i.1.1.1.1.0) (entries i.1.1.1.1.1.0) (the_tables i.1.0 i.1.1.0 i.1.1.1.0) r
    (left o)) _
    (λ i r o e. ap with_tables e)
    (mark_return_proof.met 𝓥 W₀ model⁺ (𝓡 γ) wired)

-- ---- calls that only read them

abbrev ask_runs_params : List (Lending 2)
ask_runs_params = n32 ∷ n32 ∷ n32 ∷ to_read 0 tt u8 ∷ to_read 0 tt u8 ∷ to_read 0 tt u16 ∷ to_write 1 tt u16 ∷ []

ask_runs : (up : Bool) (ρ : Routine) →
    Promised 2 ask_runs_params a_reply ρ (λ i r o. AskContract up i.0 i.1.0 i.1.1.0
    (the_tables i.1.1.1.0 i.1.1.1.1.0 i.1.1.1.1.1.0) (entries i.1.1.1.1.1.1.0) r o.0) →
    Runs ρ (call (ask up))
unfolding AskContract
ask_runs up ρ met = in_cells 2 ask_runs_params a_reply ρ _ _ (λ i r o e. ap with_list e) met

check_runs : (γ : Env) → Wired γ (codes check) → Runs (γ (names check)) (call check)
unfolding CheckContract
check_runs γ wired =
    in_cells 1 (n32 ∷ to_read 0 tt u8 ∷ to_read 0 tt u8 ∷ to_read 0 tt u16 ∷ []) a_value _
    (λ i r o. CheckContract i.0 (the_tables i.1.0 i.1.1.0 i.1.1.1.0) r) _
    (λ i r o e. ap (λ (y : Value). (y, tt)) e)
    (check_proof.met 𝓥 W₀ model⁺ (𝓡 γ) wired)

number_runs : (γ : Env) → Wired γ (codes number) → Runs (γ (names number)) (call number)
unfolding NumberContract
number_runs γ wired =
    in_cells 1 (n32 ∷ n32 ∷ to_read 0 tt u8 ∷ to_read 0 tt u8 ∷ to_read 0 tt u16 ∷ []) a_value _
    (λ i r o. NumberContract i.0 i.1.0 (the_tables i.1.1.0 i.1.1.1.0 i.1.1.1.1.0) r) _
    (λ i r o e. ap (λ (y : Value). (y, tt)) e)
    (number_proof.met 𝓥 W₀ model⁺ (𝓡 γ) wired)

neighbours_runs : (γ : Env) → Wired γ (codes neighbours) → Runs (γ (names neighbours)) (call neighbours)
unfolding NeighboursContract
neighbours_runs γ wired =
    in_cells 1 (n32 ∷ n32 ∷ to_read 0 tt u8 ∷ to_read 0 tt u8 ∷ to_read 0 tt u16 ∷ []) a_value _
    (λ i r o. NeighboursContract i.0 i.1.0 (the_tables i.1.1.0 i.1.1.1.0 i.1.1.1.1.0) r) _
    (λ i r o e. ap (λ (y : Value). (y, tt)) e)
    (neighbours_proof.met 𝓥 W₀ model⁺ (𝓡 γ) wired)

linked_runs : (γ : Env) → Wired γ (codes linked) → Runs (γ (names linked)) (call linked)
unfolding LinkedContract
linked_runs γ wired =
    in_cells 1 (n32 ∷ n32 ∷ n32 ∷ to_read 0 tt u8 ∷ to_read 0 tt u8 ∷ to_read 0 tt u16 ∷ []) a_value _
    (λ i r o. LinkedContract i.0 i.1.0 i.1.1.0 (the_tables i.1.1.1.0 i.1.1.1.1.0 i.1.1.1.1.1.0) r) _
    (λ i r o e. ap (λ (y : Value). (y, tt)) e)
    (linked_proof.met 𝓥 W₀ model⁺ (𝓡 γ) wired)

first_runs : (γ : Env) → Wired γ (codes first) → Runs (γ (names first)) (call first)
unfolding FirstContract
first_runs γ wired =
    in_cells 1 (n32 ∷ n32 ∷ n32 ∷ to_read 0 tt u8 ∷ to_read 0 tt u8 ∷ to_read 0 tt u16 ∷ []) a_value _
    (λ i r o. FirstContract i.0 i.1.0 i.1.1.0 (the_tables i.1.1.1.0 i.1.1.1.1.0 i.1.1.1.1.1.0) r) _
    (λ i r o e. ap (λ (y : Value). (y, tt)) e)
    (first_proof.met 𝓥 W₀ model⁺ (𝓡 γ) wired)

later_runs : (γ : Env) → Wired γ (codes later_of) → Runs (γ (names later_of)) (call later_of)
unfolding LaterContract
later_runs γ wired =
    in_cells 1 (n32 ∷ n32 ∷ to_read 0 tt u8 ∷ to_read 0 tt u8 ∷ to_read 0 tt u16 ∷ []) a_later _
    (λ i r o. LaterContract i.0 i.1.0 (the_tables i.1.1.0 i.1.1.1.0 i.1.1.1.1.0) r) _
    (λ i r o e. ap (λ (y : Later). (y, tt)) e)
    (later_of_proof.met 𝓥 W₀ model⁺ (𝓡 γ) wired)

lift_runs : (γ : Env) → Wired γ (codes lift) → Runs (γ (names lift)) (call lift)
unfolding LiftContract
lift_runs γ wired =
    in_cells 1 (n32 ∷ n32 ∷ to_read 0 tt u8 ∷ to_read 0 tt u8 ∷ to_read 0 tt u16 ∷ []) a_pair _
    (λ i r o. LiftContract i.0 i.1.0 (the_tables i.1.1.0 i.1.1.1.0 i.1.1.1.1.0) r) _
    (λ i r o e. ap (λ (y : Pair). (y, tt)) e)
    (lift_proof.met 𝓥 W₀ model⁺ (𝓡 γ) wired)

length_runs : (γ : Env) → Wired γ (codes script_length) → Runs (γ (names script_length)) (call script_length)
unfolding ScriptLengthContract
length_runs γ wired =
    in_cells 3 (n32 ∷ to_read 0 tt u8 ∷ to_read 1 tt u8 ∷ to_read 2 tt u16 ∷ []) a_value _
    (λ i r o. ScriptLengthContract i.0 (the_tables i.1.0 i.1.1.0 i.1.1.1.0) r) _
    (λ i r o e. ap (λ (y : Value). (y, tt)) e)
    (script_length_proof.met 𝓥 W₀ model⁺ (𝓡 γ) wired)

core_runs : (γ : Env) → Wired γ (codes core) → Runs (γ (names core)) (call core)
unfolding CoreContract
core_runs γ wired =
    in_cells 2 (n32 ∷ n32 ∷ n32 ∷ to_read 0 tt u8 ∷ to_read 0 tt u8 ∷ to_read 0 tt u16 ∷ to_write 1 tt u16 ∷ []) a_value _
    (λ i r o. CoreContract i.0 i.1.0 i.1.1.0 (the_tables i.1.1.1.0 i.1.1.1.1.0 i.1.1.1.1.1.0)
    (entries i.1.1.1.1.1.1.0) r o.0) _
    (λ i r o e. ap with_list e)
    (core_proof.met 𝓥 W₀ model⁺ (𝓡 γ) wired)

backbone_runs : (γ : Env) → Wired γ (codes backbone) → Runs (γ (names backbone)) (call backbone)
unfolding BackboneContract
backbone_runs γ wired =
    in_cells 2 (n32 ∷ to_read 0 tt u8 ∷ to_read 0 tt u8 ∷ to_read 0 tt u16 ∷ to_write 1 tt u16 ∷ []) a_value _
    (λ i r o. BackboneContract i.0 (the_tables i.1.0 i.1.1.0 i.1.1.1.0) (entries i.1.1.1.1.0) r o.0) _
    (λ i r o e. ap with_list e)
    (backbone_proof.met 𝓥 W₀ model⁺ (𝓡 γ) wired)

staircase_runs : (γ : Env) → Wired γ (codes staircase) → Runs (γ (names staircase)) (call staircase)
unfolding StaircaseContract
staircase_runs γ wired =
    in_cells 2 (n32 ∷ to_read 0 tt u8 ∷ to_read 0 tt u8 ∷ to_read 0 tt u16 ∷ to_write 1 tt u16 ∷ []) a_value _
    (λ i r o. StaircaseContract i.0 (the_tables i.1.0 i.1.1.0 i.1.1.1.0) (entries i.1.1.1.1.0) r o.0) _
    (λ i r o e. ap with_list e)
    (staircase_proof.met 𝓥 W₀ model⁺ (𝓡 γ) wired)

write_runs : (γ : Env) → Wired γ (codes image_write) → Runs (γ (names image_write)) (call image_write)
unfolding WriteContract
write_runs γ wired =
    in_cells 4 (n32 ∷ to_read 0 tt u8 ∷ to_read 1 tt u8 ∷ to_read 2 tt u16 ∷ to_write 3 tt u8 ∷ []) a_value _
    (λ i r o. WriteContract i.0 (the_tables i.1.0 i.1.1.0 i.1.1.1.0) (entries i.1.1.1.1.0) r o.0) _
    (λ i r o e. ap with_list e)
    (image_write_proof.met 𝓥 W₀ model⁺ (𝓡 γ) wired)

sheet_runs : (γ : Env) → Wired γ (codes sheet) → Runs (γ (names sheet)) (call sheet)
unfolding SheetContract
sheet_runs γ wired =
    in_cells 4 (n32 ∷ to_read 0 tt u8 ∷ to_read 1 tt u8 ∷ to_read 2 tt u16 ∷ to_write 3 tt u8 ∷ []) a_value _
    (λ i r o. SheetContract i.0 (the_tables i.1.0 i.1.1.0 i.1.1.1.0) (entries i.1.1.1.1.0) r o.0) _
    (λ i r o e. ap with_list e)
    (sheet_proof.met 𝓥 W₀ model⁺ (𝓡 γ) wired)

script_runs : (γ : Env) → Wired γ (codes script_write) → Runs (γ (names script_write)) (call script_write)
unfolding ScriptContract
script_runs γ wired =
    in_cells 4 (n32 ∷ to_read 0 tt u8 ∷ to_read 1 tt u8 ∷ to_read 2 tt u16 ∷ to_write 3 tt u8 ∷ []) a_value _
    (λ i r o. ScriptContract i.0 (the_tables i.1.0 i.1.1.0 i.1.1.1.0) (entries i.1.1.1.1.0) r o.0) _
    (λ i r o e. ap with_list e)
    (script_write_proof.met 𝓥 W₀ model⁺ (𝓡 γ) wired)

tree_runs : (γ : Env) → Wired γ (codes tree) → Runs (γ (names tree)) (call tree)
unfolding TreeContract
tree_runs γ wired =
    in_cells 3 (n32 ∷ to_read 0 tt u8 ∷ to_read 0 tt u8 ∷ to_read 0 tt u16 ∷ to_write 1 tt node_row ∷ to_write 2 tt u16 ∷ []) a_value _
    (λ i r o. TreeContract i.0 (the_tables i.1.0 i.1.1.0 i.1.1.1.0) (entries i.1.1.1.1.0) (entries i.1.1.1.1.1.0) r
    o.0 o.1.0) _
    (λ i r o e. ap (λ (y : Listing Value (List Node × List ℕ)). (y.reply, (y.lent.0, (y.lent.1, tt)))) e)
    (tree_proof.met 𝓥 W₀ model⁺ (𝓡 γ) wired)

block_runs : (γ : Env) → Wired γ (codes image_block) → Runs (γ (names image_block)) (call image_block)
unfolding BlockContract
block_runs γ wired =
    in_cells 1 (to_read 0 tt u8 ∷ by_value (number_row w64) ∷ []) a_block _ (λ i r o. BlockContract (entries i.0) i.1.0 r) _
    (λ i r o e. ap (λ (y : Block). (y, tt)) e)
    (image_block_proof.met 𝓥 W₀ model⁺ (𝓡 γ) wired)

version_runs : (γ : Env) → Wired γ (codes version) → Runs (γ (names version)) (call version)
version_runs γ wired =
    in_cells 0 [] a_number _ (λ i r o. r ≡ this_version) _ (λ i r o e. ap (λ (y : ℕ). (y, tt)) e)
    (version_proof.met 𝓥 W₀ model⁺ (𝓡 γ) wired)

-- an environment that has the code of each
abbrev pub HasAll : Env → Type 0
HasAll γ = (x : Public) → Wired γ (codes x)

-- in each such environment each call runs
pub runs_in : (γ : Env) → HasAll γ → (x : Public) → Runs (γ (names x)) (call x)
runs_in γ h (of_book clear) = clear_runs γ (h (of_book clear))
runs_in γ h (of_book image_read) = image_read_runs γ (h (of_book image_read))
runs_in γ h (of_book (link true)) = link_runs true _ (link_up_proof.met 𝓥 W₀ model⁺ (𝓡 γ) (h (of_book (link true))))
runs_in γ h (of_book (link false)) = link_runs false _ (link_down_proof.met 𝓥 W₀ model⁺ (𝓡 γ) (h (of_book (link false))))
runs_in γ h (of_book (commit true)) = commit_runs true _ (commit_up_proof.met 𝓥 W₀ model⁺ (𝓡 γ) (h (of_book (commit true))))
runs_in γ h (of_book (commit false)) = commit_runs false _ (commit_down_proof.met 𝓥 W₀ model⁺ (𝓡 γ) (h (of_book (commit false))))
runs_in γ h (of_book link_batch) = batch_runs γ (h (of_book link_batch))
runs_in γ h (of_book hear) = hear_runs γ (h (of_book hear))
runs_in γ h (of_book mark_set) = set_runs γ (h (of_book mark_set))
runs_in γ h (of_book mark_remove) = remove_runs γ (h (of_book mark_remove))
runs_in γ h (of_book mark_return) = return_runs γ (h (of_book mark_return))
runs_in γ h (ask true) = ask_runs true _ (ask_up_proof.met 𝓥 W₀ model⁺ (𝓡 γ) (h (ask true)))
runs_in γ h (ask false) = ask_runs false _ (ask_down_proof.met 𝓥 W₀ model⁺ (𝓡 γ) (h (ask false)))
runs_in γ h check = check_runs γ (h check)
runs_in γ h number = number_runs γ (h number)
runs_in γ h neighbours = neighbours_runs γ (h neighbours)
runs_in γ h linked = linked_runs γ (h linked)
runs_in γ h first = first_runs γ (h first)
runs_in γ h later_of = later_runs γ (h later_of)
runs_in γ h lift = lift_runs γ (h lift)
runs_in γ h core = core_runs γ (h core)
runs_in γ h backbone = backbone_runs γ (h backbone)
runs_in γ h tree = tree_runs γ (h tree)
runs_in γ h staircase = staircase_runs γ (h staircase)
runs_in γ h image_write = write_runs γ (h image_write)
runs_in γ h sheet = sheet_runs γ (h sheet)
runs_in γ h script_length = length_runs γ (h script_length)
runs_in γ h script_write = script_runs γ (h script_write)
runs_in γ h image_block = block_runs γ (h image_block)
runs_in γ h reader_open = open_runs γ (h reader_open)
runs_in γ h reader_step = step_runs γ (h reader_step)
runs_in γ h reader_moved = moved_runs γ (h reader_moved)
runs_in γ h version = version_runs γ (h version)
