-- The machine: the public calls, listed once. They are the exported ones, and the block reader in document 01's own form, a struct that
-- holds the image. Of each its parameters, its result as a machine value, and its outcome.
--   Known             the calls that document 01's book knows
--   Public            all calls
--   site_params       so many numbers, then links, numbers and order lent in one way, then what else is lent
--   the_tables        links, numbers and order, as they are lent
--   with_tables .. with_list   an outcome as its reply and what is lent to be written
--   on_tables         a function of numbers, tables and what else is lent, as one of what is passed
--   ..-value          a result as the machine holds it
--   a_reader          a reader as it is passed, and as it is given back: the image, lent to be read, and the number of the next block
--   step_value        what a step of the reader gives, of an image at that place: the part of the image that its form for C tells of, and the numbers
--   call              the call
-- Definitions only.
use Rattle.std.specs.Prelude.{◌∷◌, ◌+◌, ◌<◌, ◌^◌}
use Rattle.lists.specs.Kit.{Bool, List, [], ℕ, zero, suc}
use mir.{Syntax.{w8, w16, w32, w64, ty_int, ty_struct, tcons, tnil}, Val.{Val, vint, vstruct, vcons, vnil, of_list, of_z}}
use Rattle.machine.specs.Cells.{Form, unsigned, signed, Mode, to_read, to_write, Param, by_value, lent, lent_with, Place, Lent, place, entries, Outputs}
use Rattle.machine.specs.Cells.{OfInputs, pointer, passes, Call}
use Rattle.mesh.specs.{Tables.{Tables, tables}, declared.Node.{Node}}
use Rattle.calls.specs.{declared.Reply.{Reply}, declared.Value.{Value}, declared.Later.{Later}, declared.Pair.{Pair}, declared.Block.{Block}}
use Rattle.calls.specs.{Outcomes.{Tabled, Linked, Listing, clear_outcome, read_outcome, link_outcome, ask_outcome, commit_outcome, batch_outcome, hear_outcome}}
use Rattle.calls.specs.{Outcomes.{check_outcome}}
use Rattle.calls.specs.{Outcomes.{number_outcome, neighbours_outcome, linked_outcome, first_outcome, later_outcome, core_outcome, backbone_outcome}}
use Rattle.calls.specs.{Outcomes.{tree_outcome, staircase_outcome, write_outcome, sheet_outcome, script_length_outcome, script_outcome, block_outcome}}
use Rattle.calls.specs.{MarkOutcomes.{set_outcome, remove_outcome, return_outcome}, LiftOutcome.{lift_outcome}}

-- ---- the list

pub data Known : Type 0 where
  clear : Known
  image_read : Known
  link : (up : Bool) → Known
  commit : (up : Bool) → Known
  link_batch : Known
  hear : Known
  mark_set : Known
  mark_remove : Known
  mark_return : Known

pub data Public : Type 0 where
  of_book : Known → Public
  ask : (up : Bool) → Public
  check : Public
  number : Public
  neighbours : Public
  linked : Public
  first : Public
  later_of : Public
  lift : Public
  core : Public
  backbone : Public
  tree : Public
  staircase : Public
  image_write : Public
  sheet : Public
  script_length : Public
  script_write : Public
  image_block : Public
  reader_open : Public
  reader_step : Public
  reader_moved : Public
  version : Public

-- ---- parameters

abbrev pub bytes : Form
bytes = unsigned w8

abbrev pub words : Form
words = unsigned w16

-- a radio, a count of radios, a level
abbrev pub a_number : Param
a_number = by_value (unsigned w32)

abbrev pub site_params : (numbers : ℕ) → Mode → (others : List Param) → List Param
site_params zero m ps = lent m bytes ∷ lent m bytes ∷ lent m words ∷ ps
site_params (suc k) m ps = a_number ∷ site_params k m ps

abbrev pub the_tables : (links numbers order : Lent ℕ) → Tables
the_tables ls ns os = tables (entries ls) (entries ns) (entries os)

abbrev pub OnTables : (numbers : ℕ) → (others : List Param) → Type 0 → Type 0
OnTables zero ps A = Tables → OfInputs ps A
OnTables (suc k) ps A = ℕ → OnTables k ps A

abbrev pub on_tables : (k : ℕ) (m : Mode) (ps : List Param) (A : Type 0) → OnTables k ps A → OfInputs (site_params k m ps) A
on_tables zero m ps A f = λ ls ns os. f (the_tables ls ns os)
on_tables (suc k) m ps A f = λ n. on_tables k m ps A (f n)

-- ---- structs, as the machine holds them

abbrev pub nodes : Form
nodes = record {
  Value = Node;
  ty = ty_struct [] (tcons (ty_int w16) (tcons (ty_int w16) (tcons (ty_int w16) tnil)));
  machine = λ d. vstruct (vcons (vint w16 d.name) (vcons (vint w16 d.level) (vcons (vint w16 d.parent) vnil)));
  Holds = λ d. (d.name < 2 ^ 16) × (d.level < 2 ^ 16) × (d.parent < 2 ^ 16);
}

abbrev pub number_value : ℕ → Val
number_value r = vint w32 r

abbrev pub reply_value : Reply → Val
reply_value r = vstruct (vcons (vint w32 r.number) (vcons (vint w8 (of_z w8 r.step)) (vcons (vint w32 r.count) vnil)))

abbrev pub value_value : Value → Val
value_value r = vstruct (vcons (vint w32 r.number) (vcons (vint w32 r.value) vnil))

abbrev pub three_value : (x y z : ℕ) → Val
three_value x y z = vstruct (vcons (vint w32 x) (vcons (vint w32 y) (vcons (vint w32 z) vnil)))

abbrev pub block_value : Block → Val
block_value r =
    vstruct (of_list (vint w32 r.number ∷ vint w32 r.end ∷ vint w64 r.offset ∷ vint w64 r.length ∷ vint w64 r.next ∷ []))

-- ---- the block reader

abbrev pub a_reader : Param
a_reader = lent_with bytes (unsigned w64)

abbrev pub step_value : Place × Block → Val
step_value s =
    let part = pointer (s.0.0, s.1.offset + s.0.1) s.1.length in
    vstruct (of_list (part ∷ vint w32 s.1.number ∷ vint w32 s.1.end ∷ vint w64 s.1.next ∷ []))

-- ---- the version

-- of the calls and of what they are lent: it goes up where a host that was written for the one before would notice
abbrev pub this_version : ℕ
this_version = 1

-- ---- calls

abbrev a_call : (ps : List Param) → {R : Type 0} → (R → Val) → OfInputs ps (R × Outputs ps) → Call
a_call ps {R} v o = record { params = ps; Result = R; value = v; outcome = o }

abbrev site_call : (k : ℕ) (m : Mode) (ps : List Param) {R : Type 0} → (R → Val) → OnTables k ps (R × Outputs (site_params k m ps)) → Call
site_call k m ps {R} v o = a_call (site_params k m ps) v (on_tables k m ps (R × Outputs (site_params k m ps)) o)

-- what a call comes to: the reply, with the tables, with a further list, or with a list alone
abbrev pub with_tables : {R : Type 0} → Tabled R → R × (List ℕ × (List ℕ × (List ℕ × Unit {0})))
with_tables o = (o.reply, (o.tables.links, (o.tables.numbers, (o.tables.order, tt))))

abbrev pub with_both : {R : Type 0} → Linked R → R × (List ℕ × (List ℕ × (List ℕ × (List ℕ × Unit {0}))))
with_both o = (o.reply, (o.tables.links, (o.tables.numbers, (o.tables.order, (o.lent, tt)))))

abbrev pub with_list : {R : Type 0} → Listing R (List ℕ) → R × (List ℕ × Unit {0})
with_list o = (o.reply, (o.lent, tt))

-- document 01, with the calls of W-201, W-203, W-205, W-206, W-209, W-210, W-211, W-212 and W-213
abbrev pub call : Public → Call
call (of_book clear) = site_call 1 to_write [] number_value (λ n t. with_tables (clear_outcome n t))
call (of_book image_read) = site_call 1 to_write (lent to_read bytes ∷ []) number_value (λ n t image. with_tables (read_outcome n (entries image) t))
call (of_book (link up)) =
    site_call 3 to_write (lent to_write words ∷ []) reply_value (λ n a b t answer. with_both (link_outcome up n a b t (entries answer)))
call (of_book (commit up)) =
    a_call (a_number ∷ a_number ∷ a_number ∷ by_value (signed w8) ∷ site_params 0 to_write (lent to_read words ∷ [])) reply_value
    (λ n a b step ls ns os list. with_tables (commit_outcome up n a b step (entries list) (the_tables ls ns os)))
call (of_book link_batch) = site_call 1 to_write (lent to_read words ∷ []) value_value (λ n t list. with_tables (batch_outcome n (entries list) t))
call (of_book hear) =
    site_call 1 to_write (lent to_read bytes ∷ lent to_write bytes ∷ []) value_value
    (λ n t heard further. with_both (hear_outcome n (entries heard) t (entries further)))
call (of_book mark_set) =
    site_call 1 to_read (lent to_read bytes ∷ lent to_write bytes ∷ []) number_value
    (λ n t name store. with_list (set_outcome n (entries name) t (entries store)))
call (of_book mark_remove) =
    site_call 1 to_read (lent to_read bytes ∷ lent to_write bytes ∷ []) number_value
    (λ n t name store. with_list (remove_outcome n (entries name) t (entries store)))
call (of_book mark_return) =
    site_call 1 to_write (lent to_read bytes ∷ lent to_read bytes ∷ []) number_value
    (λ n t name store. with_tables (return_outcome n (entries name) (entries store) t))
call (ask up) = site_call 3 to_read (lent to_write words ∷ []) reply_value (λ n a b t answer. with_list (ask_outcome up n a b t (entries answer)))
call check = site_call 1 to_read [] value_value (λ n t. (check_outcome n t, tt))
call number = site_call 2 to_read [] value_value (λ n v t. (number_outcome n v t, tt))
call neighbours = site_call 2 to_read [] value_value (λ n v t. (neighbours_outcome n v t, tt))
call linked = site_call 3 to_read [] value_value (λ n a b t. (linked_outcome n a b t, tt))
call first = site_call 3 to_read [] value_value (λ n a b t. (first_outcome n a b t, tt))
call later_of = site_call 2 to_read [] (λ (r : Later). three_value r.number r.count r.first) (λ n v t. (later_outcome n v t, tt))
call lift = site_call 2 to_read [] (λ (r : Pair). three_value r.number r.low r.high) (λ n v t. (lift_outcome n v t, tt))
call core = site_call 3 to_read (lent to_write words ∷ []) value_value (λ n v k t answer. with_list (core_outcome n v k t (entries answer)))
call backbone = site_call 1 to_read (lent to_write words ∷ []) value_value (λ n t answer. with_list (backbone_outcome n t (entries answer)))
call tree =
    site_call 1 to_read (lent to_write nodes ∷ lent to_write words ∷ []) value_value
    (λ n t list answer. let o = tree_outcome n t (entries list) (entries answer) in (o.reply, (o.lent.0, (o.lent.1, tt))))
call staircase = site_call 1 to_read (lent to_write words ∷ []) value_value (λ n t table. with_list (staircase_outcome n t (entries table)))
call image_write = site_call 1 to_read (lent to_write bytes ∷ []) value_value (λ n t buffer. with_list (write_outcome n t (entries buffer)))
call sheet = site_call 1 to_read (lent to_write bytes ∷ []) value_value (λ n t page. with_list (sheet_outcome n t (entries page)))
call script_length = site_call 1 to_read [] value_value (λ n t. (script_length_outcome n t, tt))
call script_write = site_call 1 to_read (lent to_write bytes ∷ []) value_value (λ n t text. with_list (script_outcome n t (entries text)))
call image_block = a_call (lent to_read bytes ∷ by_value (unsigned w64) ∷ []) block_value (λ image i. (block_outcome (entries image) i, tt))
call reader_open = a_call (lent to_read bytes ∷ []) (passes a_reader) (λ image. ((image, 0), tt))
call reader_step = a_call (a_reader ∷ []) step_value (λ r. ((place r.0, block_outcome (entries r.0) r.1), tt))
call reader_moved = a_call (a_reader ∷ []) (passes a_reader) (λ r. ((r.0, (block_outcome (entries r.0) r.1).next), tt))
call version = a_call [] number_value (this_version, tt)
