-- The contract of each public call: its result, with what is lent to be written as it is after the call, is the outcome worked out.
-- What is lent to be read stands once: no call can change it. Definitions only.
use Rattle.std.specs.Prelude.{◌≡◌}
use Rattle.lists.specs.Kit.{Bool, List, ℕ, ℤ}
use Rattle.mesh.specs.{Tables.{Tables}, declared.Node.{Node}}
use Rattle.calls.specs.{Outcomes.{tabled, linked_with, listing, clear_outcome, read_outcome}}
use Rattle.calls.specs.{Outcomes.{link_outcome, ask_outcome, commit_outcome, batch_outcome, hear_outcome, check_outcome, number_outcome}}
use Rattle.calls.specs.{Outcomes.{neighbours_outcome, linked_outcome, first_outcome, later_outcome, core_outcome, backbone_outcome, staircase_outcome}}
use Rattle.calls.specs.{Outcomes.{write_outcome, sheet_outcome, script_length_outcome, script_outcome, tree_outcome, block_outcome}}
use Rattle.calls.specs.{MarkOutcomes.{set_outcome, remove_outcome, return_outcome}, LiftOutcome.{lift_outcome}, declared.Reply.{Reply}}
use Rattle.calls.specs.{declared.Value.{Value}, declared.Later.{Later}, declared.Block.{Block}, declared.Pair.{Pair}}

-- ---- calls that write links, numbers and order

unfoldable pub ClearContract : (n : ℕ) → Tables → (r : ℕ) → (after : Tables) → Type 0
ClearContract n t r v = tabled r v ≡ clear_outcome n t

unfoldable pub ReadContract : (n : ℕ) → (image : List ℕ) → Tables → (r : ℕ) → (after : Tables) → Type 0
ReadContract n bs t r v = tabled r v ≡ read_outcome n bs t

-- document 02, W-211
unfoldable pub ReturnContract : (n : ℕ) → (name store : List ℕ) → Tables → (r : ℕ) → (after : Tables) → Type 0
ReturnContract n x bs t r v = tabled r v ≡ return_outcome n x bs t

unfoldable pub LinkContract :
    (up : Bool) → (n a b : ℕ) → Tables → (answer : List ℕ) → Reply → (after : Tables) → (answer_after : List ℕ) → Type 0
LinkContract up n a b t w r v x = linked_with r v x ≡ link_outcome up n a b t w

unfoldable pub CommitContract :
    (up : Bool) → (n a b : ℕ) → (step : ℤ) → (list : List ℕ) → Tables → Reply → (after : Tables) → Type 0
CommitContract up n a b z xs t r v = tabled r v ≡ commit_outcome up n a b z xs t

unfoldable pub BatchContract : (n : ℕ) → (list : List ℕ) → Tables → Value → (after : Tables) → Type 0
BatchContract n xs t r v = tabled r v ≡ batch_outcome n xs t

unfoldable pub HearContract :
    (n : ℕ) → (heard : List ℕ) → Tables → (further : List ℕ) → Value → (after : Tables) → (further_after : List ℕ) → Type 0
HearContract n hs t w r v x = linked_with r v x ≡ hear_outcome n hs t w

-- ---- calls that only read them

unfoldable pub CheckContract : (n : ℕ) → Tables → Value → Type 0
CheckContract n t r = r ≡ check_outcome n t

unfoldable pub NumberContract : (n v : ℕ) → Tables → Value → Type 0
NumberContract n v t r = r ≡ number_outcome n v t

unfoldable pub NeighboursContract : (n v : ℕ) → Tables → Value → Type 0
NeighboursContract n v t r = r ≡ neighbours_outcome n v t

unfoldable pub LinkedContract : (n a b : ℕ) → Tables → Value → Type 0
LinkedContract n a b t r = r ≡ linked_outcome n a b t

unfoldable pub FirstContract : (n a b : ℕ) → Tables → Value → Type 0
FirstContract n a b t r = r ≡ first_outcome n a b t

unfoldable pub LaterContract : (n v : ℕ) → Tables → Later → Type 0
LaterContract n v t r = r ≡ later_outcome n v t

unfoldable pub LiftContract : (n v : ℕ) → Tables → Pair → Type 0
LiftContract n v t r = r ≡ lift_outcome n v t

unfoldable pub AskContract : (up : Bool) → (n a b : ℕ) → Tables → (answer : List ℕ) → Reply → (answer_after : List ℕ) → Type 0
AskContract up n a b t w r x = listing r x ≡ ask_outcome up n a b t w

unfoldable pub CoreContract : (n v k : ℕ) → Tables → (answer : List ℕ) → Value → (answer_after : List ℕ) → Type 0
CoreContract n v k t w r x = listing r x ≡ core_outcome n v k t w

unfoldable pub BackboneContract : (n : ℕ) → Tables → (answer : List ℕ) → Value → (answer_after : List ℕ) → Type 0
BackboneContract n t w r x = listing r x ≡ backbone_outcome n t w

unfoldable pub StaircaseContract : (n : ℕ) → Tables → (table : List ℕ) → Value → (table_after : List ℕ) → Type 0
StaircaseContract n t w r x = listing r x ≡ staircase_outcome n t w

unfoldable pub WriteContract : (n : ℕ) → Tables → (buffer : List ℕ) → Value → (buffer_after : List ℕ) → Type 0
WriteContract n t w r x = listing r x ≡ write_outcome n t w

unfoldable pub SheetContract : (n : ℕ) → Tables → (page : List ℕ) → Value → (page_after : List ℕ) → Type 0
SheetContract n t w r x = listing r x ≡ sheet_outcome n t w

unfoldable pub ScriptLengthContract : (n : ℕ) → Tables → Value → Type 0
ScriptLengthContract n t r = r ≡ script_length_outcome n t

unfoldable pub ScriptContract : (n : ℕ) → Tables → (text : List ℕ) → Value → (text_after : List ℕ) → Type 0
ScriptContract n t w r x = listing r x ≡ script_outcome n t w

unfoldable pub TreeContract :
    (n : ℕ) → Tables → (nodes : List Node) → (answer : List ℕ) → Value → (nodes_after : List Node) → (answer_after : List ℕ) → Type 0
TreeContract n t m w r p x = listing r (p, x) ≡ tree_outcome n t m w

-- document 02, W-211
unfoldable pub SetContract : (n : ℕ) → (name : List ℕ) → Tables → (store : List ℕ) → (r : ℕ) → (after : List ℕ) → Type 0
SetContract n x t bs r cs = listing r cs ≡ set_outcome n x t bs

-- document 02, W-211
unfoldable pub RemoveContract : (n : ℕ) → (name : List ℕ) → Tables → (store : List ℕ) → (r : ℕ) → (after : List ℕ) → Type 0
RemoveContract n x t bs r cs = listing r cs ≡ remove_outcome n x t bs

-- ---- a step of the block reader

unfoldable pub BlockContract : (image : List ℕ) → (i : ℕ) → Block → Type 0
BlockContract bs i r = r ≡ block_outcome bs i
