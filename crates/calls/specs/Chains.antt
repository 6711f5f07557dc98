-- Names for the questions and the stores that one call's outcome alone says, for the code that asks them and its proofs.
--   nodes_length .. holds_script         questions 2, 9, 12 and 13 of one lent list
--   source_refusal                       15 and 11
--   link_refusal .. lift_refusal         the first "no" of the call's questions, or 0
--   set_store, removed_store             the store after an accepted call on marks
-- No statement cites them. Definitions only.
use Rattle.std.specs.Prelude.{◌&&◌, ◌+◌, ◌*◌}
use Rattle.lists.specs.Kit.{Bool, true, not, List, ℕ, leb}
use Rattle.mesh.specs.{Limits.{max_neighbours}, Graph.{Graph}, Tables.{Tables, graph_in}, Image.{image_of, other_size, is_image}, Marks.{place_of, marks_in}}
use Rattle.mesh.specs.{Marks.{store_of}}
use Rattle.mesh.specs.Marks.{with_mark, without_mark}
use Rattle.calls.specs.{Questions.{Lengths, ask, is_radio, has_level, answer_length, image_length, site_refusal, blocks_refusal, link_refusal_within}}
use Rattle.calls.specs.{Lift.{lifting, is_lifted}, Sheet.{sheet_length}, Script.{script_length}}

abbrev pub nodes_length : (n nodes : ℕ) → Bool
nodes_length n w = leb (n + 1) w

-- document 02, W-209: two entries a link, and there are fewer links than radios
abbrev pub staircase_length : (n table : ℕ) → Bool
staircase_length n w = leb (2 * n) w

abbrev pub holds_image : Graph → (buffer : ℕ) → Bool
holds_image g room = leb (image_length g) room

-- document 02, W-201: does the page hold the site sheet?
abbrev pub holds_sheet : (n page : ℕ) → Bool
holds_sheet n room = leb (sheet_length n) room

-- document 02, W-203: does the text buffer hold the script?
abbrev pub holds_script : Graph → (text : ℕ) → Bool
holds_script g room = leb (script_length g) room

-- document 01, question 11, and W-207's 15: 15 and 11: of which tables it is the image
abbrev pub source_refusal : (n : ℕ) → (image : List ℕ) → ℕ
source_refusal n bs = ask 15 (not (other_size n bs)) (ask 11 (is_image n bs) 0)

abbrev pub link_refusal : (up : Bool) → (n a b : ℕ) → Lengths → (answer : ℕ) → (sound : Bool) → Graph → ℕ
link_refusal up n a b l w sound g = link_refusal_within max_neighbours up n a b l w sound g

-- 4 and 8
abbrev pub level_refusal : (n v k : ℕ) → Graph → ℕ
level_refusal n v k g = ask 4 (is_radio n v) (ask 8 (has_level g v k) 0)

-- a connected core: 1 to 4 and 8
abbrev pub core_refusal : (n v k : ℕ) → Lengths → (answer : ℕ) → (sound : Bool) → Graph → ℕ
core_refusal n v k l w sound g =
    site_refusal n l (answer_length n w) sound (level_refusal n v k g)

-- the backbone: 1 to 3
abbrev pub backbone_refusal : (n : ℕ) → Lengths → (answer : ℕ) → (sound : Bool) → ℕ
backbone_refusal n l w sound = site_refusal n l (answer_length n w) sound 0

-- the shell tree: 1 to 3
abbrev pub tree_refusal : (n : ℕ) → Lengths → (nodes answer : ℕ) → (sound : Bool) → ℕ
tree_refusal n l m w sound = site_refusal n l (nodes_length n m && answer_length n w) sound 0

-- document 02, W-209: the staircase tree: 1 to 3
abbrev pub staircase_refusal : (n : ℕ) → Lengths → (table : ℕ) → (sound : Bool) → ℕ
staircase_refusal n l w sound = site_refusal n l (staircase_length n w) sound 0

-- writing an image: 1 to 3 and 9
abbrev pub write_refusal : (n : ℕ) → Lengths → (buffer : ℕ) → (sound : Bool) → Graph → ℕ
write_refusal n l room sound g = site_refusal n l true sound (ask 9 (holds_image g room) 0)

-- document 02, W-201: the site sheet: 1 to 3 and 12
abbrev pub sheet_refusal : (n : ℕ) → Lengths → (page : ℕ) → (sound : Bool) → ℕ
sheet_refusal n l room sound = site_refusal n l true sound (ask 12 (holds_sheet n room) 0)

-- document 02, W-203: a script's length: 1 to 3
abbrev pub script_length_refusal : (n : ℕ) → Lengths → (sound : Bool) → ℕ
script_length_refusal n l sound = site_refusal n l true sound 0

-- document 02, W-203: the script: 1 to 3 and 13
abbrev pub script_refusal : (n : ℕ) → Lengths → (text : ℕ) → (sound : Bool) → Graph → ℕ
script_refusal n l room sound g = site_refusal n l true sound (ask 13 (holds_script g room) 0)

-- a step of the block reader: 9 and 10
abbrev pub block_refusal : (image : List ℕ) → ℕ
block_refusal bs = blocks_refusal bs 0

-- document 02, W-212: one link that lifts a radio: 1 to 4 and 20
abbrev pub lift_refusal : (n v : ℕ) → Lengths → (sound : Bool) → Graph → ℕ
lift_refusal n v l sound g = site_refusal n l true sound (ask 4 (is_radio n v) (ask 20 (is_lifted (lifting g v)) 0))

-- the mark is the image of the tables
abbrev pub set_store : (n : ℕ) → (name : List ℕ) → Tables → (store : List ℕ) → List ℕ
set_store n x t bs = store_of (with_mark (place_of x (image_of (graph_in n t.links) t.order)) (marks_in bs))

abbrev pub removed_store : (name store : List ℕ) → List ℕ
removed_store x bs = store_of (without_mark x (marks_in bs))
