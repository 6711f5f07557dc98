-- What a caller has after an accepted call, in document 01's words: property 2. The proofs are in proofs/Accepted.antt;
-- of the staircase tree in crate forests.
--   NumbersRight     numbers are core numbers of a graph by the largest group, and the order is a k-order of it
--   SiteRight        document 01: sound tables are exactly the ones with proper rows, core numbers and a k-order
--   LinkRight        after a link call: the graph in the new links table, its rows, numbers and order
--   AskRight         the radios that asking lists: the ones whose core number the link would change
--   CommitRight      after a committing: the graph in the new links table, its rows, numbers and order
--   BatchRight       after a batch: the same, by the links done
--   HearRight        after a hearing: the links are exactly the agreed ones, and the one-sided pairs are marked and counted
--   Listed            a list of radios in front of a lent list
--   LaterRight       the later neighbours of a radio: how many, and the first of them
--   RadiosListed     the radios listed: those of a connected core, of the backbone
--   TreeListed       the nodes listed, and each radio's node name
--   SheetRight       the site sheet, column by column
--   ScriptRight      the script that rebuilds the site
--   ScriptBeforehand the script's length beforehand decides the call that writes it
--   StaircaseListed  the kept links listed, and what they are
--   WrittenRight, ReadRight      after writing and reading an image
--   ImageAnswered    the number that reading answers where 1, 2, 9 and 10 got yes
--   BlockPart, BlockEnd   what a step of the block reader gives
-- Definitions only.
use Rattle.std.specs.Prelude.{◌≡◌, ◌↔◌, ◌&&◌, ◌+◌, ◌*◌, ◌/◌, ◌≤◌, ◌<◌}
use Rattle.lists.specs.{Kit.{Bool, true, not, cond, List, eqb, ℕ, length, get_or, take, drop}, Lists.{range, total}}
use Rattle.lists.specs.{Lists.{member, Ascending}}
use Rattle.mesh.specs.{Limits.{max_radios, max_neighbours}, Graph.{Graph, graph, linked, relinked}, Cores.{Core, number}, Orders.{is_k_order, later_in, nobody}}
use Rattle.mesh.specs.{Orders.{FirstLater}, Tables.{Tables, marked, graph_in}, Sound.{row_degree, rows_proper, number_in, sound}, Tree.{IsTree, NodeName}}
use Rattle.mesh.specs.{Staircase.{staircase, link_entries, StaircaseTree}, Image.{block_bytes}}
use Rattle.mesh.specs.{Image.{payload_bytes, payload_at, image_of, image_graph, TablesImage, OtherSize, ImageOfNone}, declared.Node.{Node}}
use Rattle.calls.specs.{Sheet.{line_bytes, sheet, sheet_lines, Columns}, Script.{script_of}, Outcomes.{no_block}, Switches.{pairs_after, tables_after}}
use Rattle.calls.specs.{Switches.{AllAllowed}, Questions.{ends_refusal}, Batches.{ups}, Heard.{heard_switches}, declared.Reply.{Reply}}
use Rattle.calls.specs.{declared.Value.{Value}, declared.Block.{Block}}

-- ---- numbers and order

pub record NumbersRight (g : Graph) (t : Tables) : Type 0 where
  pub cores : (x : ℕ) → x < g.n → Core g x (number_in t.numbers x)
  pub k_order : is_k_order g t.order ≡ true

pub record SiteRight (n : ℕ) (t : Tables) : Type 0 where
  pub rows : rows_proper max_neighbours n t.links ≡ true
  pub right : NumbersRight (graph_in n t.links) t

-- a list fills the first `count` entries of the lent list x, ascending; later entries keep the content of w, the list before the call
pub record Listed (count : ℕ) (w x : List ℕ) : Type 0 where
  pub ascending : Ascending (take count x)
  pub later_entries : drop count x ≡ drop count w

-- t and v are the tables before and after the call; the changed radios are listed
pub record LinkRight (up : Bool) (n a b : ℕ) (t v : Tables) (count : ℕ) (w x : List ℕ) : Type 0 where
  pub graph : graph_in n v.links ≡ relinked up a b (graph_in n t.links)
  pub right : SiteRight n v
  pub listed : Listed count w x

-- document 02, W-210: g is the graph in the tables; a radio is listed exactly if its core number would differ
pub record AskRight (up : Bool) (a b : ℕ) (g : Graph) (count : ℕ) (w x : List ℕ) : Type 0 where
  pub exactly :
      (v j k : ℕ) → v < g.n → Core g v j → Core (relinked up a b g) v k → (member v (take count x) ≡ true) ↔ (j ≡ k → ⊥)
  pub listed : Listed count w x

-- document 02, W-210: t and v are the tables before and after
pub record CommitRight (up : Bool) (n a b : ℕ) (t v : Tables) : Type 0 where
  pub graph : graph_in n v.links ≡ relinked up a b (graph_in n t.links)
  pub right : SiteRight n v

-- ---- a batch

-- document 02, W-213: t and v are the tables before and after: the graph is what the links done make of it, which are all where the number is 0
pub record BatchRight (n : ℕ) (list : List ℕ) (t v : Tables) (r : Value) : Type 0 where
  pub graph : graph_in n v.links ≡ graph n (pairs_after (ups (take (2 * r.value) list)) (graph_in n t.links).links)
  pub right : SiteRight n v
  pub all : r.number ≡ 0 → 2 * r.value ≡ length list

-- document 02, W-213: the links before place `value` of the list are up, as single calls leave them, and the link at that place is refused by that number
-- of the tables as they are left
pub record BatchStopped (n : ℕ) (xs : List ℕ) (t : Tables) (r : Value) (v : Tables) : Type 0 where
  pub there : 2 * r.value + 1 < length xs
  pub done : v ≡ tables_after n (ups (take (2 * r.value) xs)) t
  pub refused :
      r.number ≡ ends_refusal max_neighbours true n (get_or xs (2 * r.value) 0) (get_or xs (2 * r.value + 1) 0) (graph_in n v.links)

-- document 02, W-213: the reply and the tables of a single call, the value and the tables of a batch
pub record BatchSingle (q : Reply) (u : Tables) (r : Value) (v : Tables) : Type 0 where
  pub number : r.number ≡ q.number
  pub value : r.value ≡ cond (eqb q.number 0) 1 0
  pub tables : v ≡ u

-- ---- a hearing

-- document 02, W-205: t and v are the tables before and after, x is the further table after
pub record HearRight (n : ℕ) (heard : List ℕ) (t v : Tables) (r : Value) (x : List ℕ) : Type 0 where
  -- no single call would be refused
  pub allowed : AllAllowed n (graph_in n t.links).links (heard_switches (graph_in n t.links) heard)
  -- bit b of row a of the links is set exactly if each of a and b hears the other
  pub links : (a b : ℕ) → a < n → b < max_radios → marked v.links a b ≡ (marked heard a b && marked heard b a)
  pub right : SiteRight n v
  -- bit b of row a is set exactly if a hears b and b does not hear a
  pub marks : (a b : ℕ) → a < n → b < max_radios → marked x a b ≡ (marked heard a b && not (marked heard b a))
  -- the value is the number of bits set in the further table
  pub counted : r.value ≡ total (row_degree x) (range 0 n)

-- ---- later neighbours

-- document 02, W-206: xs is the order
pub record LaterRight (g : Graph) (v : ℕ) (xs : List ℕ) (count first : ℕ) : Type 0 where
  pub counted : count ≡ length (later_in (linked g) v xs)
  pub some : 0 < count → FirstLater (linked g) v first xs
  pub none : (first ≡ nobody) ↔ (count ≡ 0)

-- ---- connected cores, backbone, shell tree

-- exactly the radios of which P holds are listed
pub record RadiosListed (P : ℕ → Type 0) (count : ℕ) (w x : List ℕ) : Type 0 where
  pub exactly : (y : ℕ) → (member y (take count x) ≡ true) ↔ P y
  pub listed : Listed count w x

-- m and w are the list of nodes and the answer table before the call, p and x the same after it
pub record TreeListed (g : Graph) (count : ℕ) (m p : List Node) (w x : List ℕ) : Type 0 where
  -- the nodes in front are the shell tree, and no other list is; later places keep their content
  pub nodes : (xs : List Node) → IsTree g xs ↔ (xs ≡ take count p)
  pub later_nodes : drop count p ≡ drop count m
  -- each radio's entry is its node's name, and nothing else is; later entries keep their content
  pub names : (v : ℕ) → v < g.n → (y : ℕ) → NodeName g v y ↔ (y ≡ get_or x v 0)
  pub later_entries : drop g.n x ≡ drop g.n w

-- ---- the site sheet

-- document 02, W-201: the first `size` bytes are the sheet, 65 a line, with each radio's core number in its cell; later bytes keep their content
pub record SheetRight (n : ℕ) (t : Tables) (size : ℕ) (w x : List ℕ) : Type 0 where
  pub long : size ≡ line_bytes * sheet_lines n
  pub page : take size x ≡ sheet t.numbers
  pub columns : Columns n (number (graph_in n t.links)) x
  pub later_bytes : drop size x ≡ drop size w

-- document 02, W-203: the first `size` bytes are the script; later bytes keep their content
pub record ScriptRight (n : ℕ) (t : Tables) (size : ℕ) (w x : List ℕ) : Type 0 where
  pub long : size ≡ length (script_of (graph_in n t.links))
  pub text : take size x ≡ script_of (graph_in n t.links)
  pub later_bytes : drop size x ≡ drop size w

-- document 02, W-203: of the same tables: `length` is the length beforehand, `room` the text buffer's; number and value are writing's
pub record ScriptBeforehand (length room number value : ℕ) : Type 0 where
  pub written : length ≤ room → (number ≡ 0) × (value ≡ length)
  pub refused : room < length → (number ≡ 13) × (value ≡ 0)

-- document 02, W-209: w and x are the lent table before and after the call
pub record StaircaseListed (g : Graph) (count : ℕ) (w x : List ℕ) : Type 0 where
  -- the kept links stand in front, two entries each; later entries keep their content
  pub counted : count ≡ length (staircase g)
  pub listed : take (2 * count) x ≡ link_entries (staircase g)
  pub later_entries : drop (2 * count) x ≡ drop (2 * count) w
  -- a heaviest spanning forest, with the widest ways, in document 02's order
  pub tree : StaircaseTree g (staircase g)

-- ---- images

-- the first `size` bytes are the image of the tables, and of sound tables; later bytes keep their content
pub record WrittenRight (n : ℕ) (t : Tables) (size : ℕ) (w x : List ℕ) : Type 0 where
  pub image : take size x ≡ image_of (graph_in n t.links) t.order
  pub is_image : TablesImage n (take size x)
  pub later_bytes : drop size x ≡ drop size w

pub record ReadRight (n : ℕ) (image : List ℕ) (v : Tables) : Type 0 where
  pub is_sound : sound n v ≡ true
  -- the links are the ones that the image lists, numbers and order are right for them, and written again they give the same bytes
  pub graph : graph_in n v.links ≡ image_graph n image
  pub right : NumbersRight (image_graph n image) v
  pub same_bytes : image_of (image_graph n image) v.order ≡ image

-- document 02, W-207: accepted is the image of sound tables with this n, refused by 15 that with another n, by 11 that of none
pub record ImageAnswered (n : ℕ) (image : List ℕ) (r : ℕ) : Type 0 where
  pub accepted : (r ≡ 0) ↔ TablesImage n image
  pub other_size : (r ≡ 15) ↔ OtherSize n image
  pub none : (r ≡ 11) ↔ ImageOfNone image

-- block i is given: its payload is 504 bytes of the image, which lie in it, and the reader moves to the next block
pub record BlockPart (image : List ℕ) (i : ℕ) (r : Block) : Type 0 where
  pub is_block : i < length image / block_bytes
  pub not_end : r.end ≡ 0
  pub starts : r.offset ≡ block_bytes * i + 4
  pub long : r.length ≡ payload_bytes
  pub inside : r.offset + r.length ≤ length image
  pub payload : take r.length (drop r.offset image) ≡ payload_at image i
  pub moves : r.next ≡ i + 1

-- after the last block: the end, with an empty part, and the reader keeps its number
pub record BlockEnd (image : List ℕ) (i : ℕ) (r : Block) : Type 0 where
  pub past : length image / block_bytes ≤ i
  pub none : r ≡ no_block 0 1 i
