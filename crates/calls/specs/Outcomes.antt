-- The outcome of each call as an executable definition: its result with the lent tables after it.
--   Tabled, Linked, Listing              what a call comes to: its reply, with the tables, a further list, or what else is lent to be written
--   clear_outcome .. block_outcome       the outcome of each contract, from what the call is given
--   link_outcome_within most             a link call with that bound on neighbours in questions 3 and 7
-- The contract of a call (CallContracts.antt) is that its result and lent tables are this outcome.
-- Definitions only.
use Rattle.std.specs.Prelude.{◌&&◌, ◌∷◌, ◌+◌, ◌*◌, ◌/◌}
use Rattle.lists.specs.{Kit.{Bool, true, false, cond, List, [], ℕ, leb, ltb, eqb, ℤ, pos, length, replicate}, Lists.{range, head_or}}
use Rattle.lists.specs.{Lists.{overwrite}}
use Rattle.mesh.specs.{Limits.{max_neighbours, row_bytes}, Graph.{linked, degree}, Cores.{number}, Orders.{later_in, nobody}, Levels.{changed, step_of}}
use Rattle.mesh.specs.{Tables.{Tables, tables, graph_in, tables_of}, Sound.{sound_within, sound}, Connected.{core_of, backbone}, Tree.{tree, node_names}}
use Rattle.mesh.specs.{Staircase.{staircase, link_entries}, Image.{block_bytes, payload_bytes, image_of, image_graph, image_order}, declared.Node.{Node}}
use Rattle.calls.specs.{Questions.{ask, by_number, lengths_of, answer_length, is_radio, has_level, image_length, site_refusal}}
use Rattle.calls.specs.{Questions.{tables_refusal, link_refusal_within, commit_refusal}}
use Rattle.calls.specs.{Questions.{radio_refusal, pair_refusal, blocks_refusal, read_refusal}, Sheet.{sheet, sheet_length}, Script.{script_of}}
use Rattle.calls.specs.{Script.{script_length}, Switches.{switch, switched, tables_after}, Batches.{batch_refusal, batch_switches, batch_stop}}
use Rattle.calls.specs.{Heard.{hear_refusal, one_sided, one_sided_count, heard_switches}, declared.Reply.{Reply}, declared.Value.{Value}}
use Rattle.calls.specs.{declared.Later.{Later}, declared.Block.{Block}}

abbrev pub reply : (number : ℕ) → (step : ℤ) → (count : ℕ) → Reply
reply r s c = record { number = r; step = s; count = c }

abbrev pub value : (number value : ℕ) → Value
value r x = record { number = r; value = x }

-- ---- what a call comes to: its reply, and what is lent to be written as it is after the call

-- clearing, reading, coming back to a mark, committing, a batch: R is the reply's type
pub record Tabled (R : Type 0) : Type 0 where
  pub reply : R
  pub tables : Tables

abbrev pub tabled : {R : Type 0} → R → Tables → Tabled R
tabled r t = record { reply = r; tables = t }

-- a link call, a hearing: with a further list that is lent
pub record Linked (R : Type 0) : Type 0 where
  pub reply : R
  pub tables : Tables
  pub lent : List ℕ

abbrev pub linked_with : {R : Type 0} → R → Tables → (lent : List ℕ) → Linked R
linked_with r t x = record { reply = r; tables = t; lent = x }

-- calls that only read the tables: X is the type of what is lent to be written
pub record Listing (R X : Type 0) : Type 0 where
  pub reply : R
  pub lent : X

abbrev pub listing : {R X : Type 0} → R → (lent : X) → Listing R X
listing r x = record { reply = r; lent = x }

-- ---- calls that write links, numbers and order

-- zero links, zero numbers and the order 0 to n - 1
unfoldable pub clear_outcome : (n : ℕ) → Tables → Tabled ℕ
clear_outcome n t =
    by_number (tables_refusal n (lengths_of t))
    (tabled 0 (tables (replicate (row_bytes * n) 0) (replicate n 0) (range 0 n)))
    (λ q. tabled q t)

-- the tables of the image
unfoldable pub read_outcome : (n : ℕ) → (image : List ℕ) → Tables → Tabled ℕ
read_outcome n bs t =
    by_number (read_refusal n (lengths_of t) bs) (tabled 0 (tables_of (image_graph n bs) (image_order n bs))) (λ q. tabled q t)

-- the reply, the tables with the link switched, and the changed radios in front of the answer table
abbrev pub link_outcome_within : (most : ℕ) → (up : Bool) → (n a b : ℕ) → Tables → (answer : List ℕ) → Linked Reply
link_outcome_within most up n a b t w =
    let g = graph_in n t.links in
    let cs = changed up a b g in
    by_number (link_refusal_within most up n a b (lengths_of t) (length w) (sound_within most n t) g)
    (linked_with (reply 0 (step_of up cs) (length cs)) (switched n (switch up a b) t) (overwrite cs w))
    (λ q. linked_with (reply q (pos 0) 0) t w)

unfoldable pub link_outcome : (up : Bool) → (n a b : ℕ) → Tables → (answer : List ℕ) → Linked Reply
link_outcome up n a b t w = link_outcome_within max_neighbours up n a b t w

-- ---- a link call in two steps

-- document 02, W-210: the link call's reply and answer table
unfoldable pub ask_outcome : (up : Bool) → (n a b : ℕ) → Tables → (answer : List ℕ) → Listing Reply (List ℕ)
ask_outcome up n a b t w = let o = link_outcome up n a b t w in listing o.reply o.lent

-- document 02, W-210: the reply, and the tables with the link switched
unfoldable pub commit_outcome : (up : Bool) → (n a b : ℕ) → (step : ℤ) → (list : List ℕ) → Tables → Tabled Reply
commit_outcome up n a b z xs t =
    let g = graph_in n t.links in
    let cs = changed up a b g in
    by_number (commit_refusal up n a b z xs (lengths_of t) (sound n t) g)
    (tabled (reply 0 (step_of up cs) (length cs)) (switched n (switch up a b) t))
    (λ q. tabled (reply q (pos 0) 0) t)

-- ---- a batch

-- document 02, W-213: links taken up one by one: the number of the link refused, or 0, the count of links done, and the tables with these up
unfoldable pub links_taken : (n : ℕ) → (list : List ℕ) → Tables → Tabled Value
links_taken n xs t =
    let ps = (graph_in n t.links).links in
    tabled (value (batch_stop n xs ps) (length (batch_switches n xs ps))) (tables_after n (batch_switches n xs ps) t)

-- document 02, W-213
unfoldable pub batch_outcome : (n : ℕ) → (list : List ℕ) → Tables → Tabled Value
batch_outcome n xs t =
    by_number (batch_refusal n (lengths_of t) (length xs) (sound n t)) (links_taken n xs t) (λ q. tabled (value q 0) t)

-- ---- a hearing

-- document 02, W-205: the count of one-sided pairs, the tables with the agreed links, and the further table, where w is what it holds before
unfoldable pub hear_outcome : (n : ℕ) → (heard : List ℕ) → Tables → (further : List ℕ) → Linked Value
hear_outcome n hs t w =
    by_number (hear_refusal n (lengths_of t) hs (length w) (sound n t))
    (linked_with (value 0 (one_sided_count n hs)) (tables_after n (heard_switches (graph_in n t.links) hs) t) (one_sided n hs))
    (λ q. linked_with (value q 0) t w)

-- ---- a value

-- the value x, or the refusal
unfoldable pub value_outcome : (refusal x : ℕ) → Value
value_outcome R x = by_number R (value 0 x) (λ q. value q 0)

unfoldable pub check_outcome : (n : ℕ) → Tables → Value
check_outcome n t = value_outcome (tables_refusal n (lengths_of t)) (cond (sound n t) 1 0)

unfoldable pub number_outcome : (n v : ℕ) → Tables → Value
number_outcome n v t = value_outcome (radio_refusal n v (lengths_of t) (sound n t)) (number (graph_in n t.links) v)

unfoldable pub neighbours_outcome : (n v : ℕ) → Tables → Value
neighbours_outcome n v t = value_outcome (radio_refusal n v (lengths_of t) (sound n t)) (degree (graph_in n t.links) v)

unfoldable pub linked_outcome : (n a b : ℕ) → Tables → Value
linked_outcome n a b t = value_outcome (pair_refusal n a b (lengths_of t) (sound n t)) (cond (linked (graph_in n t.links) a b) 1 0)

-- which of a and b stands first in the list; the same radio twice: that radio; neither of them there: a
unfoldable pub first_of_two : (a b : ℕ) → List ℕ → ℕ
first_of_two a b [] = a
first_of_two a b (x ∷ xs) = let rest = first_of_two a b xs in cond (eqb x a) a (cond (eqb x b) b rest)

unfoldable pub first_outcome : (n a b : ℕ) → Tables → Value
first_outcome n a b t = value_outcome (pair_refusal n a b (lengths_of t) (sound n t)) (first_of_two a b t.order)

-- ---- the later neighbours of a radio

-- document 02, W-206
abbrev pub later : (number count first : ℕ) → Later
later r c v = record { number = r; count = c; first = v }

-- document 02, W-206
unfoldable pub later_outcome : (n v : ℕ) → Tables → Later
later_outcome n v t =
    let vs = later_in (linked (graph_in n t.links)) v t.order in
    by_number (radio_refusal n v (lengths_of t) (sound n t)) (later 0 (length vs) (head_or nobody vs)) (λ q. later q 0 0)

-- ---- a value, and entries in front of a lent list

-- the value x and the list `new`, or the refusal
unfoldable pub listing_outcome : (refusal x : ℕ) → (new old : List ℕ) → Listing Value (List ℕ)
listing_outcome R x new old = by_number R (listing (value 0 x) (overwrite new old)) (λ q. listing (value q 0) old)

-- 1 to 4 and 8
unfoldable pub core_outcome : (n v k : ℕ) → Tables → (answer : List ℕ) → Listing Value (List ℕ)
core_outcome n v k t w =
    let g = graph_in n t.links in
    let radios = core_of g v k in
    let level = ask 4 (is_radio n v) (ask 8 (has_level g v k) 0) in
    listing_outcome (site_refusal n (lengths_of t) (answer_length n (length w)) (sound n t) level) (length radios) radios w

-- 1 to 3
unfoldable pub backbone_outcome : (n : ℕ) → Tables → (answer : List ℕ) → Listing Value (List ℕ)
backbone_outcome n t w =
    let radios = backbone (graph_in n t.links) in
    listing_outcome (site_refusal n (lengths_of t) (answer_length n (length w)) (sound n t) 0) (length radios) radios w

-- document 02, W-209: 1 to 3, where 2 asks for two entries a radio, since there are fewer links than radios; the kept links, two entries each
unfoldable pub staircase_outcome : (n : ℕ) → Tables → (table : List ℕ) → Listing Value (List ℕ)
staircase_outcome n t w =
    let kept = staircase (graph_in n t.links) in
    listing_outcome (site_refusal n (lengths_of t) (leb (2 * n) (length w)) (sound n t) 0) (length kept) (link_entries kept) w

-- 1 to 3, and 9: does the buffer hold the image?
unfoldable pub write_outcome : (n : ℕ) → Tables → (buffer : List ℕ) → Listing Value (List ℕ)
write_outcome n t w =
    let g = graph_in n t.links in
    listing_outcome (site_refusal n (lengths_of t) true (sound n t) (ask 9 (leb (image_length g) (length w)) 0)) (image_length g) (image_of g t.order) w

-- document 02, W-201: 1 to 3, and 12: does the page hold the site sheet?
unfoldable pub sheet_outcome : (n : ℕ) → Tables → (page : List ℕ) → Listing Value (List ℕ)
sheet_outcome n t w =
    listing_outcome (site_refusal n (lengths_of t) true (sound n t) (ask 12 (leb (sheet_length n) (length w)) 0)) (sheet_length n) (sheet t.numbers) w

-- ---- the script: its length, and the script itself

-- document 02, W-203: 1 to 3
unfoldable pub script_length_outcome : (n : ℕ) → Tables → Value
script_length_outcome n t =
    value_outcome (site_refusal n (lengths_of t) true (sound n t) 0) (script_length (graph_in n t.links))

-- document 02, W-203: 1 to 3, and 13: does the text buffer hold the script?
unfoldable pub script_outcome : (n : ℕ) → Tables → (text : List ℕ) → Listing Value (List ℕ)
script_outcome n t w =
    let g = graph_in n t.links in
    listing_outcome (site_refusal n (lengths_of t) true (sound n t) (ask 13 (leb (script_length g) (length w)) 0)) (script_length g) (script_of g) w

-- ---- the shell tree

-- 1 to 3; the count with the root, the nodes in front of their list, each radio's node name in front of the answer table
unfoldable pub tree_outcome : (n : ℕ) → Tables → (nodes : List Node) → (answer : List ℕ) → Listing Value (List Node × List ℕ)
tree_outcome n t m w =
    let g = graph_in n t.links in
    by_number (site_refusal n (lengths_of t) (leb (n + 1) (length m) && answer_length n (length w)) (sound n t) 0)
    (listing (value 0 (length (tree g))) (overwrite (tree g) m, overwrite (node_names g) w))
    (λ q. listing (value q 0) (m, w))

-- ---- a step of the block reader

-- no block: an empty part, and the reader keeps its number
unfoldable pub no_block : (number end i : ℕ) → Block
no_block q e i = record { number = q; end = e; offset = 0; length = 0; next = i }

-- block i where there is one, the end where there is none
unfoldable pub block_or_end : (there : Bool) → (i : ℕ) → Block
block_or_end true i = record { number = 0; end = 0; offset = block_bytes * i + 4; length = payload_bytes; next = i + 1 }
block_or_end false i = no_block 0 1 i

-- 9 and 10
unfoldable pub block_outcome : (image : List ℕ) → (i : ℕ) → Block
block_outcome bs i =
    by_number (blocks_refusal bs 0) (block_or_end (ltb i (length bs / block_bytes)) i) (λ q. no_block q 0 i)
