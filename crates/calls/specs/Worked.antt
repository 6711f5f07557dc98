-- The form of a worked case: a site is cleared, link calls are made, and what is wanted of them; each call is its contract's own
-- outcome. The table of M1 to M10 has it, and the histories of crate `vectors`.
--   entries, lent_tables, lent_nodes   what is lent: tables of the right lengths, whose entry i holds f i
--   Left                   what link calls leave: the tables, and the answers so far
--   after calls left       the calls made one after the other, each on the tables that the last one left
--   Want                   what a row wants of what is left
--   meets want             is it so, by the outcome of the call that is asked
--   Row, Right             a row, and that its wants are met whatever the lent tables held
-- Definitions only.
use Rattle.std.specs.Prelude.{◌≡◌, ◌&&◌, ◌∷◌, ◌++◌, ◌+◌, ◌*◌, ◌-◌}
use Rattle.lists.specs.{Kit.{Bool, true, false, cond, List, [], map, flat_map, ℕ, zero, suc, eqb, length, drop, take, set}}
use Rattle.lists.specs.{Lists.{range, same}}
use Prim.Native.String.{String}
use Rattle.mesh.specs.{Limits.{row_bytes, former_neighbours}, Tables.{Tables, tables, graph_in}, Tree.{node}, Image.{block_bytes, long}, declared.Node.{Node}}
use Rattle.calls.specs.{Questions.{image_length, same_step, ends_refusal}, Switches.{Switch, switch}, Outcomes.{Linked, Listing, clear_outcome}}
use Rattle.calls.specs.{Outcomes.{read_outcome, link_outcome, check_outcome, core_outcome, backbone_outcome, write_outcome, tree_outcome}}
use Rattle.calls.specs.{Outcomes.{staircase_outcome}, Script.{script_of}, Book.{Answer, counted, reported}, Runs.{answer_of}, Replay.{lines, bad_line}}
use Rattle.calls.specs.{declared.Reply.{Reply}, declared.Value.{Value}}
use Rattle.text.specs.Text.{bytes_of}

-- ---- what is lent

-- so many entries, entry i holds f i
unfoldable pub entries : (ℕ → ℕ) → (length : ℕ) → List ℕ
entries f k = map f (range 0 k)

-- links, numbers and order for n radios
unfoldable pub lent_tables : (ℕ → ℕ) → (n : ℕ) → Tables
lent_tables f n = tables (entries f (row_bytes * n)) (entries f n) (entries f n)

-- a list of nodes for n radios
unfoldable pub lent_nodes : (ℕ → ℕ) → (n : ℕ) → List Node
lent_nodes f n = map (λ i. node (f i) (f i) (f i)) (range 0 (n + 1))

-- ---- link calls and what they leave

abbrev pub up : (a b : ℕ) → Switch
up a b = switch true a b

abbrev pub down : (a b : ℕ) → Switch
down a b = switch false a b

-- accepted: +1, -1, or nothing changed
unfoldable pub risen : (changed : List ℕ) → Answer
risen cs = reported true cs

unfoldable pub fallen : (changed : List ℕ) → Answer
fallen cs = reported false cs

unfoldable pub unchanged : Answer
unchanged = counted 0 0

unfoldable pub refused : (number : ℕ) → Answer
refused r = counted r 0

pub record Left : Type 0 where
  pub tables : Tables
  pub answers : List Answer

abbrev pub left : Tables → List Answer → Left
left t hs = record { tables = t; answers = hs }

-- one outcome more
unfoldable pub left_by : Left → Linked Reply → Left
left_by s o = left o.tables (s.answers ++ (answer_of o.reply o.lent ∷ []))

-- a link call, lent an answer table of n entries
unfoldable pub played : (ℕ → ℕ) → (n : ℕ) → Switch → Left → Left
played f n c s = left_by s (link_outcome c.up n c.a c.b s.tables (entries f n))

unfoldable pub after : (ℕ → ℕ) → (n : ℕ) → List Switch → Left → Left
after f n [] s = s
after f n (c ∷ cs) s = after f n cs (played f n c s)

-- ---- what a row wants

-- a byte to be put into a table or an image
pub record Put : Type 0 where
  pub at : ℕ
  pub byte : ℕ

abbrev pub put : (at byte : ℕ) → Put
put i x = record { at = i; byte = x }

pub data Want : Type 0 where
  -- the last calls answer so
  last_answers : List Answer → Want
  -- numbers by radio
  all_numbers : List ℕ → Want
  whole_order : List ℕ → Want
  -- the shell tree, and each radio's node name
  shell_tree : List Node → (names : List ℕ) → Want
  -- the connected core of v at level k: refusal number and radios
  connected_core : (v k : ℕ) → (number : ℕ) → (radios : List ℕ) → Want
  backbone_radios : List ℕ → Want
  -- the image's length in bytes and the checks of its blocks
  image_checks : (bytes : ℕ) → (checks : List ℕ) → Want
  -- what the replay program prints, line by line
  printed : List String → Want
  -- the soundness check of the links table with these bytes put in, these numbers and this order
  soundness : List Put → (numbers order : List ℕ) → (yes : Bool) → Want
  -- the staircase tree in a table of so many entries: refusal number and entries
  staircase_list : (table : ℕ) → (number : ℕ) → (kept : List ℕ) → Want
  -- the number of questions 4 to 7 for the link a-b going up, with the limit before document 02's W-208
  formerly : (a b : ℕ) → (number : ℕ) → Want
  -- the script that rebuilds the site, line by line
  script : List String → Want
  -- what ends a run at a line of another form
  bad_text : (line : ℕ) → String → Want
  -- the number of reading so many bytes of the image, with these put in, for n radios
  image_reading : (n bytes : ℕ) → List Put → (number : ℕ) → Want

unfoldable pub same_answers : List Answer → List Answer → Bool
same_answers [] [] = true
same_answers [] (y ∷ ys) = false
same_answers (x ∷ xs) [] = false
same_answers (x ∷ xs) (y ∷ ys) =
    (eqb x.number y.number && same_step x.step y.step) && ((eqb x.count y.count && same x.listed y.listed) && same_answers xs ys)

unfoldable pub same_nodes : List Node → List Node → Bool
same_nodes [] [] = true
same_nodes [] (y ∷ ys) = false
same_nodes (x ∷ xs) [] = false
same_nodes (x ∷ xs) (y ∷ ys) =
    (eqb x.name y.name && eqb x.level y.level) && (eqb x.parent y.parent && same_nodes xs ys)

-- the check bytes of each block
unfoldable pub block_checks : (blocks : ℕ) → (image : List ℕ) → List ℕ
block_checks zero bs = []
block_checks (suc m) bs = take 4 (drop 508 bs) ++ block_checks m (drop block_bytes bs)

unfoldable pub put_in : List Put → List ℕ → List ℕ
put_in [] bs = bs
put_in (p ∷ ps) bs = put_in ps (set bs p.at p.byte)

-- ---- is it so

unfoldable pub is_value : Value → (number value : ℕ) → Bool
is_value r q x = eqb r.number q && eqb r.value x

-- the number, the count of xs, and xs in front of the lent list
unfoldable pub is_listing : Listing Value (List ℕ) → (number : ℕ) → (xs : List ℕ) → Bool
is_listing o q xs = is_value o.reply q (length xs) && same (take (length xs) o.lent) xs

-- the image, written into a buffer that just holds it
unfoldable pub image_written : (ℕ → ℕ) → (n : ℕ) → Tables → List ℕ
image_written f n t =
    let o = write_outcome n t (entries f (image_length (graph_in n t.links))) in take o.reply.value o.lent

unfoldable pub meets : (ℕ → ℕ) → (n : ℕ) → Left → Want → Bool
meets f n s (last_answers hs) = same_answers (drop (length s.answers - length hs) s.answers) hs
meets f n s (all_numbers ns) = same s.tables.numbers ns
meets f n s (whole_order xs) = same s.tables.order xs
meets f n s (shell_tree ns vs) =
    let o = tree_outcome n s.tables (lent_nodes f n) (entries f n) in
    is_value o.reply 0 (length ns) && (same_nodes (take (length ns) o.lent.0) ns && same (take n o.lent.1) vs)
meets f n s (connected_core v k r xs) = is_listing (core_outcome n v k s.tables (entries f n)) r xs
meets f n s (backbone_radios xs) = is_listing (backbone_outcome n s.tables (entries f n)) 0 xs
meets f n s (image_checks m cs) =
    let o = write_outcome n s.tables (entries f m) in
    is_value o.reply 0 m && same (block_checks (length cs) (take m o.lent)) (flat_map long cs)
meets f n s (printed ls) = same (lines s.answers s.tables.numbers s.tables.order) (flat_map bytes_of ls)
meets f n s (soundness ps ns xs b) =
    is_value (check_outcome n (tables (put_in ps s.tables.links) ns xs)) 0 (cond b 1 0)
meets f n s (staircase_list k r xs) =
    let o = staircase_outcome n s.tables (entries f k) in
    eqb o.reply.number r && (eqb (2 * o.reply.value) (length xs) && same (take (length xs) o.lent) xs)
meets f n s (formerly a b r) = eqb (ends_refusal former_neighbours true n a b (graph_in n s.tables.links)) r
meets f n s (script ls) = same (script_of (graph_in n s.tables.links)) (flat_map bytes_of ls)
meets f n s (bad_text l x) = same (bad_line l) (bytes_of x)
meets f n s (image_reading m k ps r) =
    eqb (read_outcome m (take k (put_in ps (image_written f n s.tables))) (lent_tables f m)).reply r

unfoldable pub meets_all : (ℕ → ℕ) → (n : ℕ) → Left → List Want → Bool
meets_all f n s [] = true
meets_all f n s (w ∷ ws) = meets f n s w && meets_all f n s ws

-- ---- rows

-- a site of n radios is cleared, the calls are made, and the wants are met
pub record Row : Type 0 where
  pub n : ℕ
  pub calls : List Switch
  pub wants : List Want

abbrev pub row : (n : ℕ) → List Switch → List Want → Row
row n cs ws = record { n = n; calls = cs; wants = ws }

-- with lent tables that held f
unfoldable pub right : (ℕ → ℕ) → Row → Bool
right f r =
    let o = clear_outcome r.n (lent_tables f r.n) in
    eqb o.reply 0 && meets_all f r.n (after f r.n r.calls (left o.tables [])) r.wants

-- whatever they held
abbrev pub Right : Row → Type 0
Right r = (f : ℕ → ℕ) → right f r ≡ true

unfoldable pub AllRight : List Row → Type 0
AllRight [] = Unit {0}
AllRight (r ∷ rs) = Right r × AllRight rs
