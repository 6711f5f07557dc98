-- Document 01's link book: what it is given of each call, the pairs that it keeps, and what it answers.
--   Call, Given       what the book is given of a call: n, radios, image bytes, a proposal, a list of links, a heard table, a name and a
--                     store, lengths of tables; never what links, numbers and order hold
--   Answer            what is compared of a call
--   Beginning         what a link history begins from: a clearing, or a read image
--   outcome           what the book makes of a call: answers, what it begins anew from, the links that it takes up or down, and what it
--                     does with a mark
--   pairs_of          the pairs after an outcome
--   book_answers, book_after   answers and pairs of a list of calls
--   History           what it began from, and the accepted link calls since
--   Past              the link history, and for each mark set the history at that moment
--   recalled          the history that coming back to a mark restores
--   history           the link history after a list of calls
--   all_leave x i     no accepted call of a list sets, replaces or removes a mark of the name x and the image i
-- A further call is a constructor of `Call` and a clause of `outcome` here, and a clause of `Does` in specs/Runs.antt.
-- Definitions only.
use Rattle.std.specs.Prelude.{◌&&◌, ◌||◌, ◌∷◌, ◌++◌}
use Rattle.lists.specs.{Kit.{Bool, true, false, not, cond, List, [], Option, none, some, ℕ, ℤ, pos, length}, Lists.{range}}
use Rattle.lists.specs.{Lists.{same}}
use Rattle.mesh.specs.{Limits.{max_neighbours}, Graph.{Link, graph}, Levels.{changed, step_of}, Tables.{Tables, tables_of, graph_in}, Image.{image_links}}
use Rattle.mesh.specs.{Image.{image_graph, image_order}}
use Rattle.mesh.specs.{Image.{image_of}}
use Rattle.calls.specs.{Questions.{by_number, Lengths, tables_refusal, link_refusal_within, commit_refusal, read_refusal}, Switches.{Switch, switch}}
use Rattle.calls.specs.{Switches.{pairs_after}}
use Rattle.calls.specs.{Switches.{tables_after}, Batches.{batch_refusal, batch_switches, batch_stop}, Heard.{hear_refusal, one_sided_count}}
use Rattle.calls.specs.{Heard.{heard_switches}, Marks.{set_refusal, named_refusal, is_marked, mark_image}}

-- document 01, with the calls of W-205, W-210, W-211 and W-213
-- what the book is given of a call, beside the lengths of links, numbers and order: `answer` is the answer table's length, `further` that of
-- the table that marks one-sided pairs
pub data Call : Type 0 where
  clearing : (n : ℕ) → Call
  reading : (n : ℕ) → (image : List ℕ) → Call
  linking : (up : Bool) → (n a b : ℕ) → (answer : ℕ) → Call
  committing : (up : Bool) → (n a b : ℕ) → (step : ℤ) → (list : List ℕ) → Call
  batching : (n : ℕ) → (list : List ℕ) → Call
  hearing : (n : ℕ) → (heard : List ℕ) → (further : ℕ) → Call
  setting : (n : ℕ) → (name store : List ℕ) → Call
  removing : (n : ℕ) → (name store : List ℕ) → Call
  returning : (n : ℕ) → (name store : List ℕ) → Call
  other : Call

-- what is compared of a call: its number and, for a link call, step, count and listed radios; a committing lists none
pub record Answer : Type 0 where
  pub number : ℕ
  pub step : ℤ
  pub count : ℕ
  pub listed : List ℕ

-- an accepted link call
unfoldable pub reported : (up : Bool) → (changed : List ℕ) → Answer
reported up cs = record { number = 0; step = step_of up cs; count = length cs; listed = cs }

-- document 02, W-210: an accepted committing
unfoldable pub committed : (up : Bool) → (changed : List ℕ) → Answer
committed up cs = record { number = 0; step = step_of up cs; count = length cs; listed = [] }

-- document 01: a number and zeros, with the count of calls that report one, W-205's and W-213's
-- a batch: the number of the link refused, or 0, and the count of links done; a hearing: 0, and the count of one-sided pairs
unfoldable pub counted : (number count : ℕ) → Answer
counted r k = record { number = r; step = pos 0; count = k; listed = [] }

-- ---- one call

-- what a link history begins from: an accepted clearing of n radios, or an accepted reading of an image
pub data Beginning : Type 0 where
  from_clearing : (n : ℕ) → Beginning
  from_image : (n : ℕ) → (image : List ℕ) → Beginning

-- document 02, W-211: what a call does with the mark of a name (W-211): setting replaces the image that the store had under the name, if it had one
pub data Marking : Type 0 where
  no_mark : Marking
  sets : (name : List ℕ) → (replaced : Option (List ℕ)) → Marking
  removes : (name image : List ℕ) → Marking
  returns : (name : List ℕ) → Marking

-- document 01, with W-211's marking
-- the answers to be compared, what the call begins anew from, if it does, the links that it takes up or down in turn, and its mark
pub record Outcome : Type 0 where
  pub answers : List Answer
  pub begins : Option Beginning
  pub switches : List Switch
  pub marking : Marking

-- document 01, with W-211's marking
abbrev pub outcome_with : List Answer → Option Beginning → List Switch → Marking → Outcome
outcome_with hs b ss m = record { answers = hs; begins = b; switches = ss; marking = m }

-- document 01, without W-211's marking
abbrev pub outcome_of : List Answer → Option Beginning → List Switch → Outcome
outcome_of hs b ss = outcome_with hs b ss no_mark

-- a "no" gives its number and zeros, and the pairs stay
abbrev pub unless_refused : (refusal : ℕ) → Outcome → Outcome
unless_refused R o = by_number R o (λ q. outcome_of (counted q 0 ∷ []) none [])

-- the image that the store has under the name, if it has one (W-211)
unfoldable pub image_under : (n : ℕ) → (name store : List ℕ) → Option (List ℕ)
image_under n x bs = cond (is_marked x bs) (some (mark_image n x bs)) none

-- document 01, with the calls of W-205, W-210, W-211 and W-213
-- each call is put its questions: 3 gets yes, 6 and 7 are asked of the pairs; any other call is passed over
unfoldable pub outcome : Call → Lengths → (pairs : List Link) → Outcome
outcome (clearing n) l ps = unless_refused (tables_refusal n l) (outcome_of (counted 0 0 ∷ []) (some (from_clearing n)) [])
outcome (reading n bs) l ps = unless_refused (read_refusal n l bs) (outcome_of (counted 0 0 ∷ []) (some (from_image n bs)) [])
outcome (linking up n a b w) l ps =
    unless_refused
    (link_refusal_within max_neighbours up n a b l w true (graph n ps))
    (outcome_of (reported up (changed up a b (graph n ps)) ∷ []) none (switch up a b ∷ []))
outcome (committing up n a b z xs) l ps =
    unless_refused
    (commit_refusal up n a b z xs l true (graph n ps))
    (outcome_of (committed up (changed up a b (graph n ps)) ∷ []) none (switch up a b ∷ []))
outcome (batching n xs) l ps =
    unless_refused
    (batch_refusal n l (length xs) true)
    (outcome_of (counted (batch_stop n xs ps) (length (batch_switches n xs ps)) ∷ []) none (batch_switches n xs ps))
outcome (hearing n hs w) l ps =
    unless_refused
    (hear_refusal n l hs w true)
    (outcome_of (counted 0 (one_sided_count n hs) ∷ []) none (heard_switches (graph n ps) hs))
outcome (setting n x bs) l ps =
    unless_refused (set_refusal n l true x bs) (outcome_with (counted 0 0 ∷ []) none [] (sets x (image_under n x bs)))
outcome (removing n x bs) l ps =
    unless_refused (named_refusal n l true x bs) (outcome_with (counted 0 0 ∷ []) none [] (removes x (mark_image n x bs)))
outcome (returning n x bs) l ps =
    unless_refused (named_refusal n l true x bs) (outcome_with (counted 0 0 ∷ []) (some (from_image n (mark_image n x bs))) [] (returns x))
outcome other l ps = outcome_of [] none []

-- the pairs that a beginning leaves
unfoldable pub beginning_pairs : Beginning → List Link
beginning_pairs (from_clearing n) = []
beginning_pairs (from_image n bs) = image_links n bs

-- the pairs that an outcome begins from, where ps are the pairs before it
unfoldable pub first_pairs : Option Beginning → (pairs : List Link) → List Link
first_pairs none ps = ps
first_pairs (some b) ps = beginning_pairs b

-- the pairs after it: an up adds its pair, a down strikes it
unfoldable pub pairs_of : Outcome → (pairs : List Link) → List Link
pairs_of o ps = pairs_after o.switches (first_pairs o.begins ps)

-- ---- a list of calls

-- a call with the lengths of the tables that it was given
pub record Given : Type 0 where
  pub call : Call
  pub lengths : Lengths

abbrev pub given : Call → Lengths → Given
given c l = record { call = c; lengths = l }

-- the book's outcome of a call
unfoldable pub booked : Given → (pairs : List Link) → Outcome
booked c ps = outcome c.call c.lengths ps

-- the book's answers to a list
unfoldable pub book_answers : List Given → (pairs : List Link) → List Answer
book_answers [] ps = []
book_answers (c ∷ cs) ps = (booked c ps).answers ++ book_answers cs (pairs_of (booked c ps) ps)

-- the book's pairs after a list
unfoldable pub book_after : List Given → (pairs : List Link) → List Link
book_after [] ps = ps
book_after (c ∷ cs) ps = book_after cs (pairs_of (booked c ps) ps)

-- ---- the link history

-- what it began from, and the accepted link calls since
pub record History : Type 0 where
  pub began : Beginning
  pub calls : List Switch

-- nothing since the beginning
unfoldable pub fresh : Beginning → History
fresh b = record { began = b; calls = [] }

-- after a call: anew where it begins anew; the links that it takes up or down are further calls
unfoldable pub history_by : Option Beginning → List Switch → History → History
history_by none ss h = record { began = h.began; calls = h.calls ++ ss }
history_by (some b) ss h = record { began = b; calls = ss }

-- the radios of a beginning, and the tables that it leaves
unfoldable pub site_size : Beginning → ℕ
site_size (from_clearing n) = n
site_size (from_image n bs) = n

unfoldable pub beginning_tables : Beginning → Tables
beginning_tables (from_clearing n) = tables_of (graph n []) (range 0 n)
beginning_tables (from_image n bs) = tables_of (image_graph n bs) (image_order n bs)

-- document 02, W-211: the image of the tables that a history leaves
unfoldable pub image_at : History → List ℕ
image_at h =
    let n = site_size h.began in
    let v = tables_after n h.calls (beginning_tables h.began) in
    image_of (graph_in n v.links) v.order

-- ---- marks (W-211)

-- a mark set: its name, and the history at that moment
pub record Marked : Type 0 where
  pub name : List ℕ
  pub history : History

-- the link history, and the marks set, the newest first
pub record Past : Type 0 where
  pub history : History
  pub marks : List Marked

abbrev pub past : History → List Marked → Past
past h ms = record { history = h; marks = ms }

-- a mark is known by its name and its image: with several stores, that is how the book tells them apart
unfoldable pub matches : (name image : List ℕ) → Marked → Bool
matches x i m = same m.name x && same (image_at m.history) i

-- without the newest mark of that name and image
unfoldable pub struck : (name image : List ℕ) → List Marked → List Marked
struck x i [] = []
struck x i (m ∷ ms) = let rest = struck x i ms in cond (matches x i m) ms (m ∷ rest)

unfoldable pub replacing : (name : List ℕ) → (replaced : Option (List ℕ)) → List Marked → List Marked
replacing x none ms = ms
replacing x (some i) ms = struck x i ms

-- coming back to the mark x, where h begins from the image that the store has: the history at which that image was set under that name,
-- the newest; else the mark was put there by other hands, and counts as a read image
unfoldable pub recalled : (name : List ℕ) → History → List Marked → History
recalled x h [] = h
recalled x h (m ∷ ms) = let rest = recalled x h ms in cond (matches x (image_at h) m) m.history rest

-- what a call's mark makes of the past, where h is the history after the call
unfoldable pub marked_by : Marking → History → List Marked → Past
marked_by no_mark h ms = past h ms
marked_by (sets x r) h ms = past h (record { name = x; history = h } ∷ replacing x r ms)
marked_by (removes x i) h ms = past h (struck x i ms)
marked_by (returns x) h ms = past (recalled x h ms) ms

unfoldable pub past_by : Outcome → Past → Past
past_by o p = marked_by o.marking (history_by o.begins o.switches p.history) p.marks

-- after a list of calls
unfoldable pub past_after : List Given → (pairs : List Link) → Past → Past
past_after [] ps p = p
past_after (c ∷ cs) ps p = let o = booked c ps in past_after cs (pairs_of o ps) (past_by o p)

-- of a list that starts from b, with no mark set
unfoldable pub past_of : List Given → (pairs : List Link) → Beginning → Past
past_of cs ps b = past_after cs ps (past (fresh b) [])

-- document 01: the link history, with W-211's marks
unfoldable pub history : List Given → (pairs : List Link) → Beginning → History
history cs ps b = (past_of cs ps b).history

-- no accepted call of a list, where p is the past before it, sets, replaces or removes a mark of the name x and the image i
unfoldable pub replaces : Option (List ℕ) → (image : List ℕ) → Bool
replaces none i = false
replaces (some j) i = same j i

unfoldable pub leaves : (name image : List ℕ) → Marking → History → Bool
leaves x i no_mark h = true
leaves x i (sets y r) h = not (same y x && (same (image_at h) i || replaces r i))
leaves x i (removes y j) h = not (same y x && same j i)
leaves x i (returns y) h = true

unfoldable pub all_leave : (name image : List ℕ) → List Given → (pairs : List Link) → Past → Bool
all_leave x i [] ps p = true
all_leave x i (c ∷ cs) ps p =
    let o = booked c ps in
    let q = past_by o p in leaves x i o.marking q.history && all_leave x i cs (pairs_of o ps) q
