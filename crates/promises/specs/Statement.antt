-- The promises of the engine: one statement, over the routines of the public calls. Whoever reads it and the definitions that it cites
-- need read no proof; the proof is proofs/Promises.antt, and docs/PROMISES.md has the order in which to read. An outcome is a call's reply
-- with what is lent to be written, as it is after the call.
--   Property1       every public call returns for every input, checks its tables itself, and refuses by number
--   Property2       what an accepted outcome is worth, in document 01's words
--   Property3       demand 3, undivided, over lists of calls and over a host's list of calls on one memory
--   W201 .. W214     what each request of document 02 asks for
-- Definitions only.
use Rattle.std.specs.Prelude.{◌≡◌, ◌↔◌, ◌⊎◌, ◌∷◌, ◌++◌, ◌+◌, ◌*◌, ◌≤◌, ◌<◌}
use Rattle.lists.specs.{Kit.{Bool, true, false, List, [], ℕ, ℤ, pos, length, take, drop}, Lists.{member, same}}
use Rattle.lists.specs.{Lists.{EntriesBelow}}
use mir.Val.{Val}
use prog.{Memory.{Memory}, Machine.{done}, Routine.{Routine, step}}
use Rattle.machine.specs.{Cells.{Param, place, entries, Input, Inputs, Stands, span, Ready, Ran, Runs, passed, outcome_of}, Made.{Fitting, blocks, placed}}
use Rattle.hosts.specs.{Public.{Public, reader_step, bytes, a_reader, call}, Hosts.{HostsDemand, StandingDemand}, Made.{HostsExist}}
use Rattle.mesh.specs.{Limits.{max_radios}, Graph.{Link, link_of, Graph, graph}, Cores.{Core, number}, Tables.{Tables, graph_in}, Connected.{InCore}}
use Rattle.mesh.specs.{Connected.{InBackbone}}
use Rattle.mesh.specs.{Image.{whole_blocks, checks_good, OtherSize, ImageOfNone}, Marks.{store_bytes, is_store, StoreRules}, Sound.{sound}}
use Rattle.mesh.specs.{declared.Node.{Node}}
use Rattle.calls.specs.{Questions.{lengths_of, size_good, site_lengths, image_refusal, radio_refusal}, Batches.{batch_refusal, batch_switches}}
use Rattle.calls.specs.{Heard.{hear_refusal, heard_switches}, Marks.{mark_image}, Lift.{lifts}, Outcomes.{reply, value, later}}
use Rattle.calls.specs.{Outcomes.{tabled, linked_with, listing, clear_outcome, read_outcome, link_outcome, ask_outcome, commit_outcome}}
use Rattle.calls.specs.{Outcomes.{batch_outcome, hear_outcome, check_outcome, number_outcome, later_outcome, core_outcome, value_outcome, listing_outcome}}
use Rattle.calls.specs.{Outcomes.{backbone_outcome, staircase_outcome, write_outcome, sheet_outcome, script_length_outcome, script_outcome, tree_outcome}}
use Rattle.calls.specs.{Outcomes.{no_block, block_outcome}, MarkOutcomes.{store_outcome, set_outcome, remove_outcome, return_outcome}}
use Rattle.calls.specs.{LiftOutcome.{pair, lift_outcome}, Results.{BatchStopped, BatchSingle, SiteRight, LinkRight, LaterRight}}
use Rattle.calls.specs.{Results.{RadiosListed, TreeListed, WrittenRight, ReadRight, BlockPart, BlockEnd, ScriptRight, ScriptBeforehand, HearRight}}
use Rattle.calls.specs.{Results.{ImageAnswered, SheetRight, StaircaseListed, AskRight, CommitRight, BatchRight}, MarkResults.{SetRight, RemovedRight}}
use Rattle.calls.specs.{MarkResults.{SameMark}, Older.{Older}, Book.{Call, linking, setting, returning, book_after, past_of, history, all_leave}}
use Rattle.calls.specs.{Runs.{events, after, givens}, Demand.{Start, beginning, Demand3}}
use Rattle.walks.specs.Results.{BeginningKept, EachBegins}
use Rattle.lifting.specs.Results.{NoLift, Raises, LiftRight}
use Rattle.hubs.specs.Hubs.{TwoHubs, EqualSites, EqualAnswers}
use Rattle.playback.specs.Back.{PlaysBack}
use Rattle.mesh.specs.Connected as connected
use Rattle.mesh.specs.Image as images

-- ---- property 1

-- what a refusal keeps: the number and zeros, and everything lent as it was
pub record Refusals : Type 0 where
  -- check, number, neighbours, linked, first and the script's length are `value_outcome`s; core, backbone, staircase, image, sheet and script
  -- are `listing_outcome`s; setting and removing a mark are `store_outcome`s, by the number R that their questions give
  pub values : (R x : ℕ) → let o = value_outcome R x in (o.number ≡ 0 → ⊥) → o ≡ value o.number 0
  pub listings :
      (R x : ℕ) (new old : List ℕ) → let o = listing_outcome R x new old in
      (o.reply.number ≡ 0 → ⊥) → o ≡ listing (value o.reply.number 0) old
  pub stores : (R : ℕ) (new old : List ℕ) → let o = store_outcome R new old in (o.reply ≡ 0 → ⊥) → o ≡ listing o.reply old
  pub clear : (n : ℕ) (t : Tables) → let o = clear_outcome n t in (o.reply ≡ 0 → ⊥) → o ≡ tabled o.reply t
  pub image_read : (n : ℕ) (bs : List ℕ) (t : Tables) → let o = read_outcome n bs t in (o.reply ≡ 0 → ⊥) → o ≡ tabled o.reply t
  pub link :
      (up : Bool) (n a b : ℕ) (t : Tables) (w : List ℕ) → let o = link_outcome up n a b t w in
      (o.reply.number ≡ 0 → ⊥) → o ≡ linked_with (reply o.reply.number (pos 0) 0) t w
  pub ask :
      (up : Bool) (n a b : ℕ) (t : Tables) (w : List ℕ) → let o = ask_outcome up n a b t w in
      (o.reply.number ≡ 0 → ⊥) → o ≡ listing (reply o.reply.number (pos 0) 0) w
  pub commit :
      (up : Bool) (n a b : ℕ) (z : ℤ) (xs : List ℕ) (t : Tables) → let o = commit_outcome up n a b z xs t in
      (o.reply.number ≡ 0 → ⊥) → o ≡ tabled (reply o.reply.number (pos 0) 0) t
  -- the only refusal beside which a change and a count stand
  pub link_batch :
      (n : ℕ) (xs : List ℕ) (t : Tables) → let o = batch_outcome n xs t in
      (o.reply.number ≡ 0 → ⊥) → (o ≡ tabled (value o.reply.number 0) t) ⊎ BatchStopped n xs t o.reply o.tables
  pub hear :
      (n : ℕ) (hs : List ℕ) (t : Tables) (w : List ℕ) → let o = hear_outcome n hs t w in
      (o.reply.number ≡ 0 → ⊥) → o ≡ linked_with (value o.reply.number 0) t w
  pub later_of : (n v : ℕ) (t : Tables) → let o = later_outcome n v t in (o.number ≡ 0 → ⊥) → o ≡ later o.number 0 0
  pub lift : (n v : ℕ) (t : Tables) → let o = lift_outcome n v t in (o.number ≡ 0 → ⊥) → o ≡ pair o.number 0 0
  pub tree :
      (n : ℕ) (t : Tables) (m : List Node) (w : List ℕ) → let o = tree_outcome n t m w in
      (o.reply.number ≡ 0 → ⊥) → o ≡ listing (value o.reply.number 0) (m, w)
  pub mark_return : (n : ℕ) (x bs : List ℕ) (t : Tables) → let o = return_outcome n x bs t in (o.reply ≡ 0 → ⊥) → o ≡ tabled o.reply t
  -- and a step of the reader, which is this outcome beside the image's place
  pub image_block : (bs : List ℕ) (i : ℕ) → let o = block_outcome bs i in (o.number ≡ 0 → ⊥) → o ≡ no_block o.number 0 i

-- ρ are the routines of the public calls
pub record Property1 (ρ : Public → Routine) : Type 1 where
  -- each call returns, from every memory that is ready; its value and every cell that it was lent to be written are those of its
  -- outcome, and every other cell is as it was
  pub runs : (x : Public) → Runs (ρ x) (call x)
  -- it returns nothing else, after any count of steps
  pub only :
      (x : Public) (σ : Memory) (i : Inputs (call x).params) (h : Ran (ρ x) (call x) σ i) (steps : ℕ) (end : Val × Memory) →
      step (ρ x) steps (passed (call x).params i) σ ≡ done end → (end.0 ≡ (call x).value (outcome_of (call x) i).0) × (end.1 ≡ h.memory)
  -- a memory is ready for whatever numbers and lists their types hold: the one that has a block for each lent list
  pub ready : (ps : List Param) (i : Inputs ps) → Fitting ps i → Ready (blocks ps i) ps (placed 0 ps i)
  pub refused : Refusals
  -- the part that a step of the block reader gives is the image's own bytes: they stand in its cells, where the step says
  pub reader_part :
      (σ : Memory) (r : Input a_reader) → Ready σ (call reader_step).params (r, tt) →
      (h : Ran (ρ reader_step) (call reader_step) σ (r, tt)) → let o = block_outcome (entries r.0) r.1 in
      Stands h.memory (span bytes ((place r.0).0, o.offset + (place r.0).1) (take o.length (drop o.offset (entries r.0))))

-- ---- property 2

pub record Property2 : Type 0 where
  -- the number that definitions cite is the core number by the largest group
  pub largest_group : (g : Graph) (v k : ℕ) → v < g.n → Core g v k ↔ (number g v ≡ k)
  -- after a link came up or went down
  pub link :
      (up : Bool) (n a b : ℕ) (t : Tables) (w : List ℕ) → let o = link_outcome up n a b t w in
      o.reply.number ≡ 0 → LinkRight up n a b t o.tables o.reply.count w o.lent
  -- the check's value is 1 exactly for proper rows, core numbers and a k-order
  pub check : (n : ℕ) (t : Tables) → let o = check_outcome n t in o.number ≡ 0 → (o.value ≡ 1) ↔ SiteRight n t
  pub number : (n v : ℕ) (t : Tables) → let o = number_outcome n v t in o.number ≡ 0 → Core (graph_in n t.links) v o.value
  pub core :
      (n v k : ℕ) (t : Tables) (w : List ℕ) → let o = core_outcome n v k t w in
      o.reply.number ≡ 0 → RadiosListed (InCore (graph_in n t.links) v k) o.reply.value w o.lent
  pub tree :
      (n : ℕ) (t : Tables) (m : List Node) (w : List ℕ) → let o = tree_outcome n t m w in
      o.reply.number ≡ 0 → TreeListed (graph_in n t.links) o.reply.value m o.lent.0 w o.lent.1
  -- what is written is the image of sound tables, and reading it gives the same tables. That their links are bytes is all that is asked:
  -- a table of 8-bit entries is, but a list of numbers that an outcome speaks of need not be
  pub image_written :
      (n : ℕ) (t : Tables) (w : List ℕ) → let o = write_outcome n t w in
      o.reply.number ≡ 0 → WrittenRight n t o.reply.value w o.lent
  pub image_read_back :
      (n : ℕ) (t : Tables) (w : List ℕ) → let o = write_outcome n t w in o.reply.number ≡ 0 → EntriesBelow 256 t.links →
      (u : Tables) → lengths_of u ≡ lengths_of t → read_outcome n (take o.reply.value o.lent) u ≡ tabled 0 t
  -- the tables of an accepted image
  pub image_read : (n : ℕ) (bs : List ℕ) (t : Tables) → let o = read_outcome n bs t in o.reply ≡ 0 → ReadRight n bs o.tables
  -- a step of the block reader gives the 504 bytes of payload, or the end
  pub block : (bs : List ℕ) (i : ℕ) → let o = block_outcome bs i in o.number ≡ 0 → BlockPart bs i o ⊎ BlockEnd bs i o

-- ---- property 3

pub record Property3 (ρ : Public → Routine) : Type 0 where
  -- every list of calls from a clearing or an image keeps what demand 3 says
  pub demand : Demand3
  -- the same at the machine: a host's list of calls on one memory, between which it may do anything but change a cell of the three tables
  pub hosts : HostsDemand ρ
  pub hosts_standing : StandingDemand ρ
  -- and there is a host for every list of calls
  pub hosts_exist : HostsExist ρ
  -- one link call more, if it is accepted, lists exactly the radios whose core number by the largest group differs between the book's
  -- pairs before and after
  pub exactly :
      (n : ℕ) (ps : List Link) (s : Tables) → Start n ps s → (cs : List Call) (up : Bool) (m a b : ℕ) (w : List ℕ) →
      let o = link_outcome up m a b (after cs s) w in o.reply.number ≡ 0 → (x j k : ℕ) → x < n →
      Core (graph n (book_after (givens (events cs s)) ps)) x j →
      Core (graph n (book_after (givens (events (cs ++ (linking up m a b (length w) ∷ [])) s)) ps)) x k →
      (member x (take o.reply.count o.lent) ≡ true) ↔ (j ≡ k → ⊥)

-- ---- document 02, W-201: the page has the site sheet in front, column by column, with each radio's core number

pub record W201 : Type 0 where
  pub sheet :
      (n : ℕ) (t : Tables) (w : List ℕ) → let o = sheet_outcome n t w in o.reply.number ≡ 0 → SheetRight n t o.reply.value w o.lent

-- ---- document 02, W-202: the backbone of each part

pub record W202 : Type 0 where
  pub backbone :
      (n : ℕ) (t : Tables) (w : List ℕ) → let o = backbone_outcome n t w in
      o.reply.number ≡ 0 → RadiosListed (InBackbone (graph_in n t.links)) o.reply.value w o.lent
  -- in a site of one connected part it is document 01's, by the greatest number of the site
  pub one_part :
      (g : Graph) → ((v w : ℕ) → v < g.n → w < g.n → InCore g v 0 w) → connected.backbone g ≡ connected.site_backbone g

-- ---- document 02, W-203: a script that rebuilds a site

pub record W203 : Type 0 where
  -- the text has the script in front; its length beforehand is the length written, and 13 compares with it
  pub script :
      (n : ℕ) (t : Tables) (w : List ℕ) → let o = script_outcome n t w in
      o.reply.number ≡ 0 → ScriptRight n t o.reply.value w o.lent
  pub beforehand :
      (n : ℕ) (t : Tables) (w : List ℕ) → let s = script_length_outcome n t in let o = script_outcome n t w in
      s.number ≡ 0 → ScriptBeforehand s.value (length w) o.reply.number o.reply.value
  -- played back, no line is refused, and links and numbers are those of the tables
  pub plays :
      (n : ℕ) (t : Tables) (w : List ℕ) → let o = script_outcome n t w in
      o.reply.number ≡ 0 → EntriesBelow 256 t.links → PlaysBack n t (take o.reply.value o.lent)

-- ---- document 02, W-205: after an accepted hearing the links are exactly the ones that both ends hear, no single call would have been
-- refused, and the pairs of which one end hears the other are marked and counted

pub record W205 : Type 0 where
  pub hear :
      (n : ℕ) (hs : List ℕ) (t : Tables) (w : List ℕ) → hear_refusal n (lengths_of t) hs (length w) (sound n t) ≡ 0 →
      let o = hear_outcome n hs t w in HearRight n hs t o.tables o.reply o.lent

-- ---- document 02, W-206: the first of the later neighbours is one, and there is none between; nobody exactly when there are none

pub record W206 : Type 0 where
  pub later_of :
      (n v : ℕ) (t : Tables) → let o = later_outcome n v t in
      o.number ≡ 0 → LaterRight (graph_in n t.links) v t.order o.count o.first

-- ---- document 02, W-207: 1, 2, 9 and 10 answered yes: accepted is the image of some sound tables with this n, refused by 15 that of some
-- with another n, and refused by 11 the image of none

pub record W207 : Type 0 where
  pub answered :
      (n : ℕ) (bs : List ℕ) (t : Tables) → size_good n ≡ true → site_lengths n (lengths_of t) ≡ true → whole_blocks bs ≡ true →
      checks_good bs ≡ true → ImageAnswered n bs (read_outcome n bs t).reply
  -- the two questions as they are worked out, for bytes alone
  pub other_size : (n : ℕ) (bs : List ℕ) → (images.other_size n bs ≡ true) ↔ OtherSize n bs
  pub of_none :
      (n : ℕ) (bs : List ℕ) → size_good n ≡ true → whole_blocks bs ≡ true → checks_good bs ≡ true →
      (image_refusal n bs ≡ 11) ↔ ImageOfNone bs

-- ---- document 02, W-208: tables and images from before the limit on neighbours was raised: calls give what they gave, and a link-up call
-- refused by 7 is taken

pub record W208 : Type 0 where
  pub older : Older
  -- an image takes at most 86 blocks
  pub blocks_most :
      (n : ℕ) (t : Tables) (w : List ℕ) → let o = write_outcome n t w in o.reply.number ≡ 0 → o.reply.value ≤ 86 * images.block_bytes

-- ---- document 02, W-209: the kept links are listed: a spanning forest, no other weighs more; the way over them between two joined radios
-- has the greatest least weight; kept links of weight k or more join what shares a connected core at level k

pub record W209 : Type 0 where
  pub staircase :
      (n : ℕ) (t : Tables) (w : List ℕ) → let o = staircase_outcome n t w in
      o.reply.number ≡ 0 → StaircaseListed (graph_in n t.links) o.reply.value w o.lent

-- ---- document 02, W-210: look first, then switch

pub record W210 : Type 0 where
  -- asking lists exactly the radios whose core number the link would change
  pub ask :
      (up : Bool) (n a b : ℕ) (t : Tables) (w : List ℕ) → let o = ask_outcome up n a b t w in
      o.reply.number ≡ 0 → AskRight up a b (graph_in n t.links) o.reply.count w o.lent
  pub commit :
      (up : Bool) (n a b : ℕ) (z : ℤ) (xs : List ℕ) (t : Tables) → let o = commit_outcome up n a b z xs t in
      o.reply.number ≡ 0 → CommitRight up n a b t o.tables
  -- a single link call is asking and then, when it is accepted, committing its answer: reply, tables and answer table
  pub two_steps :
      (up : Bool) (n a b : ℕ) (t : Tables) (w : List ℕ) → let q = ask_outcome up n a b t w in
      let r = commit_outcome up n a b q.reply.step (take q.reply.count q.lent) t in
      q.reply.number ≡ 0 → (r.reply ≡ q.reply) × (linked_with r.reply r.tables q.lent ≡ link_outcome up n a b t w)
  pub refused_step :
      (up : Bool) (n a b : ℕ) (t : Tables) (w : List ℕ) → let q = ask_outcome up n a b t w in
      (q.reply.number ≡ 0 → ⊥) → linked_with q.reply t q.lent ≡ link_outcome up n a b t w
  -- any proposal, whoever made it and when: committing is accepted exactly if asking now would be, with this step and this list; else
  -- it is refused by asking's number, and by 16 where asking has none
  pub commit_iff :
      (up : Bool) (n a b : ℕ) (t : Tables) (w : List ℕ) → n ≤ length w → (z : ℤ) (xs : List ℕ) →
      let q = ask_outcome up n a b t w in let r = commit_outcome up n a b z xs t in
      (r.reply.number ≡ 0) ↔ ((q.reply.number ≡ 0) × (z ≡ q.reply.step) × (xs ≡ take q.reply.count q.lent))
  pub commit_number :
      (up : Bool) (n a b : ℕ) (t : Tables) (w : List ℕ) → n ≤ length w → (z : ℤ) (xs : List ℕ) →
      let q = ask_outcome up n a b t w in let r = commit_outcome up n a b z xs t in
      ((q.reply.number ≡ 0 → ⊥) → r.reply.number ≡ q.reply.number)
      × (q.reply.number ≡ 0 → (r.reply.number ≡ 0 → ⊥) → r.reply.number ≡ 16)

-- ---- document 02, W-211: named marks

pub record W211 : Type 0 where
  -- question 17 of a store of full length gets yes exactly if every place keeps the rules
  pub store_good : (n : ℕ) (bs : List ℕ) → n ≤ max_radios → length bs ≡ store_bytes → (is_store n bs ≡ true) ↔ StoreRules n bs
  -- a mark set is the image of the tables, a mark removed is gone, and the store keeps the rules again;
  -- every other mark is the same, byte for byte, whatever the call answers
  pub mark_set :
      (n : ℕ) (x : List ℕ) (t : Tables) (bs : List ℕ) → let o = set_outcome n x t bs in o.reply ≡ 0 → SetRight n x t bs o.lent
  pub mark_remove :
      (n : ℕ) (x : List ℕ) (t : Tables) (bs : List ℕ) → let o = remove_outcome n x t bs in o.reply ≡ 0 → RemovedRight n x bs o.lent
  pub other_marks :
      (n : ℕ) (x : List ℕ) (t : Tables) (bs y : List ℕ) → same x y ≡ false →
      SameMark y bs (set_outcome n x t bs).lent × SameMark y bs (remove_outcome n x t bs).lent
  -- coming back is reading the mark's image; to a mark that is as it was set, it restores the tables of that moment
  pub mark_return :
      (n : ℕ) (x bs : List ℕ) (t : Tables) → let o = return_outcome n x bs t in o.reply ≡ 0 →
      (o ≡ read_outcome n (mark_image n x bs) t) × ReadRight n (mark_image n x bs) o.tables
  pub return_restores :
      (n : ℕ) (x : List ℕ) (t u : Tables) (bs ds : List ℕ) → EntriesBelow 256 t.links → let o = set_outcome n x t bs in o.reply ≡ 0 →
      SameMark x o.lent ds → (return_outcome n x ds u).reply ≡ 0 → (return_outcome n x ds u).tables ≡ t
  -- an accepted set; calls of which none sets, replaces or removes a mark of that name and that image, whatever other stores they are lent;
  -- an accepted coming back to the image that was set: the link history, with the clearing or read image that it began from, is the one
  -- at the setting
  pub restored :
      (n : ℕ) (ps : List Link) (t₀ : Tables) (s : Start n ps t₀) (before between : List Call) (m j : ℕ) (x bs ds : List ℕ) →
      let t = after before t₀ in let u = after between t in let i = images.image_of (graph_in n t.links) t.order in
      (set_outcome m x t bs).reply ≡ 0 → (return_outcome j x ds u).reply ≡ 0 →
      all_leave x i (givens (events between t)) (book_after (givens (events before t₀)) ps)
      (past_of (givens (events (before ++ (setting m x bs ∷ [])) t₀)) ps (beginning s)) ≡ true →
      mark_image j x ds ≡ i →
      history (givens (events (before ++ (setting m x bs ∷ (between ++ (returning j x ds ∷ [])))) t₀)) ps (beginning s)
      ≡ history (givens (events before t₀)) ps (beginning s)

-- ---- document 02, W-212: one link that lifts a radio

pub record W212 : Type 0 where
  -- the pair is the first that lifts the radio; by the largest group the radio's core number is then greater; taking the link up is
  -- accepted and lists the radio
  pub lift : (n v : ℕ) (t : Tables) → let o = lift_outcome n v t in o.number ≡ 0 → LiftRight n v t (link_of o.low o.high)
  -- a pair lifts a radio exactly if the radio's core number is greater with its link; 20 exactly if no pair does
  pub lift_core : (g : Graph) (v : ℕ) (l : Link) → v < g.n → (lifts g v l ≡ true) ↔ Raises g v l
  pub lift_none :
      (n v : ℕ) (t : Tables) → ((lift_outcome n v t).number ≡ 20)
      ↔ ((radio_refusal n v (lengths_of t) (sound n t) ≡ 0) × NoLift (graph_in n t.links) v)

-- ---- document 02, W-213: work only from the earlier end; batches

pub record W213 : Type 0 where
  -- after a link came up nothing before the beginning end's place has moved: the lower end's, with equal numbers the earlier's
  pub link_begins :
      (n a b : ℕ) (t : Tables) (w : List ℕ) → let o = link_outcome true n a b t w in
      o.reply.number ≡ 0 → BeginningKept a b (graph_in n t.links) t.order o.tables.order
  pub commit_begins :
      (n a b : ℕ) (z : ℤ) (xs : List ℕ) (t : Tables) → let o = commit_outcome true n a b z xs t in
      o.reply.number ≡ 0 → BeginningKept a b (graph_in n t.links) t.order o.tables.order
  -- nor before that of any link that a batch takes up, or a hearing
  pub batch_begins :
      (n : ℕ) (xs : List ℕ) (t : Tables) → batch_refusal n (lengths_of t) (length xs) (sound n t) ≡ 0 →
      EachBegins n (batch_switches n xs (graph_in n t.links).links) t
  pub hear_begins :
      (n : ℕ) (hs : List ℕ) (t : Tables) (w : List ℕ) → hear_refusal n (lengths_of t) hs (length w) (sound n t) ≡ 0 →
      EachBegins n (heard_switches (graph_in n t.links) hs) t
  -- after a batch whose questions 1 to 3 got yes
  pub link_batch :
      (n : ℕ) (xs : List ℕ) (t : Tables) → batch_refusal n (lengths_of t) (length xs) (sound n t) ≡ 0 →
      let o = batch_outcome n xs t in BatchRight n xs t o.tables o.reply
  -- a batch of one link is the single call; the answer table has room, as the single call asks of it
  pub batch_single :
      (n a b : ℕ) (t : Tables) (w : List ℕ) → n ≤ length w → let o = link_outcome true n a b t w in
      let s = batch_outcome n (a ∷ b ∷ []) t in BatchSingle o.reply o.tables s.reply s.tables

-- ---- document 02, W-214: two hubs, one mesh: both start cleared with the same n and take the same single link calls, none refused, in any
-- arrangements. They hold equal links and numbers, and shell tree, backbone and staircase calls with equal lent lists answer equal

pub record W214 : Type 0 where
  pub confluence : TwoHubs (λ n v w. EqualSites v w)
  pub calls_agree : TwoHubs (λ n v w. EqualAnswers v w)
  -- that their orders are always equal, or their images, is false
  pub orders_differ : TwoHubs (λ n v w. v.order ≡ w.order) → ⊥
  pub images_differ :
      TwoHubs (λ n v w. images.image_of (graph_in n v.links) v.order ≡ images.image_of (graph_in n w.links) w.order) → ⊥

-- ---- all of them

pub record Statement (ρ : Public → Routine) : Type 1 where
  pub first : Property1 ρ
  pub second : Property2
  pub third : Property3 ρ
  pub w_201 : W201
  pub w_202 : W202
  pub w_203 : W203
  pub w_205 : W205
  pub w_206 : W206
  pub w_207 : W207
  pub w_208 : W208
  pub w_209 : W209
  pub w_210 : W210
  pub w_211 : W211
  pub w_212 : W212
  pub w_213 : W213
  pub w_214 : W214
