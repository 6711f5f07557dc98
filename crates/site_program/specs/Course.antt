-- A script played by the program `site`: every call must be accepted, and the first line that is refused or of another form ends the run.
--   first_end m s          the place after the first line, 0 where it is longer than m bytes or has no line feed
--   form_of s              what is wrong with the form of a line
--   named_radios s         the radios that the first line names, 0 where it is of another form or names no size
--   first_fault s          what is wrong with a first line of another form
--   Lined, called, lined   what a line does to the tables, and the number that it is refused by, or 0
--   Spot, spot             where a run stands: tables, the line's number, its bytes so far, the number that ended the run, or 0
--   byte_taken m n b p     a byte more; a line has room for m bytes
--   bytes_taken m n bs p   bytes in turn
--   ReadsOnce, ReadsOn   one read; all reads, to the end of the input or of the run
--   ReadsRest             the reads after a front, none where it has the end
--   closed s, ended s      a last line without a line feed; the same where the end of the input is found
--   begin, Plays           the whole of a script, of which the front is read before
-- No contract can say what a read brings: of it `Read` has some bytes. Definitions only.
use Rattle.std.specs.Prelude.{◌≡◌, ◌⊎◌, ◌∷◌, ◌++◌, ◌+◌, ◌-◌, Some}
use Rattle.std.specs.Option.{is_some}
use Rattle.lists.specs.Kit.{Bool, true, false, cond, List, [], ℕ, zero, suc, leb, ltb, eqb, length, take, drop, get_or, replicate}
use Rattle.mesh.specs.{Limits.{max_radios}, Tables.{Tables}}
use Rattle.calls.specs.Outcomes.{clear_outcome, link_outcome}
use Rattle.text.specs.{Text.{line_feed}, Print.{next_place}}
use Rattle.script.specs.{Lines.{line_of}, declared.lines.Line.{Line}, declared.lines.Line.TheVariants.{Radios, Up, Down, Bad}}
use Rattle.player.specs.{Play.{radios_of}, Reads.{at_end, Read, input_of, ToEnd}}
use Rattle.player.specs.declared.input.{State.{State}, State.TheVariants.{GoesOn, End, Failed}}
use Rattle.site_program.specs.declared.refusals.{Fault.{Fault}, Fault.TheVariants.{Form, NoFeed, Carriage}}
use Rattle.site_program.specs.{Errors.{fault_number}, declared.course.Course.{Course}, declared.course.Turned.{Turned}}

-- ---- the first line

-- k bytes further; 0 is no place
unfoldable pub further : (k place : ℕ) → ℕ
further k zero = 0
further k (suc p) = suc p + k

unfoldable pub first_end : (most : ℕ) → List ℕ → ℕ
first_end zero s = 0
first_end (suc m) [] = 0
first_end (suc m) (b ∷ bs) = cond (eqb b line_feed) 1 (further 1 (first_end m bs))

-- the longest first line, `radios 512` and its line feed
abbrev pub first_room : ℕ
first_room = 11

unfoldable pub named_radios : (front : List ℕ) → ℕ
named_radios s = radios_of (take (first_end first_room s) s)

-- ---- a line

-- the longest line of the language, `down 65535 65535` and its line feed: the code's room for a line
abbrev pub line_room : ℕ
line_room = 17

-- a carriage return before the last byte is told by name
unfoldable pub form_of : (line : List ℕ) → Fault
form_of s = cond (ltb (length s) 2) Form (cond (eqb (get_or s (length s - 2) 0) 13) Carriage Form)

-- a first line of another form; one without a line feed is the whole input where it is shorter than the longest line
unfoldable pub first_fault : (front : List ℕ) → Fault
first_fault s =
    let end = first_end line_room s in
    cond (eqb end 0) (cond (ltb (length s) line_room) NoFeed Form) (form_of (take end s))

-- the number that a line is refused by, or 0, and the tables after it
pub record Lined : Type 0 where
  pub number : ℕ
  pub tables : Tables

abbrev pub lined_with : (number : ℕ) → Tables → Lined
lined_with q t = record { number = q; tables = t }

-- a link call; what it lists is not used
unfoldable pub called : (up : Bool) → (n a b : ℕ) → Tables → Lined
called up n a b t =
    let o = link_outcome up n a b t (replicate max_radios 0) in
    lined_with o.reply.number o.tables

unfoldable pub lined : (n : ℕ) → (text : List ℕ) → Line → Tables → Lined
lined n s (Radios m) t = lined_with (fault_number (Some (form_of s))) t
lined n s (Up a b) t = called true n a b t
lined n s (Down a b) t = called false n a b t
lined n s Bad t = lined_with (fault_number (Some (form_of s))) t

-- ---- bytes

pub record Spot : Type 0 where
  pub tables : Tables
  pub line : ℕ
  pub held : List ℕ
  pub number : ℕ

-- the same, as the code keeps it
unfoldable pub spot : Tables → (room : List ℕ) → Course → Spot
spot t room s = record { tables = t; line = s.line; held = take s.held room; number = fault_number s.fault }

-- the run is over
unfoldable pub stopped : (number : ℕ) → Spot → Spot
stopped q p = record { tables = p.tables; line = p.line; held = []; number = q }

-- a byte in the middle of a line
unfoldable pub held_on : (byte : ℕ) → Spot → Spot
held_on b p = record { tables = p.tables; line = p.line; held = p.held ++ (b ∷ []); number = 0 }

-- a whole line: the next one starts where it is accepted
unfoldable pub line_done : Lined → Spot → Spot
line_done o p =
    record { tables = o.tables; line = cond (eqb o.number 0) (next_place p.line) p.line; held = []; number = o.number }

unfoldable pub byte_live : (m n byte : ℕ) → Spot → Spot
byte_live m n b p =
    let s = p.held ++ (b ∷ []) in
    cond (leb m (length p.held)) (stopped (fault_number (Some Form)) p) (cond (eqb b line_feed) (line_done (lined n s (line_of s) p.tables) p) (held_on b p))

-- after the end of the run nothing happens
unfoldable pub byte_taken : (m n byte : ℕ) → Spot → Spot
byte_taken m n b p = cond (eqb p.number 0) (byte_live m n b p) p

unfoldable pub bytes_taken : (m n : ℕ) → (bytes : List ℕ) → Spot → Spot
bytes_taken m n [] p = p
bytes_taken m n (b ∷ bs) p = bytes_taken m n bs (byte_taken m n b p)

-- ---- reads

pub record ReadsOnce (m n : ℕ) (p : Spot) (r : Turned) (q : Spot) : Type 0 where
  pub read : Read
  pub found : r.state ≡ read.state
  pub taken : q ≡ bytes_taken m n read.bytes p

-- the last read stands first; where the end of the input was found, none before it failed
pub record ReadsOn (m n : ℕ) (p : Spot) (r : Turned) (q : Spot) : Type 0 where
  pub reads : List Read
  pub taken : q ≡ bytes_taken m n (input_of reads) p
  pub to_end : r.state ≡ at_end → ToEnd reads

pub record ReadsRest (m n : ℕ) (front : Turned) (p : Spot) (r : Turned) (q : Spot) : Type 0 where
  pub reads : List Read
  pub taken : q ≡ bytes_taken m n (input_of reads) p
  pub to_end : r.state ≡ at_end → (front.state ≡ at_end) ⊎ ToEnd reads

-- a last line without a line feed
unfoldable pub closed : Turned → Turned
closed s =
    let open_line : Turned = record { course = record { line = s.course.line; held = 0; fault = Some NoFeed }; state = s.state } in
    cond (is_some s.course.fault) s (cond (eqb s.course.held 0) s open_line)

unfoldable pub ended_by : State → Turned → Turned
ended_by End s = closed s
ended_by GoesOn s = s
ended_by (Failed why) s = s

unfoldable pub ended : Turned → Turned
ended s = ended_by s.state s

-- after the first line
unfoldable pub begin : (n : ℕ) → Tables → Spot
begin n t = record { tables = (clear_outcome n t).tables; line = 2; held = []; number = (clear_outcome n t).reply }

-- what the front has after its first line, and then what the reads brought, is taken; the end is found by them or stands in the front
pub record Plays (n : ℕ) (front : List ℕ) (state : State) (t : Tables) (r : Turned) (after : Tables) : Type 0 where
  pub reads : List Read
  pub room : List ℕ
  pub last : Turned
  pub taken : spot after room last.course ≡ bytes_taken line_room n (drop (first_end first_room front) front ++ input_of reads) (begin n t)
  pub is : r ≡ ended last
  pub to_end : r.state ≡ at_end → (state ≡ at_end) ⊎ ToEnd reads
