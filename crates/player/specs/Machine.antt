-- The lines after the first, taken byte by byte.
--   Spot               where a run stands: tables, answer table, the line's number, its bytes so far, whether the run goes on
--   spot t w line s    the spot of the code's tables, line buffer and progress
--   StopPut           `bad L` is put, as the code does it
--   Marked s           a run that is over has a fault
--   Stopped, HeldOn, LineTaken, Ignored   the four things that a byte can do
--   Takes m n byte p text q      a byte takes the spot p to q and prints the text; a line has room for m bytes
--   line_room          the bytes that a line has room for
--   full               how many bytes wait when the printing buffer is to be written
--   longest, closing_longest   the longest text that a byte can print, and that the end of the input can
--   TakesAll m n bytes p text q the same for bytes in turn
--   ending p           what is printed at the end of the input
-- What bytes and ending together print is said by lines in `Whole`. Definitions only.
use Rattle.std.specs.Prelude.{◌≢◌, ◌≡◌, ◌∷◌, ◌++◌, ◌+◌, None}
use Rattle.lists.specs.Kit.{Bool, true, false, cond, List, [], ℕ, leb, eqb, length, take}
use Rattle.mesh.specs.Tables.{Tables}
use Rattle.text.specs.{Text.{line_feed}, Print.{buffer_at, Puts}}
use Rattle.calls.specs.Replay.{bad_line, closing_lines}
use Rattle.script.specs.Lines.{line_of}
use Rattle.player.specs.{Lines.{is_call, Played}, declared.machine.Progress.{Progress}}

-- where a run stands
pub record Spot : Type 0 where
  pub tables : Tables
  pub answer : List ℕ
  pub number : ℕ
  pub held : List ℕ
  pub live : Bool

-- the same, as the code keeps it
unfoldable pub spot : Tables → (answer line : List ℕ) → Progress → Spot
spot t w line s =
    record { tables = t; answer = w; number = s.number; held = take s.held line; live = s.live }

-- the code's progress s with the printing buffer b becomes r with c: `bad L` is put, and the run is over
pub record StopPut (s : Progress) (b : List ℕ) (r : Progress) (c : List ℕ) : Type 0 where
  pub puts : Puts (buffer_at b s.at) (bad_line s.number) (buffer_at c r.at)
  pub number : r.number ≡ s.number
  pub held : r.held ≡ 0
  pub live : r.live ≡ false
  pub fault : r.fault ≢ None

-- a run that is over has a fault until the end of the input is taken: a line of another form ended it
unfoldable pub Marked : Progress → Type 0
Marked s = s.live ≡ false → s.fault ≢ None

-- ---- what a byte does

-- a line of another form ends the run: `bad L`, and nothing after it
pub record Stopped (p : Spot) (text : List ℕ) (q : Spot) : Type 0 where
  pub says : text ≡ bad_line p.number
  pub tables : q.tables ≡ p.tables
  pub answer : q.answer ≡ p.answer
  pub number : q.number ≡ p.number
  pub held : q.held ≡ []
  pub live : q.live ≡ false

-- a byte in the middle of a line is held
pub record HeldOn (byte : ℕ) (p : Spot) (text : List ℕ) (q : Spot) : Type 0 where
  pub says : text ≡ []
  pub tables : q.tables ≡ p.tables
  pub answer : q.answer ≡ p.answer
  pub number : q.number ≡ p.number
  pub held : q.held ≡ p.held ++ (byte ∷ [])
  pub live : q.live ≡ true

-- a link call is played, and the next line starts
pub record LineTaken (n : ℕ) (line : List ℕ) (p : Spot) (text : List ℕ) (q : Spot) : Type 0 where
  pub played : Played n (line_of line) p.tables p.answer text q.tables q.answer
  pub number : q.number ≡ p.number + 1
  pub held : q.held ≡ []
  pub live : q.live ≡ true

-- a whole line, by whether it is a call
unfoldable pub LineEnds : (call : Bool) → (n : ℕ) → (line : List ℕ) → Spot → (text : List ℕ) → Spot → Type 0
LineEnds true n line p text q = LineTaken n line p text q
LineEnds false n line p text q = Stopped p text q

-- after the end of the run nothing happens
pub record Ignored (p : Spot) (text : List ℕ) (q : Spot) : Type 0 where
  pub says : text ≡ []
  pub same : q ≡ p

-- by whether the run goes on, the line has no room, and the byte is a line feed
unfoldable pub Step : (live full feed : Bool) → (n byte : ℕ) → Spot → (text : List ℕ) → Spot → Type 0
Step false full feed n b p text q = Ignored p text q
Step true true feed n b p text q = Stopped p text q
Step true false false n b p text q = HeldOn b p text q
Step true false true n b p text q =
    let line = p.held ++ (line_feed ∷ []) in
    LineEnds (is_call (line_of line)) n line p text q

-- the longest line of the language, `down 65535 65535` and its line feed: the code's room for a line
abbrev pub line_room : ℕ
line_room = 17

-- a byte of the input; a line has room for m bytes, and a longer one is of another form
unfoldable pub Takes : (m n byte : ℕ) → Spot → (text : List ℕ) → Spot → Type 0
Takes m n b p text q = Step p.live (leb m (length p.held)) (eqb b line_feed) n b p text q

-- ---- bytes in turn

-- with this many bytes waiting in it the printing buffer is full: it is written before another byte is taken
abbrev pub full : ℕ
full = 4096

-- the most bytes that one byte of the input can print: the line of a call that changes all of 512 radios
abbrev pub longest : ℕ
longest = 3080

-- the most bytes that the end of the input can print: both closing lines of 512 radios
abbrev pub closing_longest : ℕ
closing_longest = 5134

-- first one byte, then others of which R holds
pub record InTurn (m n byte : ℕ) (p : Spot) (text : List ℕ) (R : Spot → List ℕ → Type 0) : Type 0 where
  pub middle : Spot
  pub first : List ℕ
  pub more : List ℕ
  pub takes : Takes m n byte p first middle
  pub rest : R middle more
  pub whole : text ≡ first ++ more

unfoldable pub TakesAll : (m n : ℕ) → (bytes : List ℕ) → Spot → (text : List ℕ) → Spot → Type 0
TakesAll m n [] p text q = Ignored p text q
TakesAll m n (b ∷ bs) p text q = InTurn m n b p text (λ s more. TakesAll m n bs s more q)

-- ---- the end of the input

-- the closing lines; `bad L` where the last line has no line feed; nothing where the run is over
unfoldable pub closing : (held numbers order : List ℕ) → (number : ℕ) → List ℕ
closing [] ns xs k = closing_lines ns xs
closing (b ∷ bs) ns xs k = bad_line k

unfoldable pub ending : Spot → List ℕ
ending p = cond p.live (closing p.held p.tables.numbers p.tables.order p.number) []
