-- The bytes after the first line: read by chunks, taken, and written through the printing buffer.
--   chunk_room               the bytes that one read can bring
--   out_room                 the bytes of the printing buffer
--   waiting b                what waits in the printing buffer
--   Writes b text c          what waited in b and then the text: written, but for what waits in c
--   room_made f s, kept_fault, RoomMade   the progress after a full buffer was written
--   broken_off f s           the progress after a read that failed
--   Ready k s out            the run has room for k bytes more
--   SiteCleared             the tables are those of a cleared site
--   TakesChunk              a chunk takes the run from spot to spot, and its text is written or waits
--   Ended, Broken, TakesRead   what a read brought, by what it found: bytes that are taken, the end of the input, a failure
--   FoundBy                 what a run without a fault says of the last read
--   ReadsOnce               one read
--   ReadsAll                the reads together: the text of all bytes that they brought, in order, to their end
--   ReadsFirst              the first line
--   PlayedToEnd, RunToEnd   the lines after the first, and a whole input, are read to their end and played
--   Concluded, LinesStatus, RunStatus   the status: 0 only there
--   is_keep d                no keep, or one that is none of the program's own descriptors
--   CopiesOnce, Copied      one read of the keep; all reads, to its end
-- No contract can say what a read brings or a write takes: of both there are some bytes, `Read` and `written` below.
-- Definitions only.
use Rattle.std.specs.Prelude.{◌≡◌, ◌++◌, ◌+◌, ◌≤◌, ◌<◌, Option, Some, None, Result, Ok, Err}
use Rattle.std.specs.Option.{option_or}
use Rattle.lists.specs.Kit.{Bool, true, false, cond, ℤ, pos, negsuc, List, ℕ, ltb, length, take, replicate}
use Rattle.mesh.specs.{Limits.{max_radios}, Tables.{Tables}}
use Rattle.text.specs.Print.{Buffer, buffer_at, max_place}
use Rattle.player.specs.{Reads.{goes_on, at_end, NotFailed, Read, input_of, Going, Unbroken, ToEnd}, First.{some_radios}, Play.{radios_of, cleared}}
use Rattle.player.specs.declared.{first.First.{First}, input.Unread.{Unread}, input.State.{State}, input.State.TheVariants.{GoesOn, End, Failed}}
use Rattle.player.specs.declared.machine.{Fault.{Fault}, Fault.TheVariants.{Lost}}
use Rattle.player.specs.{Machine.{Spot, TakesAll, ending, full}, Whole.{RunFrom}, declared.machine.Progress.{Progress}}

-- the bytes that one read can bring
abbrev pub chunk_room : ℕ
chunk_room = 4096

-- ---- the printing buffer

-- its bytes: what may wait before it is full, and either the longest line or the closing lines, fit
abbrev pub out_room : ℕ
out_room = 16384

-- what waits in it
unfoldable pub waiting : Buffer → List ℕ
waiting b = take b.at b.bytes

-- what waited in b and then the text: written, but for what waits in c
pub record Writes (b : Buffer) (text : List ℕ) (c : Buffer) : Type 0 where
  pub written : List ℕ
  pub is : waiting b ++ text ≡ written ++ waiting c

-- a full buffer is written, and nothing waits then; all else is kept, but for the fault f
unfoldable pub room_made : (f : Option Fault) → Progress → Progress
room_made f s =
    record { number = s.number; held = s.held; at = cond (ltb s.at full) s.at 0; live = s.live; fault = f }

-- the fault after a full buffer was kept or not: answers that cannot be kept are one, where there was none before
unfoldable pub kept_fault : (kept : Bool) → (fault : Option Fault) → Option Fault
kept_fault true f = f
kept_fault false f = option_or f (Some Lost)

-- the same, with a fault wherever there was one
pub record RoomMade (s r : Progress) : Type 0 where
  pub is : r ≡ room_made r.fault s
  pub kept : r.fault ≡ None → s.fault ≡ None

-- a read failed: nothing but the fault is another
unfoldable pub broken_off : (f : Option Fault) → Progress → Progress
broken_off f s = record { number = s.number; held = s.held; at = s.at; live = s.live; fault = f }

-- ---- chunks

-- k bytes more can be taken: the printing buffer out has its room and is not full, and the line's number stays within 64 bits
pub record Ready (k : ℕ) (s : Progress) (out : List ℕ) : Type 0 where
  pub at : s.at < full
  pub number : s.number + k ≤ max_place
  pub room : length out ≡ out_room

-- the site is cleared
pub record SiteCleared (n : ℕ) (t : Tables) (w : List ℕ) : Type 0 where
  pub some : 0 < n
  pub few : n ≤ max_radios
  pub is_cleared : t ≡ cleared n
  pub answer_zero : w ≡ replicate n 0

-- the bytes take the run from p to q, and their text is written or waits; a line has room for m bytes
pub record TakesChunk (m n : ℕ) (bytes : List ℕ) (p : Spot) (b : Buffer) (q : Spot) (c : Buffer) : Type 0 where
  pub text : List ℕ
  pub takes : TakesAll m n bytes p text q
  pub writes : Writes b text c

-- ---- reads

-- the input has ended: the closing lines, or `bad L`
pub record Ended (p : Spot) (b : Buffer) (q : Spot) (c : Buffer) : Type 0 where
  pub over : q.live ≡ false
  pub writes : Writes b (ending p) c

-- a read failed: the run stays where it is
pub record Broken (p : Spot) (b : Buffer) (q : Spot) (c : Buffer) : Type 0 where
  pub same : q ≡ p
  pub none : c ≡ b

-- what a read brought, by what it found: bytes, however few, are taken; at the end the run ends; a failure breaks it off
unfoldable pub TakesRead : (m n : ℕ) → (bytes : List ℕ) → State → Spot → Buffer → Spot → Buffer → Type 0
TakesRead m n bs GoesOn p b q c = TakesChunk m n bs p b q c
TakesRead m n bs End p b q c = Ended p b q c
TakesRead m n bs (Failed why) p b q c = Broken p b q c

-- a run without a fault goes on after bytes, and is over at the end of the input alone
pub record FoundBy (state : State) (r : Progress) : Type 0 where
  pub going : r.live ≡ true → r.fault ≡ None → state ≡ goes_on
  pub ended : r.live ≡ false → r.fault ≡ None → state ≡ at_end
  pub over : r.live ≡ false → NotFailed state

-- one read, after which the run's progress is r
pub record ReadsOnce (m n : ℕ) (r : Progress) (p : Spot) (b : Buffer) (q : Spot) (c : Buffer) : Type 0 where
  pub read : Read
  pub few : length read.bytes ≤ chunk_room
  pub found : FoundBy read.state r
  pub taken : TakesRead m n read.bytes read.state p b q c

-- all reads after a first line that names n radios, the last read first: where the run is over, no read failed, and its text is that of
-- what they brought; where it has no fault then, they go to the end of the input
pub record ReadsAll (n : ℕ) (b : Buffer) (r : Progress) (out : List ℕ) : Type 0 where
  pub reads : List Read
  pub text : List ℕ
  pub writes : Writes b text (buffer_at out r.at)
  pub unbroken : r.live ≡ false → Unbroken reads
  pub prints : r.live ≡ false → RunFrom n (input_of reads) text
  pub to_end : r.live ≡ false → r.fault ≡ None → ToEnd reads

-- the first line is what its reads brought, of which none failed
pub record FirstIs (r : First) : Type 0 where
  pub reads : List Read
  pub names : r.radios ≡ some_radios (radios_of (input_of reads))
  pub few : (n : ℕ) → r.radios ≡ Some n → n ≤ max_radios
  pub unbroken : Unbroken reads
  pub going : r.state ≡ goes_on → Going reads
  pub ended : r.state ≡ at_end → ToEnd reads

unfoldable pub ReadsFirst : Result First Unread → Type 0
ReadsFirst (Ok r) = FirstIs r
ReadsFirst (Err why) = Unit {0}

-- ---- the status

-- 0 only where the run is over, without a fault
pub record Concluded (s : Progress) (r : ℕ) : Type 0 where
  pub few : r ≤ 1
  pub over : r ≡ 0 → s.live ≡ false
  pub right : r ≡ 0 → s.fault ≡ None

-- the lines after a first line that names n radios are read to their end, and the text is theirs
pub record PlayedToEnd (n : ℕ) : Type 0 where
  pub reads : List Read
  pub text : List ℕ
  pub to_end : ToEnd reads
  pub prints : RunFrom n (input_of reads) text

pub record LinesStatus (n r : ℕ) : Type 0 where
  pub few : r ≤ 1
  pub whole : r ≡ 0 → PlayedToEnd n

-- the first line names a site, no read of it failed, and the lines after it are read to their end
pub record RunToEnd : Type 0 where
  pub first : List Read
  pub unbroken : Unbroken first
  pub named : 0 < radios_of (input_of first)
  pub lines : PlayedToEnd (radios_of (input_of first))

pub record RunStatus (r : ℕ) : Type 0 where
  pub few : r ≤ 1
  pub whole : r ≡ 0 → RunToEnd

-- ---- the keep

-- 0, 1 and 2 are the program's input, output and errors
abbrev pub is_keep : (descriptor : ℤ) → Bool
is_keep (pos d) = ltb 2 d
is_keep (negsuc d) = true

-- one read, of which the state tells what it found, unless it or the write after it failed; of its bytes nothing is said
pub record CopiesOnce (state : State) : Type 0 where
  pub read : Read
  pub found : NotFailed state → read.state ≡ state

-- the keep is read to its end
pub record Copied : Type 0 where
  pub reads : List Read
  pub to_end : ToEnd reads
