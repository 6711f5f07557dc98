-- The input of a run, read by read.
--   most_reads           the reads that a run has
--   goes_on, at_end      what a read finds that does not fail
--   unread_words w       why an input cannot be read, in words
--   failure e            what a read that failed found, by its error number
--   found got room       what a read brought that answered `got`, a count or an error number, in a buffer of so many bytes
--   Read                 a read of a run: the bytes that it brought, and what it found
--   input_of rs          what the reads of a run brought, in order; here and below the last read stands first
--   Going rs             every read brought bytes or was interrupted
--   Unbroken rs          no read failed
--   ToEnd rs            the input is read to its end: the last read is at the end, and none before it failed
--   FillsOn, Fills      a buffer that a read goes on to fill; a front that reads filled
-- No contract can say which bytes a read brings: of them `Read` has some. Definitions only.
use Rattle.std.specs.Prelude.{◌≢◌, ◌≡◌, ◌∷◌, ◌++◌, Result, Ok, Err}
use Rattle.lists.specs.Kit.{Bool, false, cond, List, [], ℕ, zero, suc, min, eqb, ℤ, pos, negsuc}
use Rattle.text.specs.{Text.{bytes_of}, Print.{buffer_at, Puts}}
use Rattle.player.specs.declared.input.{Brought.{Brought}, State.{State}, State.TheVariants.{GoesOn, End, Failed}, Unread.{Unread}}
use Rattle.player.specs.declared.input.Unread.TheVariants.{Folder, Blocks, Closed, Device, Other}

-- the reads that a run has: 2^51, each of a byte at least, so that no input of fewer bytes is cut and no line's number passes 64 bits
abbrev pub most_reads : ℕ
most_reads = 2251799813685248

-- ---- what a read finds

-- bytes, or it was interrupted
abbrev pub goes_on : State
goes_on = GoesOn

-- the end of the input
abbrev pub at_end : State
at_end = End

abbrev pub NotFailed : State → Type 0
NotFailed GoesOn = Unit {0}
NotFailed End = Unit {0}
NotFailed (Failed why) = ⊥

abbrev pub unread_words : Unread → List ℕ
unread_words Folder = bytes_of "the input is a folder"
unread_words Blocks = bytes_of "the input cannot be read now: a read would block"
unread_words Closed = bytes_of "the input is closed, or not open for reading"
unread_words Device = bytes_of "the input cannot be read: input/output error"
unread_words Other = bytes_of "the input cannot be read"

-- is the error number this one
unfoldable pub is_error : (k : ℕ) → (error : ℤ) → Bool
is_error k (pos j) = eqb j k
is_error k (negsuc j) = false

-- Linux' numbers: interrupted 4, a folder 21, would block 11, no such descriptor 9, input/output 5
unfoldable pub failure : (error : ℤ) → State
failure e =
    cond (is_error 4 e) GoesOn
    (cond (is_error 21 e) (Failed Folder)
    (cond (is_error 11 e) (Failed Blocks) (cond (is_error 9 e) (Failed Closed) (cond (is_error 5 e) (Failed Device) (Failed Other)))))

abbrev brought : (count : ℕ) → State → Brought
brought k s = record { count = k; state = s }

-- a read that did not fail is at the end where it brought nothing
unfoldable pub by_count : (count : ℕ) → Brought
by_count zero = brought 0 End
by_count (suc k) = brought (suc k) GoesOn

-- a count is at most the room; without room nothing can be said of the input
unfoldable pub found : (got : Result ℕ ℤ) → (room : ℕ) → Brought
found r zero = brought 0 (Failed Other)
found (Ok k) (suc room) = by_count (min k (suc room))
found (Err e) (suc room) = brought 0 (failure e)

-- what some read brought
pub record Found (room : ℕ) (r : Brought) : Type 0 where
  pub got : Result ℕ ℤ
  pub is : r ≡ found got room

-- ---- the reads of a run

-- one that does not go on brought nothing
pub record Read : Type 0 where
  pub bytes : List ℕ
  pub state : State
  pub none : (state ≢ goes_on) → bytes ≡ []

unfoldable pub input_of : List Read → List ℕ
input_of [] = []
input_of (r ∷ rs) = input_of rs ++ r.bytes

unfoldable pub Going : List Read → Type 0
Going [] = Unit {0}
Going (r ∷ rs) = (r.state ≡ goes_on) × Going rs

unfoldable pub Unbroken : List Read → Type 0
Unbroken [] = Unit {0}
Unbroken (r ∷ rs) = NotFailed r.state × Going rs

unfoldable pub ToEnd : List Read → Type 0
ToEnd [] = ⊥
ToEnd (r ∷ rs) = (r.state ≡ at_end) × Going rs

-- one read: what it brought is put into `old` from a place on
pub record FillsOn (old : List ℕ) (at : ℕ) (r : Brought) (new : List ℕ) : Type 0 where
  pub bytes : List ℕ
  pub puts : Puts (buffer_at old at) bytes (buffer_at new r.count)
  pub none : (r.state ≢ goes_on) → bytes ≡ []

-- the front of `old` is what the reads brought, and it is `new` after
pub record Fills (old : List ℕ) (r : Brought) (new : List ℕ) : Type 0 where
  pub reads : List Read
  pub puts : Puts (buffer_at old 0) (input_of reads) (buffer_at new r.count)
  pub going : r.state ≡ goes_on → Going reads
  pub ended : r.state ≡ at_end → ToEnd reads
