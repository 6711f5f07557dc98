-- The status of the program `site`: 0 only where its words ask what it is, or where all was read and accepted.
--   Whole end r             the status r of a script that is played
--   ScriptRead, SiteRead  the site of an input is in the tables: of a script that is read to its end, every line accepted; of an image
--   SourceRead, ImageRead the status of reading an input, and an image
--   SaidRight, Prints      a verb's text that is not refused; the status of printing it
--   Answered, Answers       the verb is answered for an input whose front is given; the status of that
--   InputAnswered, InputAnswers   the same, with the reads of the front
--   Asked, VerbAnswered, SiteStatus   the status of a run with these words
-- No contract can say what a read brings or a write takes. Definitions only.
use Rattle.std.specs.Prelude.{◌≡◌, ◌⊎◌, ◌≤◌, Result, Some, None}
use Rattle.lists.specs.Kit.{List, ℕ, take}
use Rattle.mesh.specs.Tables.{Tables}
use Rattle.calls.specs.{CallContracts.{ReadContract}, Answers.{call_number}, declared.Refusal.{Refusal}}
use Rattle.text.specs.Text.{bytes_of}
use Rattle.player.specs.{Reads.{at_end, NotFailed, Fills}, declared.input.Brought.{Brought}, declared.input.State.{State}}
use Rattle.site_program.specs.{Course.{Plays}, Inputs.{kind_of}, Names.{verb_of, numbers_of}, Given.{given_of}, Said.{Said}}
use Rattle.site_program.specs.declared.{course.Turned.{Turned}, kinds.Kind.{Kind}, kinds.Kind.TheVariants.{Script, Image}, arguments.Numbers.{Numbers}}
use Rattle.site_program.specs.declared.names.{Verb.{Verb}, Verb.TheVariants.{Help}}

-- ---- the input

-- 0 only where no line is refused and the end of the input is found
pub record Whole (end : Turned) (r : ℕ) : Type 0 where
  pub few : r ≤ 1
  pub accepted : r ≡ 0 → end.course.fault ≡ None
  pub to_end : r ≡ 0 → end.state ≡ at_end

pub record ScriptRead (n : ℕ) (front : List ℕ) (state : State) (t after : Tables) : Type 0 where
  pub end : Turned
  pub plays : Plays n front state t end after
  pub accepted : end.course.fault ≡ None
  pub to_end : end.state ≡ at_end

-- an image is accepted by its call
unfoldable pub SiteRead : Kind → (n : ℕ) → (front : List ℕ) → (state : State) → (t after : Tables) → Type 0
SiteRead Script n s state t after = ScriptRead n s state t after
SiteRead Image n s state t after = ReadContract n s t 0 after

pub record SourceRead (n : ℕ) (front : List ℕ) (state : State) (t : Tables) (r : ℕ) (after : Tables) : Type 0 where
  pub few : r ≤ 1
  pub read : r ≡ 0 → SiteRead (kind_of front) n front state t after

pub record ImageRead (n : ℕ) (image : List ℕ) (t : Tables) (r : ℕ) (after : Tables) : Type 0 where
  pub few : r ≤ 1
  pub read : r ≡ 0 → ReadContract n image t 0 after

-- ---- the answer

pub record SaidRight (verb : Verb) (given : Numbers) (n : ℕ) (t : Tables) : Type 0 where
  pub old : List ℕ
  pub text : Result ℕ Refusal
  pub new : List ℕ
  pub said : Said verb given.v given.k n t old text new
  pub accepted : call_number text ≡ 0

pub record Prints (verb : Verb) (given : Numbers) (n : ℕ) (t : Tables) (r : ℕ) : Type 0 where
  pub few : r ≤ 1
  pub right : r ≡ 0 → SaidRight verb given n t

-- no read of the front failed; `state` is what its last one found
pub record Answered (front : List ℕ) (state : State) (verb : Verb) (given : Numbers) : Type 0 where
  pub unbroken : NotFailed state
  pub radios : ℕ
  pub before : Tables
  pub after : Tables
  pub site : SiteRead (kind_of front) radios front state before after
  pub says : SaidRight verb given radios after

pub record Answers (front : List ℕ) (state : State) (verb : Verb) (given : Numbers) (r : ℕ) : Type 0 where
  pub few : r ≤ 1
  pub right : r ≡ 0 → Answered front state verb given

-- the front is what reads brought
pub record InputAnswered (verb : Verb) (given : Numbers) : Type 0 where
  pub old : List ℕ
  pub got : Brought
  pub buffer : List ℕ
  pub fills : Fills old got buffer
  pub answered : Answered (take got.count buffer) got.state verb given

pub record InputAnswers (verb : Verb) (given : Numbers) (r : ℕ) : Type 0 where
  pub few : r ≤ 1
  pub right : r ≡ 0 → InputAnswered verb given

-- ---- the words

-- what asks what the program is: the page of help, or the version
abbrev pub Asked : (word : List ℕ) → Type 0
Asked w = (w ≡ bytes_of "--help") ⊎ ((w ≡ bytes_of "--version") ⊎ (verb_of w ≡ Help))

-- the verb has the numbers that it takes, and is answered
pub record VerbAnswered (word : List ℕ) (count : ℕ) (v k : List ℕ) : Type 0 where
  pub given : Numbers
  pub formed : given_of (numbers_of (verb_of word)) count v k ≡ Some given
  pub input : InputAnswered (verb_of word) given

pub record SiteStatus (word : List ℕ) (count : ℕ) (v k : List ℕ) (r : ℕ) : Type 0 where
  pub few : r ≤ 1
  pub right : r ≡ 0 → Asked word ⊎ VerbAnswered word count v k
