-- What the replay program prints for given input bytes, line by line, as document 01 says it.
--   LinesPrint n ls   what the lines after the first print, with the closing lines or `bad L`
--   start n            where the run stands after the first line
--   RunPrints input   what a whole run prints
-- That the bytes taken one by one print exactly this is proved in proofs/WholeLaws.antt. Definitions only.
use Rattle.std.specs.Prelude.{◌≡◌, ◌∷◌, ◌++◌, ◌+◌}
use Rattle.lists.specs.Kit.{Bool, true, false, List, [], ℕ, zero, suc, replicate}
use Rattle.mesh.specs.Tables.{Tables}
use Rattle.calls.specs.Replay.{bad_line, closing_lines}
use Rattle.script.specs.Lines.{line_of}
use Rattle.player.specs.{Lines.{is_call, Played}, Machine.{Spot}, Play.{radios_of, lines_of, front, rest, cleared}}

-- a line that is a call, and then others of which R holds
pub record LineThen (n : ℕ) (line : List ℕ) (t : Tables) (w text : List ℕ) (R : Tables → List ℕ → List ℕ → Type 0)
    : Type 0 where
  pub after : Tables
  pub answer : List ℕ
  pub first : List ℕ
  pub more : List ℕ
  pub played : Played n (line_of line) t w first after answer
  pub later : R after answer more
  pub whole : text ≡ first ++ more

-- a line by whether it is a call: another form ends the run with its number
unfoldable pub LineBy : (call : Bool) → (n : ℕ) → (line : List ℕ) → (number : ℕ) → Tables → (w text : List ℕ) →
    (R : Tables → List ℕ → List ℕ → Type 0) → Type 0
LineBy true n l k t w text R = LineThen n l t w text R
LineBy false n l k t w text R = text ≡ bad_line k

-- the lines from number k on, counted without end, on a site of n radios with tables t and answer table w
unfoldable pub LinesPrint : (n : ℕ) → List (List ℕ) → (k : ℕ) → Tables → (w text : List ℕ) → Type 0
LinesPrint n [] k t w text = text ≡ closing_lines t.numbers t.order
LinesPrint n (l ∷ ls) k t w text =
    LineBy (is_call (line_of l)) n l k t w text (λ v x more. LinesPrint n ls (k + 1) v x more)

-- where the run stands after a first line that names n radios
unfoldable pub start : (n : ℕ) → Spot
start n = record { tables = cleared n; answer = replicate n 0; number = 2; held = []; live = true }

-- after a first line that names n radios, 0 where it is missing or of another form
unfoldable pub RunFrom : (n : ℕ) → (after : List ℕ) → (text : List ℕ) → Type 0
RunFrom zero bs text = text ≡ bad_line 1
RunFrom (suc n) bs text = LinesPrint (suc n) (lines_of bs) 2 (cleared (suc n)) (replicate (suc n) 0) text

-- what a whole run prints
unfoldable pub RunPrints : (input text : List ℕ) → Type 0
RunPrints input text = RunFrom (radios_of (front input)) (rest input) text
