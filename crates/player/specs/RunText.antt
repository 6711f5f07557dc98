-- Document 01: what a run of the replay program prints, executable. The outcome of each link call is calls' `link_outcome`.
--   line_text l n k t w later    what a line prints, and then what later lines print on the tables that it leaves
--   lines_text n ls k t w        the lines from number k on, with the closing lines or `bad L`
--   run_text input               a whole run
-- That it is what `RunPrints` says of the input, and all that it says, is proved in proofs/RunLaws.antt. Definitions only.
use Rattle.std.specs.Prelude.{◌∷◌, ◌++◌, ◌+◌}
use Rattle.lists.specs.Kit.{true, false, List, [], ℕ, zero, suc, replicate}
use Rattle.mesh.specs.Tables.{Tables}
use Rattle.calls.specs.{Outcomes.{Linked, link_outcome}, Runs.{answer_of}, Replay.{closing_lines, bad_line, answer_line}, declared.Reply.{Reply}}
use Rattle.script.specs.{Lines.{line_of}, declared.lines.Line.{Line}, declared.lines.Line.TheVariants.{Radios, Up, Down, Bad}}
use Rattle.player.specs.Play.{radios_of, lines_of, front, rest, cleared}

-- a link call's line, and what later lines print on its tables
unfoldable pub call_text : Linked Reply → (later : Tables → List ℕ → List ℕ) → List ℕ
call_text o later = answer_line (answer_of o.reply o.lent) ++ later o.tables o.lent

-- a line by what it says: another form ends the run with its number
unfoldable pub line_text : Line → (n k : ℕ) → Tables → (w : List ℕ) → (later : Tables → List ℕ → List ℕ) → List ℕ
line_text (Radios m) n k t w later = bad_line k
line_text (Up a b) n k t w later = call_text (link_outcome true n a b t w) later
line_text (Down a b) n k t w later = call_text (link_outcome false n a b t w) later
line_text Bad n k t w later = bad_line k

-- the lines from number k on, on a site of n radios with tables t and answer table w
unfoldable pub lines_text : (n : ℕ) → List (List ℕ) → (k : ℕ) → Tables → (w : List ℕ) → List ℕ
lines_text n [] k t w = closing_lines t.numbers t.order
lines_text n (l ∷ ls) k t w = line_text (line_of l) n k t w (λ v x. lines_text n ls (k + 1) v x)

-- after a first line that names n radios, 0 where it is missing or of another form
unfoldable pub text_from : (n : ℕ) → (after : List ℕ) → List ℕ
text_from zero bs = bad_line 1
text_from (suc n) bs = lines_text (suc n) (lines_of bs) 2 (cleared (suc n)) (replicate (suc n) 0)

unfoldable pub run_text : (input : List ℕ) → List ℕ
run_text input = text_from (radios_of (front input)) (rest input)
