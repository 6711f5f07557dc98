-- How a program is started: with `--status D` before its words it writes its status to descriptor D.
--   standard_ends           a program's own input, output and errors
--   longest_word            the bytes of the longest words that mean something to a program
--   descriptor_of word      the descriptor of a word of one digit
--   start_of first second   where the program's own words begin, and where its status goes
-- Definitions only.
use Rattle.std.specs.Prelude.{◌∷◌, Option, None}
use Rattle.lists.specs.{Kit.{cond, List, [], ℕ}, Lists.{same}}
use Rattle.text.specs.Text.{bytes_of}
use Rattle.script.specs.Digits.{digit_of}
use Rattle.player.specs.{declared.words.Start.{Start}, declared.input.Ends.{Ends}}
use Rattle.std.specs.declared.rt.{Stdin.{Stdin}, Stdout.{Stdout}, Stderr.{Stderr}}

-- the system's own three
abbrev pub standard_ends : Ends Stdin Stdout Stderr
standard_ends = record { input = record { seal = tt }; output = record { seal = tt }; errors = record { seal = tt } }

-- `staircase` and `--version`
abbrev pub longest_word : ℕ
longest_word = 9

unfoldable pub descriptor_of : (word : List ℕ) → Option ℕ
descriptor_of [] = None
descriptor_of (b ∷ []) = digit_of b
descriptor_of (b ∷ c ∷ bs) = None

unfoldable pub start_of : (first second : List ℕ) → Start
start_of w v = cond (same w (bytes_of "--status")) (record { at = 3; told = descriptor_of v }) (record { at = 1; told = None })
