-- What the program `site` says where something goes wrong, after its name.
--   fault_number f            a number for what is wrong with a line, if anything: a refusal's own, and others for its form
--   line_words f              what is wrong with a line of a script
--   script_text l f           which line, and what is wrong with it
--   image_text r place x      where an image is refused, and why
--   usage_words k             what a verb takes
--   file_words verb           that a verb takes no file name
-- Definitions only.
use Rattle.std.specs.Prelude.{◌∷◌, ◌++◌, Option, Some, None}
use Rattle.lists.specs.Kit.{cond, List, ℕ, eqb}
use Rattle.text.specs.Text.{bytes_of, space, decimal}
use Rattle.calls.specs.{Answers.{refusal_number}, declared.Refusal.{Refusal}}
use Rattle.site_program.specs.Words.{refused_text}
use Rattle.site_program.specs.declared.refusals.{Fault.{Fault}, Fault.TheVariants.{Form, NoFeed, Carriage, Refused}}

abbrev pub fault_number : Option Fault → ℕ
fault_number None = 0
fault_number (Some Form) = 1000
fault_number (Some NoFeed) = 1001
fault_number (Some Carriage) = 1002
fault_number (Some (Refused r)) = refusal_number r

abbrev pub line_words : Fault → List ℕ
line_words Form = bytes_of "no line of the language stands here"
line_words NoFeed = bytes_of "the last line has no line feed"
line_words Carriage = bytes_of "a carriage return stands before the line feed"
line_words (Refused r) = refused_text (refusal_number r)

unfoldable pub script_text : (line : ℕ) → Fault → List ℕ
script_text l f = bytes_of "script, line" ++ ((space ∷ decimal l) ++ (bytes_of ": " ++ line_words f))

unfoldable pub image_text : Refusal → (place : List ℕ) → (x : ℕ) → List ℕ
image_text r place x = bytes_of "no script; image, " ++ (place ++ ((space ∷ decimal x) ++ (bytes_of ": " ++ refused_text (refusal_number r))))

unfoldable pub usage_words : (takes : ℕ) → List ℕ
usage_words k =
    cond (eqb k 0) (bytes_of " takes no number")
    (cond (eqb k 1) (bytes_of " takes a radio, 0 to 65535") (bytes_of " takes a radio and a level, 0 to 65535 each"))

unfoldable pub file_words : (verb : List ℕ) → List ℕ
file_words w = w ++ (bytes_of " reads standard input: site " ++ (w ++ bytes_of " <FILE"))
