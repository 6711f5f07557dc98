-- The texts of the replay program's lines, and what the parser keeps of them.
--   down_text a b     the text of a link call that takes a link down
--   text_of l         the text of a line, its line feed included
--   Values l          are the line's numbers at most 65,535
--   read_of s r       what the number r that the parser found says about the text s
--   value_of r        the value of what is read
--   alone_of s        the number that is the whole of s
-- Definitions only.
use Rattle.std.specs.Prelude.{◌∷◌, ◌≤◌, Option, Some, None}
use Rattle.lists.specs.{Kit.{cond, List, [], ℕ, drop}, Lists.{same}}
use Rattle.text.specs.Text.{bytes_of, decimal, printed_line}
use Rattle.calls.specs.Script.{radios_text, up_text}
use Rattle.script.specs.{Lines.{max_value, Read, got, none, number_of}, declared.lines.Line.{Line}, declared.lines.Line.TheVariants.{Radios, Up, Down}}
use Rattle.script.specs.{declared.lines.Line.TheVariants.{Bad}, declared.lines.Number.{Number}}

-- ---- the language

abbrev pub down_text : (a b : ℕ) → List ℕ
down_text a b = printed_line (bytes_of "down") (decimal a ∷ decimal b ∷ [])

-- a word, then the numbers in decimal, single spaces between, ended by a line feed; Bad has no text
unfoldable pub text_of : Line → List ℕ
text_of (Radios n) = radios_text n
text_of (Up a b) = up_text a b
text_of (Down a b) = down_text a b
text_of Bad = []

-- a line of the language: its numbers are not larger
unfoldable pub Values : Line → Type 0
Values (Radios n) = n ≤ max_value
Values (Up a b) = (a ≤ max_value) × (b ≤ max_value)
Values (Down a b) = (a ≤ max_value) × (b ≤ max_value)
Values Bad = ⊥

-- ---- what the parser keeps

-- the number found, and what follows it in s
abbrev pub read_of : (s : List ℕ) → Option Number → Read
read_of s None = none
read_of s (Some r) = got r.value (drop r.next s)

-- the value of what is read
abbrev pub value_of : Read → Option ℕ
value_of none = None
value_of (got v rest) = Some v

-- ---- a number alone

-- none, unless nothing is left
unfoldable pub alone : Read → Read
alone none = none
alone (got v rest) = cond (same rest []) (got v rest) none

-- the number that is the whole of s
unfoldable pub alone_of : List ℕ → Read
alone_of s = alone (number_of s)
