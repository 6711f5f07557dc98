-- The lines of the replay program, as bytes.
--   max_value         the largest number of a line
--   Read              what reading at the front of a text gives: a value and what follows it, or none
--   digits_on v s     the digits at the front of s, read onto v
--   number_of s       the number at the front of s
--   last_number_of s  the number at the front of s, with nothing but the line feed after it
--   link_from up s      what follows `up ` or `down `, read
--   line_of s         what a text says: `Bad` for every text of another form
-- The texts of the language are in Texts.antt. That line_of takes exactly the texts of the language, and each back to its line, is proved in proofs/Texts.antt.
-- Definitions only.
use Rattle.std.specs.Prelude.{◌&&◌, ◌∷◌, ◌+◌, ◌*◌, ◌-◌, Option, Some, None}
use Rattle.lists.specs.{Kit.{Bool, true, false, cond, List, [], ℕ, leb, eqb, drop}, Lists.{same}}
use Rattle.text.specs.Text.{bytes_of, space, line_feed, digit_byte}
use Rattle.script.specs.declared.lines.{Line.{Line}, Line.TheVariants.{Radios, Up, Down, Bad}}

-- ---- numbers

-- the largest number of a line
abbrev pub max_value : ℕ
max_value = 65535

-- a value and what follows it, or none
pub data Read : Type 0 where
  got : (value : ℕ) → (rest : List ℕ) → Read
  none : Read

-- is the byte that of a digit, 0 to 9
unfoldable pub is_digit : (byte : ℕ) → Bool
is_digit b = leb (digit_byte 0) b && leb b (digit_byte 9)

-- the digits at the front, read onto v; above the largest value none
unfoldable pub digits_on : (v : ℕ) → List ℕ → Read
digits_on v [] = got v []
digits_on v (b ∷ bs) =
    let w = 10 * v + (b - digit_byte 0) in
    cond (is_digit b) (cond (leb w max_value) (digits_on w bs) none) (got v (b ∷ bs))

-- at least one digit; a zero stands alone
unfoldable pub number_of : List ℕ → Read
number_of [] = none
number_of (b ∷ bs) =
    cond (eqb b (digit_byte 0)) (got 0 bs) (cond (is_digit b) (digits_on (b - digit_byte 0) bs) none)

-- none, unless just the line feed is left
unfoldable pub ended : Read → Read
ended none = none
ended (got v rest) = cond (same rest (line_feed ∷ [])) (got v rest) none

-- the number at the front, where the line ends after it
unfoldable pub last_number_of : List ℕ → Read
last_number_of s = ended (number_of s)

-- ---- lines

-- does s start with the word
unfoldable pub starts : (word s : List ℕ) → Bool
starts [] s = true
starts (w ∷ ws) [] = false
starts (w ∷ ws) (b ∷ bs) = eqb w b && starts ws bs

-- what follows `radios `, read as a number
unfoldable pub radios_line : Read → Line
radios_line none = Bad
radios_line (got n rest) = Radios n

-- the first number is a, and the second is read
unfoldable pub link_with : (up : Bool) → (a : ℕ) → Read → Line
link_with up a none = Bad
link_with up a (got b rest) = cond up (Up a b) (Down a b)

-- the first number is read: a space stands after it, then the second
unfoldable pub link_after : (up : Bool) → Read → Line
link_after up none = Bad
link_after up (got a rest) =
    cond (starts (space ∷ []) rest) (link_with up a (last_number_of (drop 1 rest))) Bad

-- what follows `up ` or `down `
unfoldable pub link_from : (up : Bool) → List ℕ → Line
link_from up s = link_after up (number_of s)

-- what a text says; Bad where it is of another form
unfoldable pub line_of : List ℕ → Line
line_of s =
    cond (starts (bytes_of "up ") s) (link_from true (drop 3 s))
    (cond (starts (bytes_of "down ") s) (link_from false (drop 5 s))
    (cond (starts (bytes_of "radios ") s) (radios_line (last_number_of (drop 7 s))) Bad))
