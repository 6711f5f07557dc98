-- Text as bytes: words, decimal numbers, lines of fields.
--   bytes_of text        a text as bytes
--   space, line_feed     two bytes
--   decimal x            a number in decimal digits, no leading zeros
--   printed_line f fs    fields parted by single spaces, ended by a line feed
-- Laws of digits are in proofs/DecimalLaws.antt. Definitions only.
use Rattle.std.specs.Prelude.{◌∷◌, ◌++◌, ◌+◌, ◌/◌, ◌%◌}
use Rattle.lists.specs.Kit.{List, [], ℕ, zero, suc}
use Prim.Native.{Char.{code}, String.{String, [] as empty_text, ◌∷◌ as text}}

-- a text as bytes, one for each character: texts here are ASCII
abbrev pub bytes_of : String → List ℕ
bytes_of empty_text = []
bytes_of (text c s) = code c ∷ bytes_of s

abbrev pub space : ℕ
space = 32

abbrev pub line_feed : ℕ
line_feed = 10

-- the digit 0 is byte 48
unfoldable pub digit_byte : (digit : ℕ) → ℕ
digit_byte d = 48 + d

-- the digits of x, none for 0; as many turns as x are enough
unfoldable pub digits_in : (turns x : ℕ) → List ℕ
digits_in zero x = []
digits_in (suc t) zero = []
digits_in (suc t) (suc x) = digits_in t (suc x / 10) ++ (digit_byte (suc x % 10) ∷ [])

unfoldable pub decimal : ℕ → List ℕ
decimal zero = digit_byte 0 ∷ []
decimal (suc x) = digits_in (suc x) (suc x)

-- each further field with a space before it
unfoldable pub further_fields : List (List ℕ) → List ℕ
further_fields [] = line_feed ∷ []
further_fields (f ∷ fs) = space ∷ (f ++ further_fields fs)

unfoldable pub printed_line : (first : List ℕ) → (others : List (List ℕ)) → List ℕ
printed_line f fs = f ++ further_fields fs
