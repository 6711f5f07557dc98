-- Worked cases of the parser: texts of the language, and the nearest texts of another form.
-- That every case holds is proved in proofs/Cases.antt. Definitions only.
use Rattle.std.specs.Prelude.{◌∷◌, ◌++◌}
use Rattle.lists.specs.Kit.{List, [], ℕ}
use Prim.Native.String.{String}
use Rattle.text.specs.Text.{bytes_of, line_feed}
use Rattle.script.specs.declared.lines.{Line.{Line}, Line.TheVariants.{Radios, Up, Down, Bad}}

pub record Case : Type 0 where
  pub text : List ℕ
  pub line : Line

-- a text that is ended by a line feed, and what it says
abbrev says : String → Line → Case
says t l = record { text = bytes_of t ++ (line_feed ∷ []); line = l }

-- bytes that are of another form
abbrev other : List ℕ → Case
other t = record { text = t; line = Bad }

unfoldable pub cases : List Case
cases =
    says "radios 4" (Radios 4)
    ∷ says "radios 0" (Radios 0)
    ∷ says "up 0 1" (Up 0 1)
    ∷ says "down 10 65535" (Down 10 65535)
    ∷ says "up 0 65536" Bad
    ∷ says "up 0 99999999999999999999" Bad
    ∷ says "up 00 1" Bad
    ∷ says "up 0 01" Bad
    ∷ says "up 0" Bad
    ∷ says "up 0 1 2" Bad
    ∷ says "up  0 1" Bad
    ∷ says "up 0  1" Bad
    ∷ says "up 0 1 " Bad
    ∷ says " up 0 1" Bad
    ∷ says "Up 0 1" Bad
    ∷ says "up0 1" Bad
    ∷ says "up 0,1" Bad
    ∷ says "up -1 0" Bad
    ∷ says "radios" Bad
    ∷ says "radios " Bad
    ∷ says "radios 4 4" Bad
    ∷ says "" Bad
    ∷ other []
    ∷ other (bytes_of "up 0 1")
    ∷ other (bytes_of "up 0 1" ++ (13 ∷ line_feed ∷ []))
    ∷ other (bytes_of "up 0 1" ++ (line_feed ∷ line_feed ∷ []))
    ∷ other (bytes_of "up" ++ (9 ∷ bytes_of "0 1" ++ (line_feed ∷ [])))
    ∷ []
