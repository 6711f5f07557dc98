-- Whole inputs of the replay program with what they print. That each prints exactly this is `texts_right` in proofs/Texts.antt.
-- Definitions only.
use Rattle.std.specs.Prelude.{◌≡◌, ◌∷◌}
use Rattle.lists.specs.Kit.{List, [], flat_map, ℕ}
use Prim.Native.String.{String}
use Rattle.text.specs.Text.{bytes_of}
use Rattle.player.specs.Whole.{RunPrints}

-- an input and what it prints, line by line
pub record Text : Type 0 where
  pub input : List String
  pub printed : List String

-- the input prints this, and nothing else
pub record TextRight (x : Text) : Type 0 where
  pub prints : RunPrints (flat_map bytes_of x.input) (flat_map bytes_of x.printed)
  pub only : (text : List ℕ) → RunPrints (flat_map bytes_of x.input) text → text ≡ flat_map bytes_of x.printed

-- M1
unfoldable pub m1 : Text
m1 = record {
  input = "radios 4\n" ∷ "up 0 1\n" ∷ "up 1 2\n" ∷ "up 0 2\n" ∷ "down 0 1\n" ∷ [];
  printed =
      "0 +1 0 1\n" ∷ "0 +1 2\n" ∷ "0 +1 0 1 2\n" ∷ "0 -1 0 1 2\n" ∷ "numbers 1 1 1 0\n" ∷ "order 3 0 2 1\n" ∷ [];
}

-- a refused call prints its number; a line of another form ends the run, and nothing after it is played
unfoldable pub bad_third : Text
bad_third = record { input = "radios 4\n" ∷ "up 3 4\n" ∷ "up 0  1\n" ∷ "up 0 1\n" ∷ []; printed = "4 0\n" ∷ "bad 3\n" ∷ [] }

-- line 1 is missing
unfoldable pub no_first : Text
no_first = record { input = "up 0 1\n" ∷ []; printed = "bad 1\n" ∷ [] }

-- all of them
unfoldable pub texts : List Text
texts = m1 ∷ bad_third ∷ no_first ∷ []

unfoldable pub AllRight : List Text → Type 0
AllRight [] = Unit {0}
AllRight (x ∷ xs) = TextRight x × AllRight xs
