-- The link calls that an input of the replay program says.
--   calls_of n l        the call of a line on a site of n radios; a line of another form has none
--   calls_in n input    the calls of the lines after the first, in turn
-- The answer table has n entries, as the player's. What calls answer and leave is calls' `events` and `after`. Definitions only.
use Rattle.std.specs.Prelude.{◌∷◌}
use Rattle.lists.specs.Kit.{true, false, List, [], flat_map, ℕ}
use Rattle.calls.specs.Book.{Call, linking}
use Rattle.script.specs.{Lines.{line_of}, declared.lines.Line.{Line}, declared.lines.Line.TheVariants.{Radios, Up, Down, Bad}}
use Rattle.player.specs.Play.{lines_of, rest}

-- document 02, W-203: the link call that a line says
unfoldable pub calls_of : (n : ℕ) → Line → List Call
calls_of n (Radios m) = []
calls_of n (Up a b) = linking true n a b n ∷ []
calls_of n (Down a b) = linking false n a b n ∷ []
calls_of n Bad = []

-- document 02, W-203: the calls of an input
unfoldable pub calls_in : (n : ℕ) → (input : List ℕ) → List Call
calls_in n input = flat_map (λ l. calls_of n (line_of l)) (lines_of (rest input))
