-- Document 02, W-203: played back, no line is refused, and links and numbers are the tables'; the order may differ.
--   Rebuilds               what its calls answer and leave, and what the replay program prints of it
--   PlaysBack n t input   the input is played to its end, and that rebuilds t
-- That the script of sound tables does is `script_plays` in proofs/ScriptPlays.antt. Definitions only.
use Rattle.std.specs.Prelude.{◌≡◌}
use Rattle.lists.specs.Kit.{List, ListAsMemᴰ, ℕ, length}
use Rattle.mesh.specs.Tables.{Tables, graph_in}
use Rattle.calls.specs.{Book.{Answer, Call}, Runs.{events, after, answers}, Replay.{lines}}
use Rattle.player.specs.{Play.{lines_of, front, rest, radios_of, cleared}, RunText.{run_text}}
use Rattle.playback.specs.Plays.{calls_in}

-- cs are the calls of the input, made on a cleared site: hs are their answers, v the tables that they leave
pub record Rebuilds (n : ℕ) (t : Tables) (input : List ℕ) (cs : List Call) (hs : List Answer) (v : Tables) : Type 0 where
  pub radios : radios_of (front input) ≡ n
  -- each line after the first is a call, and there is one for each link
  pub all_calls : length cs ≡ length (lines_of (rest input))
  pub line_each : length cs ≡ length (graph_in n t.links).links
  pub none_refused : (h : Answer) → ListAsMemᴰ h hs → h.number ≡ 0
  pub links : v.links ≡ t.links
  pub numbers : v.numbers ≡ t.numbers
  -- a line for each answer, then the numbers of the tables and the order left
  pub prints : run_text input ≡ lines hs t.numbers v.order

unfoldable pub PlaysBack : (n : ℕ) → Tables → (input : List ℕ) → Type 0
PlaysBack n t input =
    let cs = calls_in n input in Rebuilds n t input cs (answers (events cs (cleared n))) (after cs (cleared n))
