-- The executable text is the one that `RunPrints` says.
--   run_met      `run_text` meets `RunPrints`
--   run_only     and no other text does
use Rattle.std.specs.Prelude.{◌≡◌, ◌∷◌, ◌+◌}
use Rattle.lists.specs.Kit.{refl, sym, subst, Bool, true, false, List, [], ℕ, zero, suc, replicate}
use Rattle.mesh.specs.Tables.{Tables}
use Rattle.calls.specs.{Outcomes.{link_outcome}, CallContracts.{LinkContract}, Runs.{answer_of}, Replay.{answer_line}}
use Rattle.script.specs.{Lines.{line_of}, declared.lines.Line.{Line}, declared.lines.Line.TheVariants.{Radios, Up, Down, Bad}}
use Rattle.player.specs.{Lines.{is_call, Called, Played}, Play.{radios_of, lines_of, front, rest, cleared}, Whole.{LineThen, LineBy, LinesPrint}}
use Rattle.player.specs.{Whole.{RunFrom, RunPrints}, RunText.{call_text, line_text, lines_text, text_from, run_text}}
use Rattle.player.proofs.DecidedLaws.{run_decided}

-- what follows a line: R of each text that `later` gives
module _ (R : Tables → List ℕ → List ℕ → Type 0) (later : Tables → List ℕ → List ℕ)
    (follows : (v : Tables) (y : List ℕ) → R v y (later v y)) where
  -- x is the call that the line l says
  called : (up : Bool) (x : Line) (n a b : ℕ) (l : List ℕ) (t : Tables) (w : List ℕ) → line_of l ≡ x
      → ((text : List ℕ) (v : Tables) (y : List ℕ) → Called up n a b t w text v y → Played n x t w text v y)
      → LineThen n l t w (call_text (link_outcome up n a b t w) later) R
  unfolding call_text answer_line answer_of LinkContract
  called up x n a b l t w e plays =
      let o = link_outcome up n a b t w in
      let says = answer_line (answer_of o.reply o.lent) in
      record {
        after = o.tables;
        answer = o.lent;
        first = says;
        more = later o.tables o.lent;
        played = subst (λ (z : Line). Played n z t w says o.tables o.lent) (sym e)
            (plays says o.tables o.lent (record { reply = o.reply; does = refl; says = refl }));
        later = follows o.tables o.lent;
        whole = refl;
      }

  line_met : (x : Line) (n : ℕ) (l : List ℕ) (k : ℕ) (t : Tables) (w : List ℕ) → line_of l ≡ x
      → LineBy (is_call x) n l k t w (line_text x n k t w later) R
  unfolding LineBy is_call line_text Played
  line_met (Radios m) n l k t w e = refl
  line_met (Up a b) n l k t w e = called true (Up a b) n a b l t w e (λ text v y h. h)
  line_met (Down a b) n l k t w e = called false (Down a b) n a b l t w e (λ text v y h. h)
  line_met Bad n l k t w e = refl

lines_met : (n : ℕ) (ls : List (List ℕ)) (k : ℕ) (t : Tables) (w : List ℕ) → LinesPrint n ls k t w (lines_text n ls k t w)
unfolding LinesPrint lines_text
lines_met n [] k t w = refl
lines_met n (l ∷ ls) k t w =
    line_met (λ v x more. LinesPrint n ls (k + 1) v x more) (λ v x. lines_text n ls (k + 1) v x) (λ v y. lines_met n ls (k + 1) v y)
    (line_of l) n l k t w refl

from_met : (n : ℕ) (bs : List ℕ) → RunFrom n bs (text_from n bs)
unfolding RunFrom text_from
from_met zero bs = refl
from_met (suc n) bs = lines_met (suc n) (lines_of bs) 2 (cleared (suc n)) (replicate (suc n) 0)

pub run_met : (input : List ℕ) → RunPrints input (run_text input)
unfolding RunPrints run_text
run_met input = from_met (radios_of (front input)) (rest input)

pub run_only : (input text : List ℕ) → RunPrints input text → text ≡ run_text input
run_only input text h = run_decided input text (run_text input) h (run_met input)
