-- What a run prints is decided by its input: two texts that meet `RunPrints` are equal.
use Rattle.std.specs.Prelude.{◌≡◌, ◌∷◌, ◌++◌, ◌+◌}
use Rattle.lists.specs.Kit.{sym, ap, subst, ◌∙◌, Bool, true, false, List, [], ℕ, zero, suc, take}
use Rattle.mesh.specs.Tables.{Tables}
use Rattle.calls.specs.{Replay.{link_line}, Outcomes.{Linked}, CallContracts.{LinkContract}}
use Rattle.script.specs.{Lines.{line_of}, declared.lines.Line.{Line}, declared.lines.Line.TheVariants.{Radios, Up, Down, Bad}}
use Rattle.player.specs.{Lines.{is_call, Called, Played}, Play.{radios_of, lines_of, front, rest}, Whole.{LineBy, LinesPrint, RunFrom, RunPrints}}
use Rattle.calls.specs.declared.Reply.{Reply}

-- two outcomes of a line are the same
pub record SameLine (text said : List ℕ) (v u : Tables) (x y : List ℕ) : Type 0 where
  pub text_same : text ≡ said
  pub tables : v ≡ u
  pub answer : x ≡ y

called_decided : (up : Bool) (n a b : ℕ) (t v u : Tables) (w x y text said : List ℕ) → Called up n a b t w text v x → Called up n a b t w said u y
    → SameLine text said v u x y
unfolding LinkContract
called_decided up n a b t v u w x y text said h k =
    let same = h.does ∙ sym k.does in
    record {
      text_same = h.says ∙ ap (λ (z : Linked Reply). link_line z.reply.number z.reply.step (take z.reply.count z.lent)) same ∙ sym k.says;
      tables = ap (λ (z : Linked Reply). z.tables) same;
      answer = ap (λ (z : Linked Reply). z.lent) same;
    }

played_decided : (n : ℕ) (l : Line) (t v u : Tables) (w x y text said : List ℕ) → Played n l t w text v x → Played n l t w said u y
    → SameLine text said v u x y
unfolding Played
played_decided n (Radios m) t v u w x y text said h k =
    record { text_same = h.says ∙ sym k.says; tables = h.tables ∙ sym k.tables; answer = h.answer ∙ sym k.answer }
played_decided n (Up a b) t v u w x y text said h k = called_decided true n a b t v u w x y text said h k
played_decided n (Down a b) t v u w x y text said h k = called_decided false n a b t v u w x y text said h k
played_decided n Bad t v u w x y text said h k =
    record { text_same = h.says ∙ sym k.says; tables = h.tables ∙ sym k.tables; answer = h.answer ∙ sym k.answer }

-- a line and what follows it, of which the texts are decided
line_decided : (c : Bool) (n : ℕ) (l : List ℕ) (k : ℕ) (t : Tables) (w text said : List ℕ) (R : Tables → List ℕ → List ℕ → Type 0)
    → ((v : Tables) (x m o : List ℕ) → R v x m → R v x o → m ≡ o) → LineBy c n l k t w text R → LineBy c n l k t w said R → text ≡ said
unfolding LineBy
line_decided false n l k t w text said R f g h = g ∙ sym h
line_decided true n l k t w text said R f g h =
    let same = played_decided n (line_of l) t g.after h.after w g.answer h.answer g.first h.first g.played h.played in
    let moved : R h.after h.answer g.more
    = subst (λ (x : List ℕ). R h.after x g.more) same.answer (subst (λ (v : Tables). R v g.answer g.more) same.tables g.later) in
    g.whole
    ∙ ap (λ (x : List ℕ). x ++ g.more) same.text_same
    ∙ ap (λ (x : List ℕ). h.first ++ x) (f h.after h.answer g.more h.more moved h.later)
    ∙ sym h.whole

lines_decided : (n : ℕ) (ls : List (List ℕ)) (k : ℕ) (t : Tables) (w text said : List ℕ) → LinesPrint n ls k t w text → LinesPrint n ls k t w said
    → text ≡ said
unfolding LinesPrint
lines_decided n [] k t w text said g h = g ∙ sym h
lines_decided n (l ∷ ls) k t w text said g h =
    line_decided (is_call (line_of l)) n l k t w text said (λ v x m. LinesPrint n ls (k + 1) v x m)
    (λ v x m o p q. lines_decided n ls (k + 1) v x m o p q) g h

run_from_decided : (n : ℕ) (bs text said : List ℕ) → RunFrom n bs text → RunFrom n bs said → text ≡ said
unfolding RunFrom
run_from_decided zero bs text said g h = g ∙ sym h
run_from_decided (suc n) bs text said g h = lines_decided (suc n) (lines_of bs) 2 _ _ text said g h

pub run_decided : (input text said : List ℕ) → RunPrints input text → RunPrints input said → text ≡ said
unfolding RunPrints
run_decided input text said g h = run_from_decided (radios_of (front input)) (rest input) text said g h
