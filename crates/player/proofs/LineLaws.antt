-- Laws of what a line does and prints.
use Rattle.std.specs.Prelude.{◌≡◌}
use Rattle.lists.specs.Kit.{refl, sym, ap, subst, ◌∙◌, Bool, true, false, true≢false, List, [], ℕ, ℤ, take}
use Rattle.mesh.specs.Tables.{Tables}
use Rattle.calls.specs.{Replay.{link_line}, CallContracts.{LinkContract}, declared.Reply.{Reply}}
use Rattle.script.specs.{Lines.{line_of}, declared.lines.Line.{Line}, declared.lines.Line.TheVariants.{Radios, Up, Down, Bad}}
use Rattle.text.specs.Print.{Buffer, Puts, put}
use Rattle.player.specs.Lines.{is_call, Called, Played, Prints}

-- a call's reply is what its line says; y is the step as the code hands it on
pub called_prints : (up : Bool) (n a b : ℕ) (reply : Reply) {y : ℤ} {t v : Tables} {w x : List ℕ} {d e : Buffer}
    → LinkContract up n a b t w reply v x → y ≡ reply.step
    → Puts d (link_line reply.number y (take reply.count x)) e → Prints (λ text. Called up n a b t w text v x) d e
called_prints up n a b reply {y} {x = x} called same p =
    record {
      text = link_line reply.number y (take reply.count x);
      holds = record { reply = reply; does = called; says = ap (λ (z : ℤ). link_line reply.number z (take reply.count x)) same };
      puts = p;
    }

-- ---- what the parser answers, l, is the line's meaning, and is found to be m

pub line_calls : (s : List ℕ) {l m : Line} → l ≡ line_of s → l ≡ m → is_call m ≡ is_call (line_of s)
line_calls s e f = ap is_call (sym f ∙ e)

pub up_played : (n : ℕ) (s : List ℕ) {l : Line} {a b : ℕ} {t v : Tables} {w x : List ℕ} {d e : Buffer} → l ≡ line_of s → l ≡ Up a b
    → Prints (λ text. Called true n a b t w text v x) d e → Prints (λ text. Played n (line_of s) t w text v x) d e
unfolding Played
up_played n s {l} {a} {b} {t} {v} {w} {x} {d} {e} p q h =
    subst (λ (k : Line). Prints (λ text. Played n k t w text v x) d e) (sym q ∙ p) h

pub down_played : (n : ℕ) (s : List ℕ) {l : Line} {a b : ℕ} {t v : Tables} {w x : List ℕ} {d e : Buffer} → l ≡ line_of s → l ≡ Down a b
    → Prints (λ text. Called false n a b t w text v x) d e → Prints (λ text. Played n (line_of s) t w text v x) d e
unfolding Played
down_played n s {l} {a} {b} {t} {v} {w} {x} {d} {e} p q h =
    subst (λ (k : Line). Prints (λ text. Played n k t w text v x) d e) (sym q ∙ p) h

-- a line that is no call
none_done : (n : ℕ) (m : Line) (t : Tables) (w : List ℕ) (d : Buffer) → is_call m ≡ false → Prints (λ text. Played n m t w text t w) d d
unfolding Played is_call put
none_done n (Radios k) t w d h =
    record { text = []; holds = record { says = refl; tables = refl; answer = refl }; puts = record { is = refl } }
none_done n (Up a b) t w d h = absurd (true≢false h)
none_done n (Down a b) t w d h = absurd (true≢false h)
none_done n Bad t w d h =
    record { text = []; holds = record { says = refl; tables = refl; answer = refl }; puts = record { is = refl } }

pub none_played : (n : ℕ) (s : List ℕ) {l m : Line} (t : Tables) (w : List ℕ) (d : Buffer) → l ≡ line_of s → l ≡ m → is_call m ≡ false
    → Prints (λ text. Played n (line_of s) t w text t w) d d
none_played n s t w d p q h = none_done n (line_of s) t w d (sym (line_calls s p q) ∙ h)
