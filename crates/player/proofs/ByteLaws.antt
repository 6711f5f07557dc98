-- What the code does with a byte is what the machine does: a law for each way through `machine::take_byte`. In all of them s and
-- r are the progress before and after, t and w the tables and the answer table before, and line what the line's room holds.
use Rattle.std.specs.Prelude.{◌≡◌, ◌∷◌, ◌++◌, ◌+◌, ◌≤◌, ◌<◌}
use Rattle.lists.specs.Kit.{refl, sym, ap, subst, ◌∙◌, Bool, true, false, true≢false, List, [], ℕ, arith, add-one, length, take}
use Rattle.lists.specs.Kit.{set, length-take, take-suc-set}
use Rattle.mesh.specs.Tables.{Tables}
use Rattle.text.specs.{Text.{line_feed}, Print.{Buffer, buffer_at, put, Puts}}
use Rattle.calls.specs.Replay.{bad_line}
use Rattle.script.specs.{Lines.{line_of}, declared.lines.Line.{Line}, declared.lines.Line.TheVariants.{Radios, Up, Down, Bad}}
use Rattle.player.specs.{Lines.{is_call, PassedOver, Played, Prints}, Machine.{Spot, spot, StopPut, Stopped, LineTaken, LineEnds, Takes}}
use Rattle.player.specs.{declared.machine.Progress.{Progress}}
use Rattle.player.proofs.MachineLaws.{takes_long, takes_held, takes_line, takes_none}

-- ---- the line's bytes

length_held : (line : List ℕ) (k : ℕ) → k ≤ length line → length (take k line) ≡ k
length_held line k h = length-take k line ∙ omega arith

-- the byte is written after the ones held
held_more : (line : List ℕ) (k b : ℕ) → k < length line → take (k + 1) (set line k b) ≡ take k line ++ (b ∷ [])
held_more line k b h = ap (λ (j : ℕ). take j (set line k b)) (add-one k) ∙ take-suc-set line k b h

-- ---- the five ways

-- after the end of the run
pub byte_over : (n b : ℕ) (s : Progress) (t : Tables) (w line : List ℕ) {out : List ℕ} → s.live ≡ false
    → Prints (λ text. Takes (length line) n b (spot t w line s) text (spot t w line s)) (buffer_at out s.at) (buffer_at out s.at)
unfolding spot put
byte_over n b s t w line l =
    record {
      text = [];
      holds = takes_none (length line) n b (spot t w line s) [] (spot t w line s) l (record { says = refl; same = refl });
      puts = record { is = refl };
    }

pub byte_long : (n b : ℕ) (s r : Progress) (t : Tables) (w line : List ℕ) {out after : List ℕ} → s.live ≡ true → length line ≤ s.held
    → StopPut s out r after
    → Prints (λ text. Takes (length line) n b (spot t w line s) text (spot t w line r)) (buffer_at out s.at) (buffer_at after r.at)
unfolding spot
byte_long n b s r t w line l h stop =
    record {
      text = bad_line s.number;
      holds = takes_long (length line) n b (spot t w line s) (bad_line s.number) (spot t w line r) l (omega (arith, length-take s.held line))
          (record { says = refl; tables = refl; answer = refl; number = stop.number; held = ap (λ (k : ℕ). take k line) stop.held; live = stop.live });
      puts = stop.puts;
    }

pub byte_held : (n b : ℕ) (s r : Progress) (t : Tables) (w line : List ℕ) {out : List ℕ} → s.live ≡ true → s.held < length line
    → (b ≡ line_feed → ⊥) → r.number ≡ s.number → r.held ≡ s.held + 1 → r.at ≡ s.at → r.live ≡ true
    → Prints (λ text. Takes (length line) n b (spot t w line s) text (spot t w (set line s.held b) r)) (buffer_at out s.at) (buffer_at out r.at)
unfolding spot put
byte_held n b s r t w line {out} l h f number held at live =
    record {
      text = [];
      holds = takes_held (length line) n b (spot t w line s) [] (spot t w (set line s.held b) r) l
          (omega (arith, length_held line s.held (omega arith))) f
          (record {
            says = refl;
            tables = refl;
            answer = refl;
            number = number;
            held = ap (λ (k : ℕ). take k (set line s.held b)) held ∙ held_more line s.held b h;
            live = live;
          });
      puts = record { is = ap (λ (k : ℕ). buffer_at out k) at };
    }

-- the line that the code plays
whole_line : (line : List ℕ) (k b : ℕ) → k < length line → b ≡ line_feed → take (k + 1) (set line k b) ≡ take k line ++ (line_feed ∷ [])
whole_line line k b h f = held_more line k b h ∙ ap (λ (x : ℕ). take k line ++ (x ∷ [])) f

pub byte_call : (n b : ℕ) (s r : Progress) (t v : Tables) (w x line : List ℕ) {out after : List ℕ} → s.live ≡ true → s.held < length line
    → b ≡ line_feed → is_call (line_of (take (s.held + 1) (set line s.held b))) ≡ true
    → Prints (λ text. Played n (line_of (take (s.held + 1) (set line s.held b))) t w text v x) (buffer_at out s.at) (buffer_at after r.at)
    → r.number ≡ s.number + 1 → r.held ≡ 0 → r.live ≡ true
    → Prints (λ text. Takes (length line) n b (spot t w line s) text (spot v x (set line s.held b) r)) (buffer_at out s.at) (buffer_at after r.at)
unfolding spot LineEnds
byte_call n b s r t v w x line l h f call played number held live =
    let same = whole_line line s.held b h f in
    let is_one : is_call (line_of (take s.held line ++ (line_feed ∷ []))) ≡ true = ap (λ (k : List ℕ). is_call (line_of k)) (sym same) ∙ call in
    let taken : LineTaken n (take s.held line ++ (line_feed ∷ [])) (spot t w line s) played.text (spot v x (set line s.held b) r) =
    record {
      played = subst (λ (k : List ℕ). Played n (line_of k) t w played.text v x) same played.holds;
      number = number;
      held = ap (λ (k : ℕ). take k (set line s.held b)) held;
      live = live;
    } in
    record {
      text = played.text;
      holds = takes_line (length line) n b (spot t w line s) played.text (spot v x (set line s.held b) r) l
          (omega (arith, length_held line s.held (omega arith))) f (by_call is_one taken);
      puts = played.puts;
    }
  where
    by_call : {c : Bool} {k : List ℕ} {p q : Spot} {text : List ℕ} → c ≡ true → LineTaken n k p text q → LineEnds c n k p text q
    by_call e h = rw e h

-- a line that is no call leaves everything as it was
none_passed : (n : ℕ) (m : Line) {t v : Tables} {w x text : List ℕ} → is_call m ≡ false → Played n m t w text v x → PassedOver t w text v x
unfolding Played is_call
none_passed n (Radios k) h p = p
none_passed n (Up a b) h p = absurd (true≢false h)
none_passed n (Down a b) h p = absurd (true≢false h)
none_passed n Bad h p = p

-- nothing is put: the buffer is the same
same_bytes : {out mid : List ℕ} {k at : ℕ} (text : List ℕ) → text ≡ [] → Puts (buffer_at out k) text (buffer_at mid at) → out ≡ mid
unfolding put
same_bytes {out} {mid} {k} {at} text e p =
    sym (ap (λ (b : Buffer). b.bytes) (p.is ∙ ap (put (buffer_at out k)) e))

pub byte_bad : (n b : ℕ) (s r : Progress) (t v : Tables) (w x line : List ℕ) {out mid after : List ℕ} {at : ℕ} → s.live ≡ true
    → s.held < length line → b ≡ line_feed → is_call (line_of (take (s.held + 1) (set line s.held b))) ≡ false
    → Prints (λ text. Played n (line_of (take (s.held + 1) (set line s.held b))) t w text v x) (buffer_at out s.at) (buffer_at mid at)
    → StopPut s mid r after
    → Prints (λ text. Takes (length line) n b (spot t w line s) text (spot v x (set line s.held b) r)) (buffer_at out s.at) (buffer_at after r.at)
unfolding spot LineEnds
byte_bad n b s r t v w x line {out} {mid} {after} l h f call played stop =
    let same = whole_line line s.held b h f in
    let is_none : is_call (line_of (take s.held line ++ (line_feed ∷ []))) ≡ false = ap (λ (k : List ℕ). is_call (line_of k)) (sym same) ∙ call in
    let passed = none_passed n (line_of (take (s.held + 1) (set line s.held b))) call played.holds in
    let stops : Stopped (spot t w line s) (bad_line s.number) (spot v x (set line s.held b) r) =
    record {
      says = refl;
      tables = passed.tables;
      answer = passed.answer;
      number = stop.number;
      held = ap (λ (k : ℕ). take k (set line s.held b)) stop.held;
      live = stop.live;
    } in
    record {
      text = bad_line s.number;
      holds = takes_line (length line) n b (spot t w line s) (bad_line s.number) (spot v x (set line s.held b) r) l
          (omega (arith, length_held line s.held (omega arith))) f (by_none _ is_none stops);
      puts = subst (λ (k : List ℕ). Puts (buffer_at k s.at) (bad_line s.number) (buffer_at after r.at))
          (sym (same_bytes played.text passed.says played.puts)) stop.puts;
    }
  where
    by_none : {c : Bool} (k : List ℕ) {p q : Spot} {text : List ℕ} → c ≡ false → Stopped p text q → LineEnds c n k p text q
    by_none k e h = rw e h
