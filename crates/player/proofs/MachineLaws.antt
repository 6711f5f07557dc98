-- Laws of the machine that takes bytes: each thing that a byte can do, from what the code has tested; bytes in turn; the end.
use Rattle.std.specs.Prelude.{◌≡◌, ◌∷◌, ◌++◌, ◌≤◌, ◌<◌}
use Rattle.lists.specs.Kit.{refl, ◌∙◌, Bool, true, false, List, [], ℕ, zero, suc, min, arith, leb, eqb, length, take, length-take}
use Rattle.lists.specs.Kit.{le-leb, lt-leb, eq-eqb, ne_eqb}
use Rattle.text.{specs.Text.{line_feed}, specs.Print.{Buffer, Puts}, proofs.PrintLaws.{puts_as, puts_append}}
use Rattle.calls.specs.Replay.{bad_line, numbers_line, order_line, closing_lines}
use Rattle.script.specs.Lines.{line_of}
use Rattle.player.specs.{Lines.{is_call}, Machine.{Spot, Stopped, HeldOn, LineEnds, Ignored, Step, Takes, closing}}

-- ---- one byte

-- the three tests, as the code decides them
pub step_as : {l f e x y z : Bool} (n b : ℕ) (p : Spot) (text : List ℕ) (q : Spot) → l ≡ x → f ≡ y → e ≡ z → Step x y z n b p text q
    → Step l f e n b p text q
step_as n b p text q live full feed s = rw (live, full, feed) s

pub takes_long : (m n b : ℕ) (p : Spot) (text : List ℕ) (q : Spot) → p.live ≡ true → m ≤ length p.held → Stopped p text q
    → Takes m n b p text q
unfolding Takes Step
takes_long m n b p text q l h s =
    step_as {y = true} {z = eqb b line_feed} n b p text q l (le-leb m (length p.held) h) refl s

pub takes_held : (m n b : ℕ) (p : Spot) (text : List ℕ) (q : Spot) → p.live ≡ true → length p.held < m → (b ≡ line_feed → ⊥)
    → HeldOn b p text q → Takes m n b p text q
unfolding Takes Step
takes_held m n b p text q l h f s =
    step_as n b p text q l (lt-leb m (length p.held) h) (ne_eqb b line_feed f) s

pub takes_line : (m n b : ℕ) (p : Spot) (text : List ℕ) (q : Spot) → p.live ≡ true → length p.held < m → b ≡ line_feed
    → LineEnds (is_call (line_of (p.held ++ (line_feed ∷ [])))) n (p.held ++ (line_feed ∷ [])) p text q → Takes m n b p text q
unfolding Takes Step
takes_line m n b p text q l h f s =
    step_as n b p text q l (lt-leb m (length p.held) h) (eq-eqb b line_feed f) s

-- after the end of the run
pub takes_none : (m n b : ℕ) (p : Spot) (text : List ℕ) (q : Spot) → p.live ≡ false → Ignored p text q → Takes m n b p text q
unfolding Takes Step
takes_none m n b p text q l s =
    step_as {y = leb m (length p.held)} {z = eqb b line_feed} n b p text q l refl refl s

-- ---- the end of the input

closing_open : (h ns xs : List ℕ) (k : ℕ) → 0 < length h → bad_line k ≡ closing h ns xs k
unfolding closing
closing_open [] ns xs k l = absurd (omega arith)
closing_open (b ∷ bs) ns xs k l = refl

closing_none : (h ns xs : List ℕ) (k : ℕ) → length h ≡ 0 → closing_lines ns xs ≡ closing h ns xs k
unfolding closing
closing_none [] ns xs k l = refl
closing_none (b ∷ bs) ns xs k l = absurd (omega arith)

-- k of the line's bytes are held, as the code tells it
pub puts_open : (line ns xs : List ℕ) (number k : ℕ) {b c : Buffer} → (min k (length line) ≡ 0 → ⊥) → Puts b (bad_line number) c
    → Puts b (closing (take k line) ns xs number) c
puts_open line ns xs number k h p =
    puts_as (closing_open (take k line) ns xs number (omega (arith, length-take k line, positive (min k (length line)) h))) p
  where
    positive : (x : ℕ) → (x ≡ 0 → ⊥) → 0 < x
    positive zero f = absurd (f refl)
    positive (suc x) f = omega arith

pub puts_closing : (line ns xs : List ℕ) (number k : ℕ) {b c d : Buffer} → min k (length line) ≡ 0 → Puts b (numbers_line ns) c
    → Puts c (order_line xs) d → Puts b (closing (take k line) ns xs number) d
unfolding closing_lines
puts_closing line ns xs number k e p q =
    puts_as (closing_none (take k line) ns xs number (length-take k line ∙ e)) (puts_append p q)
