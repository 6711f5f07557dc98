-- Bytes taken one by one print what the lines of the input say.
--   bytes_print    from any spot of a run that goes on
--   run_prints     a whole run: what `RunPrints` says of the input
--   run_bad        the run of an input whose first line names no site
use Rattle.std.specs.Prelude.{◌≡◌, ◌∷◌, ◌++◌, ◌+◌, ◌≤◌, ◌<◌}
use Rattle.lists.{specs.Kit.{refl, sym, ap, subst, ◌∙◌, Bool, true, false, List, [], append_assoc, append-nil, ℕ, zero, suc}}
use Rattle.lists.{specs.Kit.{arith, leb, eqb, length, length-append, leb-true, eqb-true, eqb-false}, proofs.Tests.{cond_false, cond_true}}
use Rattle.mesh.specs.Tables.{Tables}
use Rattle.text.specs.Text.{line_feed}
use Rattle.calls.specs.Replay.{bad_line}
use Rattle.script.specs.Lines.{line_of}
use Rattle.player.specs.{Lines.{is_call}, Play.{radios_of, lines_of, front, rest}, Machine.{Spot, Stopped, HeldOn, LineEnds, Ignored, Step, line_room}}
use Rattle.player.specs.{Machine.{Takes, TakesAll, closing, ending}, Whole.{LineThen, LineBy, LinesPrint, start, RunFrom, RunPrints}}
use Rattle.player.proofs.{MachineLaws.{step_as}, SplitLaws.{NoFeed, no_feed_more, lines_before, lines_last, first_line, lines_ended, unended_no_call}}
use Rattle.player.proofs.{SplitLaws.{long_no_call}}

-- ---- after the end of the run

ignored_more : (p s q : Spot) (first more text : List ℕ) → Ignored p first s → text ≡ first ++ more → Ignored s more q → Ignored p text q
ignored_more p s q first more text none whole later =
    record { says = whole ∙ ap (λ (x : List ℕ). x ++ more) none.says ∙ later.says; same = later.same ∙ none.same }

takes_dead : (m n : ℕ) (bs : List ℕ) (p q : Spot) (text : List ℕ) → p.live ≡ false → TakesAll m n bs p text q → Ignored p text q
unfolding TakesAll Takes Step
takes_dead m n [] p q text l h = h
takes_dead m n (b ∷ bs) p q text l h =
    let none : Ignored p h.first h.middle = step_as n b p h.first h.middle (sym l) refl refl h.takes in
    let dead : h.middle.live ≡ false = ap (λ (s : Spot). s.live) none.same ∙ l in
    ignored_more p h.middle q h.first h.more text none h.whole (takes_dead m n bs h.middle q h.more dead h.rest)

pub ending_dead : (p : Spot) → p.live ≡ false → ending p ≡ []
unfolding ending
ending_dead p l = cond_false p.live (closing p.held p.tables.numbers p.tables.order p.number) [] l

pub ending_live : (p : Spot) → p.live ≡ true → ending p ≡ closing p.held p.tables.numbers p.tables.order p.number
unfolding ending
ending_live p l = cond_true p.live (closing p.held p.tables.numbers p.tables.order p.number) [] l

-- what is printed once the run has stopped
stopped_whole : (n : ℕ) (bs : List ℕ) (p s q : Spot) (first more text : List ℕ) → Stopped p first s → TakesAll line_room n bs s more q
    → text ≡ first ++ more → text ++ ending q ≡ bad_line p.number
stopped_whole n bs p s q first more text stop after whole =
    let none = takes_dead line_room n bs s q more stop.live after in
    let over : ending q ≡ [] = ending_dead q (ap (λ (r : Spot). r.live) none.same ∙ stop.live) in
    ap (λ (x : List ℕ). text ++ x) over
    ∙ append-nil text
    ∙ whole
    ∙ ap (λ (x : List ℕ). first ++ x) none.says
    ∙ append-nil first
    ∙ stop.says

-- ---- a line, by whether it is a call

line_bad : {c : Bool} (n : ℕ) (l : List ℕ) (k : ℕ) (t : Tables) (w text : List ℕ) (R : Tables → List ℕ → List ℕ → Type 0)
    → c ≡ false → text ≡ bad_line k → LineBy c n l k t w text R
unfolding LineBy
line_bad n l k t w text R e h = rw e h

line_good : {c : Bool} (n : ℕ) (l : List ℕ) (k : ℕ) (t : Tables) (w text : List ℕ) (R : Tables → List ℕ → List ℕ → Type 0)
    → c ≡ true → LineThen n l t w text R → LineBy c n l k t w text R
unfolding LineBy
line_good n l k t w text R e h = rw e h

-- a first line that is no call
first_bad : (n : ℕ) (input l : List ℕ) (ls : List (List ℕ)) (k : ℕ) (t : Tables) (w text : List ℕ) → lines_of input ≡ l ∷ ls
    → is_call (line_of l) ≡ false → text ≡ bad_line k → LinesPrint n (lines_of input) k t w text
unfolding LinesPrint
first_bad n input l ls k t w text e c h =
    subst (λ (x : List (List ℕ)). LinesPrint n x k t w text) (sym e)
    (line_bad n l k t w text (λ v x more. LinesPrint n ls (k + 1) v x more) c h)

-- ---- the end of the input

print_end : (n : ℕ) (h : List ℕ) (k : ℕ) (t : Tables) (w : List ℕ) → NoFeed h
    → LinesPrint n (lines_of h) k t w (closing h t.numbers t.order k)
unfolding LinesPrint lines_of closing
print_end n [] k t w f = refl
print_end n (x ∷ xs) k t w f =
    first_bad n (x ∷ xs) (x ∷ xs) [] k t w (bad_line k) (lines_last x xs f) (unended_no_call (x ∷ xs) f) refl

-- ---- one byte, and then others

-- a spot s from which bs print `more`, the ending included
abbrev PrintsFrom : (n : ℕ) → (bs : List ℕ) → (s q : Spot) → (more : List ℕ) → Type 0
PrintsFrom n bs s q more = LinesPrint n (lines_of (s.held ++ bs)) s.number s.tables s.answer (more ++ ending q)

-- a line without room
print_long : (n b : ℕ) (bs : List ℕ) (p s q : Spot) (first more text : List ℕ) → NoFeed p.held → line_room ≤ length p.held
    → Stopped p first s → TakesAll line_room n bs s more q → text ≡ first ++ more → PrintsFrom n (b ∷ bs) p q text
print_long n b bs p s q first more text f r stop after whole =
    let l = first_line b bs in
    first_bad n (p.held ++ (b ∷ bs)) (p.held ++ (b ∷ l.line)) l.later p.number p.tables p.answer (text ++ ending q)
    (lines_before p.held (b ∷ bs) (b ∷ l.line) l.later f l.is)
    (long_no_call (p.held ++ (b ∷ l.line)) (omega (arith, length-append p.held (b ∷ l.line))))
    (stopped_whole n bs p s q first more text stop after whole)

-- a byte in the middle of a line
print_held : (n b : ℕ) (bs : List ℕ) (p s q : Spot) (first more text : List ℕ) → HeldOn b p first s → text ≡ first ++ more
    → PrintsFrom n bs s q more → PrintsFrom n (b ∷ bs) p q text
print_held n b bs p s q first more text held whole later =
    let same : more ++ ending q ≡ text ++ ending q
    = ap (λ (x : List ℕ). x ++ ending q) (sym (whole ∙ ap (λ (x : List ℕ). x ++ more) held.says)) in
    let bytes : s.held ++ bs ≡ p.held ++ (b ∷ bs) = ap (λ (x : List ℕ). x ++ bs) held.held ∙ append_assoc p.held (b ∷ []) bs in
    subst (λ (x : List ℕ). LinesPrint n (lines_of (p.held ++ (b ∷ bs))) p.number p.tables p.answer x) same
    (subst (λ (x : List ℕ). LinesPrint n (lines_of x) p.number p.tables p.answer (more ++ ending q)) bytes
    (subst (λ (x : List ℕ). LinesPrint n (lines_of (s.held ++ bs)) p.number p.tables x (more ++ ending q)) held.answer
    (subst (λ (x : Tables). LinesPrint n (lines_of (s.held ++ bs)) p.number x s.answer (more ++ ending q)) held.tables
    (subst (λ (x : ℕ). LinesPrint n (lines_of (s.held ++ bs)) x s.tables s.answer (more ++ ending q)) held.number later))))

-- a whole line, c: whether it is a call
print_line : (n b : ℕ) (bs : List ℕ) (p s q : Spot) (first more text : List ℕ) (c : Bool) → NoFeed p.held → b ≡ line_feed
    → is_call (line_of (p.held ++ (line_feed ∷ []))) ≡ c → LineEnds c n (p.held ++ (line_feed ∷ [])) p first s
    → TakesAll line_room n bs s more q → text ≡ first ++ more → (s.live ≡ true → NoFeed s.held → PrintsFrom n bs s q more)
    → PrintsFrom n (b ∷ bs) p q text
unfolding LineEnds LinesPrint
print_line n b bs p s q first more text false f e c stop after whole later =
    first_bad n (p.held ++ (b ∷ bs)) (p.held ++ (line_feed ∷ [])) (lines_of bs) p.number p.tables p.answer (text ++ ending q)
    (lines_ended p.held b bs f e) c (stopped_whole n bs p s q first more text stop after whole)
print_line n b bs p s q first more text true f e c taken after whole later =
    let empty : NoFeed s.held = subst NoFeed (sym taken.held) tt in
    let others : LinesPrint n (lines_of bs) (p.number + 1) s.tables s.answer (more ++ ending q)
    = subst (λ (x : ℕ). LinesPrint n (lines_of bs) x s.tables s.answer (more ++ ending q)) taken.number
    (subst (λ (x : List ℕ). LinesPrint n (lines_of (x ++ bs)) s.number s.tables s.answer (more ++ ending q)) taken.held
    (later taken.live empty)) in
    subst (λ (x : List (List ℕ)). LinesPrint n x p.number p.tables p.answer (text ++ ending q)) (sym (lines_ended p.held b bs f e))
    (line_good n (p.held ++ (line_feed ∷ [])) p.number p.tables p.answer (text ++ ending q)
    (λ v x m. LinesPrint n (lines_of bs) (p.number + 1) v x m) c
    (record {
      after = s.tables;
      answer = s.answer;
      first = first;
      more = more ++ ending q;
      played = taken.played;
      later = others;
      whole = ap (λ (x : List ℕ). x ++ ending q) whole ∙ append_assoc first more (ending q);
    }))

-- by the tests of the step
print_by : (n b : ℕ) (bs : List ℕ) (p s q : Spot) (first more text : List ℕ) (full feed : Bool) → leb line_room (length p.held) ≡ full
    → eqb b line_feed ≡ feed → NoFeed p.held → Step true full feed n b p first s → TakesAll line_room n bs s more q
    → text ≡ first ++ more → (s.live ≡ true → NoFeed s.held → PrintsFrom n bs s q more) → PrintsFrom n (b ∷ bs) p q text
unfolding Step
print_by n b bs p s q first more text true feed r e f step after whole later =
    print_long n b bs p s q first more text f (leb-true line_room (length p.held) r) step after whole
print_by n b bs p s q first more text false false r e f step after whole later =
    let free : NoFeed s.held = subst NoFeed (sym step.held) (no_feed_more p.held b f (eqb-false b line_feed e)) in
    print_held n b bs p s q first more text step whole (later step.live free)
print_by n b bs p s q first more text false true r e f step after whole later =
    print_line n b bs p s q first more text (is_call (line_of (p.held ++ (line_feed ∷ [])))) f (eqb-true b line_feed e) refl step after whole later

-- ---- bytes

pub bytes_print : (n : ℕ) (bs : List ℕ) (p q : Spot) (text : List ℕ) → p.live ≡ true → NoFeed p.held → TakesAll line_room n bs p text q
    → LinesPrint n (lines_of (p.held ++ bs)) p.number p.tables p.answer (text ++ ending q)
unfolding TakesAll Takes
bytes_print n [] p q text l f h =
    let whole : closing p.held p.tables.numbers p.tables.order p.number ≡ text ++ ending q
    = sym (ending_live p l) ∙ ap ending (sym h.same) ∙ ap (λ (x : List ℕ). x ++ ending q) (sym h.says) in
    subst (λ (x : List ℕ). LinesPrint n (lines_of x) p.number p.tables p.answer (text ++ ending q)) (sym (append-nil p.held))
    (subst (λ (x : List ℕ). LinesPrint n (lines_of p.held) p.number p.tables p.answer x) whole
    (print_end n p.held p.number p.tables p.answer f))
bytes_print n (b ∷ bs) p q text l f h =
    print_by n b bs p h.middle q h.first h.more text (leb line_room (length p.held)) (eqb b line_feed) refl refl f
    (step_as n b p h.first h.middle (sym l) refl refl h.takes) h.rest h.whole
    (λ live free. bytes_print n bs h.middle q h.more live free h.rest)

-- ---- a whole run

run_from : (n : ℕ) (bs : List ℕ) (q : Spot) (text : List ℕ) → 0 < n → TakesAll line_room n bs (start n) text q → RunFrom n bs (text ++ ending q)
unfolding RunFrom start
run_from zero bs q text h all = absurd (omega arith)
run_from (suc n) bs q text h all = bytes_print (suc n) bs (start (suc n)) q text refl tt all

-- the first line names a site, and the bytes after it are taken to the end of the input
pub run_prints : (input : List ℕ) (q : Spot) (text : List ℕ) → 0 < radios_of (front input)
    → TakesAll line_room (radios_of (front input)) (rest input) (start (radios_of (front input))) text q → RunPrints input (text ++ ending q)
unfolding RunPrints
run_prints input q text h all = run_from (radios_of (front input)) (rest input) q text h all

-- the first line names no site
pub run_bad : (input : List ℕ) → radios_of (front input) ≡ 0 → RunPrints input (bad_line 1)
unfolding RunPrints RunFrom
run_bad input e = subst (λ (n : ℕ). RunFrom n (rest input) (bad_line 1)) (sym e) refl
