-- Lines of the input, and which of them can be link calls.
use Rattle.std.specs.Prelude.{◌≡◌, ◌⊎◌, ◌∷◌, ◌++◌, ◌^◌, ◌≤◌, ◌<◌}
use Rattle.lists.{specs.Kit.{refl, sym, ap, subst, ◌∙◌, inl, inr, true, false, true≢false, List, [], ℕ, arith, eqb, length}}
use Rattle.lists.{specs.Kit.{eq-eqb, ne_eqb, eqb-true, eqb-false}, proofs.Tests.{bool_cases}, specs.Lists.{In}, proofs.Member.{in_right}}
use Rattle.text.specs.Text.{bytes_of, line_feed, decimal, further_fields, printed_line}
use Rattle.script.{specs.Lines.{line_of, max_value}, specs.Texts.{text_of, Values}, specs.declared.lines.Line.{Line}}
use Rattle.script.{specs.declared.lines.Line.TheVariants.{Radios, Up, Down, Bad}, proofs.LengthLaws.{length_line_le}, proofs.Texts.{text_parse}}
use Rattle.player.specs.{Lines.{is_call}, Machine.{line_room}, Play.{glue, lines_of}}

-- ---- splitting

-- no byte is a line feed
abbrev pub NoFeed : List ℕ → Type 0
NoFeed [] = Unit {0}
NoFeed (x ∷ xs) = (x ≡ line_feed → ⊥) × NoFeed xs

pub no_feed_more : (xs : List ℕ) (b : ℕ) → NoFeed xs → (b ≡ line_feed → ⊥) → NoFeed (xs ++ (b ∷ []))
no_feed_more [] b h f = (f, tt)
no_feed_more (x ∷ xs) b h f = (h.0, no_feed_more xs b h.1 f)

lines_of_feed : (b : ℕ) (bs : List ℕ) → b ≡ line_feed → lines_of (b ∷ bs) ≡ (b ∷ []) ∷ lines_of bs
unfolding lines_of
lines_of_feed b bs e = rw (eq-eqb b line_feed e)

lines_of_other : (b : ℕ) (bs : List ℕ) → (b ≡ line_feed → ⊥) → lines_of (b ∷ bs) ≡ glue b (lines_of bs)
unfolding lines_of
lines_of_other b bs h = rw (ne_eqb b line_feed h)

-- bytes before a first line that is there
pub lines_before : (h bs l : List ℕ) (ls : List (List ℕ)) → NoFeed h → lines_of bs ≡ l ∷ ls → lines_of (h ++ bs) ≡ (h ++ l) ∷ ls
unfolding glue
lines_before [] bs l ls f e = e
lines_before (x ∷ xs) bs l ls f e = lines_of_other x (xs ++ bs) f.0 ∙ ap (glue x) (lines_before xs bs l ls f.1 e)

-- bytes without a line feed are one line
pub lines_last : (x : ℕ) (xs : List ℕ) → NoFeed (x ∷ xs) → lines_of (x ∷ xs) ≡ (x ∷ xs) ∷ []
unfolding glue lines_of
lines_last x [] f = lines_of_other x [] f.0
lines_last x (y ∷ ys) f = lines_of_other x (y ∷ ys) f.0 ∙ ap (glue x) (lines_last y ys f.1)

-- the first line has the first byte
pub record FirstLine (b : ℕ) (bs : List ℕ) : Type 0 where
  pub line : List ℕ
  pub later : List (List ℕ)
  pub is : lines_of (b ∷ bs) ≡ (b ∷ line) ∷ later

glued : (b : ℕ) (bs : List ℕ) (ls : List (List ℕ)) → lines_of (b ∷ bs) ≡ glue b ls → FirstLine b bs
unfolding glue
glued b bs [] e = record { line = []; later = []; is = e }
glued b bs (l ∷ ls) e = record { line = l; later = ls; is = e }

pub first_line : (b : ℕ) (bs : List ℕ) → FirstLine b bs
first_line b bs = go (bool_cases (eqb b line_feed))
  where
    go : (eqb b line_feed ≡ true) ⊎ (eqb b line_feed ≡ false) → FirstLine b bs
    go (inl e) = record { line = []; later = lines_of bs; is = lines_of_feed b bs (eqb-true b line_feed e) }
    go (inr e) = glued b bs (lines_of bs) (lines_of_other b bs (eqb-false b line_feed e))

-- the bytes held and a line feed are the first line
pub lines_ended : (h : List ℕ) (b : ℕ) (bs : List ℕ) → NoFeed h → b ≡ line_feed → lines_of (h ++ (b ∷ bs)) ≡ (h ++ (line_feed ∷ [])) ∷ lines_of bs
lines_ended h b bs f e =
    lines_before h (b ∷ bs) (b ∷ []) (lines_of bs) f (lines_of_feed b bs e) ∙ ap (λ (x : ℕ). (h ++ (x ∷ [])) ∷ lines_of bs) e

-- ---- which lines are calls

-- every printed line has a line feed
feed_in_fields : (fs : List (List ℕ)) → In line_feed (further_fields fs)
unfolding further_fields
feed_in_fields [] = inl refl
feed_in_fields (f ∷ fs) = inr (in_right line_feed f (further_fields fs) (feed_in_fields fs))

feed_in_text : (l : Line) → Values l → In line_feed (text_of l)
unfolding text_of printed_line Values
feed_in_text (Radios n) v = in_right line_feed (bytes_of "radios") (further_fields (decimal n ∷ [])) (feed_in_fields (decimal n ∷ []))
feed_in_text (Up a b) v = in_right line_feed (bytes_of "up") (further_fields (decimal a ∷ decimal b ∷ [])) (feed_in_fields (decimal a ∷ decimal b ∷ []))
feed_in_text (Down a b) v = in_right line_feed (bytes_of "down") (further_fields (decimal a ∷ decimal b ∷ [])) (feed_in_fields (decimal a ∷ decimal b ∷ []))
feed_in_text Bad v = absurd v

no_feed_in : (xs : List ℕ) → NoFeed xs → In line_feed xs → ⊥
no_feed_in [] f h = h
no_feed_in (x ∷ xs) f (inl e) = f.0 e
no_feed_in (x ∷ xs) f (inr h) = no_feed_in xs f.1 h

-- a call is no Bad line, and has a text
call_text : (s : List ℕ) (l : Line) → line_of s ≡ l → is_call l ≡ true → Values l × (s ≡ text_of l)
unfolding is_call
call_text s (Radios n) e c = absurd (true≢false (sym c))
call_text s (Up a b) e c = text_parse s (Up a b) e (λ f. true≢false (ap is_call f))
call_text s (Down a b) e c = text_parse s (Down a b) e (λ f. true≢false (ap is_call f))
call_text s Bad e c = absurd (true≢false (sym c))

by_call : (l : Line) → (is_call l ≡ true → ⊥) → is_call l ≡ false
by_call l h = go (bool_cases (is_call l))
  where
    go : (is_call l ≡ true) ⊎ (is_call l ≡ false) → is_call l ≡ false
    go (inl e) = absurd (h e)
    go (inr e) = e

-- a line without a line feed is no call
pub unended_no_call : (s : List ℕ) → NoFeed s → is_call (line_of s) ≡ false
unended_no_call s f = by_call (line_of s) (λ c. go (call_text s (line_of s) refl c))
  where
    go : Values (line_of s) × (s ≡ text_of (line_of s)) → ⊥
    go r = no_feed_in s f (subst (In line_feed) (sym r.1) (feed_in_text (line_of s) r.0))

both_below : (a b x : ℕ) → a ≤ max_value → b ≤ max_value → In x (a ∷ b ∷ []) → x < 10 ^ 5
both_below a b x h k (inl e) = omega (arith, e)
both_below a b x h k (inr (inl e)) = omega (arith, e)
both_below a b x h k (inr (inr e)) = absurd e

length_call_text : (l : Line) → is_call l ≡ true → Values l → length (text_of l) ≤ line_room
unfolding text_of is_call Values
length_call_text (Radios n) c v = absurd (true≢false (sym c))
length_call_text (Up a b) c v = omega (arith, length_line_le (bytes_of "up") 4 (a ∷ b ∷ []) (λ x m. both_below a b x v.0 v.1 m))
length_call_text (Down a b) c v = omega (arith, length_line_le (bytes_of "down") 4 (a ∷ b ∷ []) (λ x m. both_below a b x v.0 v.1 m))
length_call_text Bad c v = absurd v

-- a line longer than its room is no call
pub long_no_call : (s : List ℕ) → line_room < length s → is_call (line_of s) ≡ false
long_no_call s h = by_call (line_of s) (λ c. go c (call_text s (line_of s) refl c))
  where
    go : is_call (line_of s) ≡ true → Values (line_of s) × (s ≡ text_of (line_of s)) → ⊥
    go c r = omega (arith, length_call_text (line_of s) c r.0, ap length r.1, h)
