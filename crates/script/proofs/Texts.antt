-- The parser takes exactly the texts of the language: a line's text is read back as the line (`parse_text`), and a text that
-- is read as a line is that line's text, with numbers to 65,535 (`text_parse`).
use Rattle.std.specs.Prelude.{◌≡◌, ◌⊎◌, ◌∷◌, ◌++◌, ◌≤◌}
use Rattle.lists.{specs.Kit.{refl, sym, ap, ◌∙◌, subst, inl, inr, Bool, true, false, cond, List, [], ℕ, eqb, length, drop, eqb-true}}
use Rattle.lists.{proofs.Tests.{bool_cases, never, and_left, and_right}}
use Rattle.text.specs.Text.{bytes_of, space, line_feed, digit_byte, decimal, further_fields, printed_line}
use Rattle.script.specs.{declared.lines.Line.{Line}, declared.lines.Line.TheVariants.{Radios, Up, Down, Bad}, Texts.{text_of, Values}, Lines.{max_value}}
use Rattle.script.specs.{Lines.{Read, got, none, is_digit, number_of, last_number_of, starts, radios_line, link_with, link_after, link_from, line_of}}
use Rattle.script.proofs.NumberLaws.{number_of_decimal, last_number_of_decimal, number_of_text, last_number_of_text}

-- ---- a line's text is read back

pub link_of_text : (up : Bool) (a b : ℕ) → a ≤ max_value → b ≤ max_value
    → link_from up (decimal a ++ (space ∷ (decimal b ++ (line_feed ∷ [])))) ≡ cond up (Up a b) (Down a b)
unfolding link_from link_after link_with starts is_digit digit_byte
link_of_text up a b h k =
    rw (number_of_decimal a space (decimal b ++ (line_feed ∷ [])) h refl, last_number_of_decimal b k)

-- a line whose numbers are at most 65,535 is what its text says
pub parse_text : (l : Line) → Values l → line_of (text_of l) ≡ l
unfolding line_of text_of printed_line further_fields starts radios_line Values
parse_text (Radios n) v = rw (last_number_of_decimal n v)
parse_text (Up a b) v = link_of_text true a b v.0 v.1
parse_text (Down a b) v = link_of_text false a b v.0 v.1
parse_text Bad v = absurd v

-- ---- what is read as a line is its text

starts_text : (w s : List ℕ) → starts w s ≡ true → s ≡ w ++ drop (length w) s
unfolding starts
starts_text [] s h = refl
starts_text (x ∷ ws) [] h = never false h refl
starts_text (x ∷ ws) (b ∷ bs) h =
    rw (eqb-true x b (and_left (eqb x b) (starts ws bs) h), ← (starts_text ws bs (and_right (eqb x b) (starts ws bs) h)))

-- the text s says the line l, or l is Bad
abbrev Said : (s : List ℕ) → Line → Type 0
Said s l = (l ≡ Bad) ⊎ (Values l × (s ≡ text_of l))

-- the word of a link line
abbrev link_word : (up : Bool) → List ℕ
link_word up = cond up (bytes_of "up ") (bytes_of "down ")

said_both : (up : Bool) (a b : ℕ) → a ≤ max_value → b ≤ max_value
    → Said (link_word up ++ (decimal a ++ (space ∷ (decimal b ++ (line_feed ∷ []))))) (cond up (Up a b) (Down a b))
unfolding Values text_of printed_line further_fields
said_both true a b h k = inr ((h, k), refl)
said_both false a b h k = inr ((h, k), refl)

said_second : (up : Bool) (a : ℕ) (s : List ℕ) → a ≤ max_value → (r : Read) → last_number_of s ≡ r
    → Said (link_word up ++ (decimal a ++ (space ∷ s))) (link_with up a r)
unfolding link_with
said_second up a s h none e = inl refl
said_second up a s h (got b rest) e =
    let r = last_number_of_text s rest b e in rw r.text (said_both up a b h r.small)

said_first : (up : Bool) (s : List ℕ) → (r : Read) → number_of s ≡ r → Said (link_word up ++ s) (link_after up r)
unfolding link_after
said_first up s none e = inl refl
said_first up s (got a rest) e = go (bool_cases (starts (space ∷ []) rest))
  where
    go : (starts (space ∷ []) rest ≡ true) ⊎ (starts (space ∷ []) rest ≡ false) → Said (link_word up ++ s) (link_after up (got a rest))
    go (inr h) = inl (rw h)
    go (inl h) =
        let r = number_of_text s rest a e in
        rw (h, r.text ∙ ap (λ (t : List ℕ). decimal a ++ t) (starts_text (space ∷ []) rest h))
        (said_second up a (drop 1 rest) r.small (last_number_of (drop 1 rest)) refl)

said_radios : (s : List ℕ) (r : Read) → last_number_of s ≡ r → Said (bytes_of "radios " ++ s) (radios_line r)
unfolding radios_line Values text_of printed_line further_fields
said_radios s none e = inl refl
said_radios s (got n rest) e =
    let r = last_number_of_text s rest n e in inr (r.small, ap (λ (t : List ℕ). bytes_of "radios " ++ t) r.text)

-- one word tried
said_word : (w s : List ℕ) (l other : Line) → Said (w ++ drop (length w) s) l → Said s other → Said s (cond (starts w s) l other)
said_word w s l other p q = go (bool_cases (starts w s))
  where
    go : (starts w s ≡ true) ⊎ (starts w s ≡ false) → Said s (cond (starts w s) l other)
    go (inl h) = rw h (subst (λ (t : List ℕ). Said t l) (sym (starts_text w s h)) p)
    go (inr h) = rw h q

said_line : (s : List ℕ) → Said s (line_of s)
unfolding line_of link_from
said_line s =
    said_word (bytes_of "up ") s _ _ (said_first true (drop 3 s) (number_of (drop 3 s)) refl)
    (said_word (bytes_of "down ") s _ _ (said_first false (drop 5 s) (number_of (drop 5 s)) refl)
    (said_word (bytes_of "radios ") s _ Bad (said_radios (drop 7 s) (last_number_of (drop 7 s)) refl) (inl refl)))

-- a text that is read as a line other than Bad is the text of that line, and the line's numbers are at most 65,535
pub text_parse : (s : List ℕ) (l : Line) → line_of s ≡ l → (l ≡ Bad → ⊥) → Values l × (s ≡ text_of l)
text_parse s l e n = go (said_line s)
  where
    go : Said s (line_of s) → Values l × (s ≡ text_of l)
    go (inl b) = absurd (n (sym e ∙ b))
    go (inr p) = rw e at p
