-- Lines of a text whose line feeds are known.
--   Ended l          l is a line: bytes that are no line feed, and a line feed
--   lines_first, front_ended, rest_ended   the first line of a text that starts with a line
--   ended_radios, ended_up   lines of a script
--   lines_of_ups     the lines after the first of a script
use Rattle.std.specs.Prelude.{◌≡◌, ◌∷◌, ◌++◌, ◌/◌, ◌%◌}
use Rattle.lists.{specs.Kit.{refl, sym, ap, ◌∙◌, Bool, true, not, List, [], map, flat_map, append_assoc, ℕ, zero, suc, arith, eqb}}
use Rattle.lists.{specs.Kit.{ne_eqb, not-true, eqb-false}, specs.Lists.{all}, proofs.Tests.{and_left, and_right}}
use Rattle.mesh.specs.Graph.{Link}
use Rattle.text.specs.Text.{bytes_of, space, line_feed, digit_byte, digits_in, decimal, further_fields, printed_line}
use Rattle.calls.specs.Script.{radios_text, up_text, up_line}
use Rattle.player.{specs.Play.{lines_of, front, rest}, proofs.SplitLaws.{NoFeed, no_feed_more, lines_ended}}

-- ---- bytes that are no line feed

no_feed_append : (xs ys : List ℕ) → NoFeed xs → NoFeed ys → NoFeed (xs ++ ys)
no_feed_append [] ys f g = g
no_feed_append (x ∷ xs) ys f g = (f.0, no_feed_append xs ys f.1 g)

no_feed_of : (xs : List ℕ) → all (λ b. not (eqb b line_feed)) xs ≡ true → NoFeed xs
unfolding all
no_feed_of [] h = tt
no_feed_of (x ∷ xs) h =
    let rest : ℕ → Bool = λ b. not (eqb b line_feed) in
    (eqb-false x line_feed (not-true (eqb x line_feed) (and_left (rest x) (all rest xs) h)), no_feed_of xs (and_right (rest x) (all rest xs) h))

no_feed_digits : (t x : ℕ) → NoFeed (digits_in t x)
unfolding digits_in digit_byte
no_feed_digits zero x = tt
no_feed_digits (suc t) zero = tt
no_feed_digits (suc t) (suc x) = no_feed_more (digits_in t (suc x / 10)) (digit_byte (suc x % 10)) (no_feed_digits t (suc x / 10)) (λ e. omega (arith, e))

no_feed_decimal : (x : ℕ) → NoFeed (decimal x)
unfolding decimal digit_byte
no_feed_decimal zero = (λ e. omega (arith, e), tt)
no_feed_decimal (suc x) = no_feed_digits (suc x) (suc x)

-- ---- a line

pub record Ended (l : List ℕ) : Type 0 where
  pub held : List ℕ
  pub free : NoFeed held
  pub is : l ≡ held ++ (line_feed ∷ [])

ended_feed : Ended (line_feed ∷ [])
ended_feed = record { held = []; free = tt; is = refl }

ended_append : (xs l : List ℕ) → NoFeed xs → Ended l → Ended (xs ++ l)
ended_append xs l f e = record {
  held = xs ++ e.held;
  free = no_feed_append xs e.held f e.free;
  is = ap (λ (ys : List ℕ). xs ++ ys) e.is ∙ sym (append_assoc xs e.held (line_feed ∷ []));
}

pub ended_radios : (n : ℕ) → Ended (radios_text n)
unfolding printed_line further_fields all
ended_radios n =
    ended_append (bytes_of "radios ") (decimal n ++ (line_feed ∷ [])) (no_feed_of (bytes_of "radios ") refl)
    (ended_append (decimal n) (line_feed ∷ []) (no_feed_decimal n) ended_feed)

pub ended_up : (a b : ℕ) → Ended (up_text a b)
unfolding printed_line further_fields all
ended_up a b =
    ended_append (bytes_of "up ") (decimal a ++ (space ∷ (decimal b ++ (line_feed ∷ [])))) (no_feed_of (bytes_of "up ") refl)
    (ended_append (decimal a) (space ∷ (decimal b ++ (line_feed ∷ []))) (no_feed_decimal a)
    (ended_append (space ∷ decimal b) (line_feed ∷ []) (λ e. omega (arith, e), no_feed_decimal b) ended_feed))

-- ---- a text that starts with a line

module _ (l bs : List ℕ) (e : Ended l) where
  split : l ++ bs ≡ e.held ++ (line_feed ∷ bs)
  split = ap (λ (xs : List ℕ). xs ++ bs) e.is ∙ append_assoc e.held (line_feed ∷ []) bs

  pub lines_first : lines_of (l ++ bs) ≡ l ∷ lines_of bs
  lines_first =
      ap lines_of split ∙ lines_ended e.held line_feed bs e.free refl ∙ ap (λ (xs : List ℕ). xs ∷ lines_of bs) (sym e.is)

  front_held : (h : List ℕ) → NoFeed h → front (h ++ (line_feed ∷ bs)) ≡ h ++ (line_feed ∷ [])
  unfolding front
  front_held [] f = refl
  front_held (x ∷ xs) f = rw (ne_eqb x line_feed f.0, front_held xs f.1)

  pub front_ended : front (l ++ bs) ≡ l
  front_ended = ap front split ∙ front_held e.held e.free ∙ sym e.is

  rest_held : (h : List ℕ) → NoFeed h → rest (h ++ (line_feed ∷ bs)) ≡ bs
  unfolding rest
  rest_held [] f = refl
  rest_held (x ∷ xs) f = rw (ne_eqb x line_feed f.0, rest_held xs f.1)

  pub rest_ended : rest (l ++ bs) ≡ bs
  rest_ended = ap rest split ∙ rest_held e.held e.free

pub lines_of_ups : (ls : List Link) → lines_of (flat_map up_line ls) ≡ map up_line ls
unfolding flat_map lines_of up_line
lines_of_ups [] = refl
lines_of_ups (l ∷ ls) =
    lines_first (up_line l) (flat_map up_line ls) (ended_up l.low l.high) ∙ ap (λ (xs : List (List ℕ)). up_line l ∷ xs) (lines_of_ups ls)
