-- What the replay program prints, as bytes.
--   step_text s                   a step: +1, -1, 0
--   link_line number step cs      the line of a link call: refusal number, step, changed radios
--   numbers_line ns, order_line xs  the two closing lines
--   closing_lines ns xs           both
--   bad_line l                    what ends the run at line l of another form
--   answer_line h, lines hs ns xs the line of an answer; a line for each, then the closing lines
-- Decimal numbers and lines of fields are in crate text. Definitions only.
use Rattle.std.specs.Prelude.{◌∷◌, ◌++◌}
use Rattle.lists.specs.Kit.{List, [], map, flat_map, ℕ, zero, suc, ℤ, pos, negsuc}
use Rattle.text.specs.Text.{bytes_of, decimal, printed_line}
use Rattle.calls.specs.Book.{Answer}

-- ---- numbers and steps

unfoldable pub step_text : ℤ → List ℕ
step_text (pos zero) = decimal 0
step_text (pos (suc x)) = 43 ∷ decimal (suc x)
step_text (negsuc x) = 45 ∷ decimal (suc x)

-- ---- lines

unfoldable pub link_line : (number : ℕ) → (step : ℤ) → (changed : List ℕ) → List ℕ
link_line r s cs = printed_line (decimal r) (step_text s ∷ map decimal cs)

unfoldable pub numbers_line : (numbers : List ℕ) → List ℕ
numbers_line ns = printed_line (bytes_of "numbers") (map decimal ns)

unfoldable pub order_line : (order : List ℕ) → List ℕ
order_line xs = printed_line (bytes_of "order") (map decimal xs)

unfoldable pub closing_lines : (numbers order : List ℕ) → List ℕ
closing_lines ns xs = numbers_line ns ++ order_line xs

unfoldable pub bad_line : (line : ℕ) → List ℕ
bad_line l = printed_line (bytes_of "bad") (decimal l ∷ [])

-- ---- what calls print

unfoldable pub answer_line : Answer → List ℕ
answer_line x = link_line x.number x.step x.listed

-- document 02, W-203: a line for each answer, then the closing lines
unfoldable pub lines : List Answer → (numbers order : List ℕ) → List ℕ
lines hs ns xs = flat_map answer_line hs ++ closing_lines ns xs
