-- How long the printed lines are at most: what a caller needs to know that its buffer is long enough.
use Rattle.std.specs.Prelude.{◌∷◌, ◌+◌, ◌*◌, ◌^◌, ◌≤◌, ◌<◌}
use Rattle.lists.specs.{Kit.{refl, inl, inr, List, [], map, ℕ, zero, suc, arith, ℤ, pos, negsuc, nat_abs, length, length-append}}
use Rattle.lists.specs.{Lists.{In}}
use Rattle.text.{specs.Text.{decimal, further_fields, printed_line}, proofs.DecimalLaws.{length_decimal_le}}
use Rattle.calls.specs.Replay.{step_text, link_line}

-- fields of numbers below 10 ^ k, with their spaces and the line feed
pub length_fields_le : (k : ℕ) (xs : List ℕ) → ((x : ℕ) → In x xs → x < 10 ^ suc k) → length (further_fields (map decimal xs)) ≤ (k + 2) * length xs + 1
unfolding further_fields
length_fields_le k [] h = omega arith
length_fields_le k (x ∷ xs) h =
    omega (
      arith,
      length-append (decimal x) (further_fields (map decimal xs)),
      length_decimal_le k x (h x (inl refl)),
      length_fields_le k xs
          (λ y m. h y (inr m)),
    )

-- a word, and numbers below 10 ^ k
pub length_line_le : (word : List ℕ) (k : ℕ) (xs : List ℕ) → ((x : ℕ) → In x xs → x < 10 ^ suc k)
    → length (printed_line word (map decimal xs)) ≤ length word + (k + 2) * length xs + 1
unfolding printed_line
length_line_le word k xs h =
    omega (arith, length-append word (further_fields (map decimal xs)), length_fields_le k xs h)

length_step_text_le : (z : ℤ) → length (step_text z) ≤ 1 + length (decimal (nat_abs z))
unfolding step_text
length_step_text_le (pos zero) = omega arith
length_step_text_le (pos (suc x)) = omega arith
length_step_text_le (negsuc x) = omega arith

-- a refusal number, a step of eight bits and 16-bit radios
pub length_link_line_le : (number : ℕ) (z : ℤ) (cs : List ℕ) → number < 100 → nat_abs z < 1000 → ((x : ℕ) → In x cs → x < 100000)
    → length (link_line number z cs) ≤ 6 * length cs + 8
unfolding link_line printed_line further_fields
length_link_line_le number z cs h k l =
    omega (
      arith,
      length-append (decimal number) (further_fields (step_text z ∷ map decimal cs)),
      length-append (step_text z) (further_fields (map decimal cs)),
      length_decimal_le 1 number (omega arith),
      length_step_text_le z,
      length_decimal_le 2 (nat_abs z) (omega arith),
      length_fields_le 4 cs l,
    )
