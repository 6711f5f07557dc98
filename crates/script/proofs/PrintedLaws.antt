-- A link call's line, put field by field.
use Rattle.std.specs.Prelude.{◌≡◌, ◌∷◌}
use Rattle.lists.specs.Kit.{ap, List, [], map, ℕ, ℤ}
use Rattle.text.{specs.Text.{space, decimal, further_fields, printed_line}, specs.Print.{Buffer, Puts}, proofs.PrintLaws.{puts_append, puts_as}}
use Rattle.calls.specs.Replay.{step_text, link_line}

-- y is the step as the code keeps it, and xs the radios that it lists
pub puts_link_line : {b c d e f : Buffer} (number : ℕ) {y : ℤ} (z : ℤ) {xs : List ℕ} (cs : List ℕ) → y ≡ z → xs ≡ cs
    → Puts b (decimal number) c → Puts c (space ∷ []) d → Puts d (step_text y) e → Puts e (further_fields (map decimal xs)) f
    → Puts b (link_line number z cs) f
unfolding link_line printed_line further_fields
puts_link_line number z cs same_step same_radios p q r s =
    puts_append p (puts_append q (puts_append (puts_as (ap step_text same_step) r)
    (puts_as (ap (λ (l : List ℕ). further_fields (map decimal l)) same_radios) s)))
