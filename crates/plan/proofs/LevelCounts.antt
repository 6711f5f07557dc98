-- A level's numbers counted part by part: a byte counts a part, and the parts come to the whole.
use Rattle.std.specs.Prelude.{◌≡◌, ◌+◌, ◌≤◌, ◌<◌}
use Rattle.lists.{specs.Kit.{sym, ap, Bool, List, ℕ, arith, take, drop, length-take, take-append-drop, drop-drop}, specs.Lists.{count}}
use Rattle.lists.{proofs.Tests.{bit_one, byte_bit}, proofs.Count.{count_append, count_not}, proofs.Loops.{CountedFrom}}
use mir.{Syntax.{w8}, Val.{bool_byte, Fits}}

-- a byte is enough for a count of so few
pub counted_byte : (n i : ℕ) (t : Bool) → n ≤ i → i < 255 → Fits w8 (n + bool_byte t)
counted_byte n i t h l = record { fits = omega (arith, byte_bit t, bit_one t) }

-- a part of m numbers more
pub counted_part : (f : ℕ → Bool) (xs : List ℕ) (n i m k : ℕ) → CountedFrom f xs n i → k ≡ count f (take m (drop i xs)) → CountedFrom f xs (n + k) (i + m)
counted_part f xs n i m k h e = (
  omega (arith, h.0, e, count_not f (take m (drop i xs)), length-take m (drop i xs)),
  omega (
    arith,
    h.1,
    e,
    ap (count f) (sym (take-append-drop m (drop i xs))),
    count_append f (take m (drop i xs)) (drop m (drop i xs)),
    ap (count f) (drop-drop m i xs),
  ),
)
