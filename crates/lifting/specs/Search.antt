-- Pairs tried, by lower radio and then higher.
--   candidate g K a b     a pair whose lower number is K, whose link is down and whose ends have room: only such a pair can lift a radio of number K
--   NoneBelow g r a      no pair whose lower radio is below a lifts r
--   Untried g r a rest    of the pairs whose lower radio is a, only ones with a radio of `rest` can lift r
-- Laws are in proofs/Search.antt. Definitions only.
use Rattle.std.specs.Prelude.{◌≡◌, ◌&&◌, ◌<◌}
use Rattle.lists.specs.Kit.{Bool, true, false, ℕ, eqb}
use Rattle.mesh.specs.{Limits.{max_neighbours}, Graph.{link_of, Graph}, Levels.{lower_level}}
use Rattle.calls.specs.{Questions.{can_switch, has_room}, Lift.{lifts}}

unfoldable pub candidate : Graph → (K a b : ℕ) → Bool
candidate g K a b = eqb (lower_level g a b) K && (can_switch true g a b && has_room max_neighbours true g a b)

abbrev pub NoneBelow : Graph → (r a : ℕ) → Type 0
NoneBelow g r a = (x y : ℕ) → x < a → x < y → y < g.n → lifts g r (link_of x y) ≡ false

abbrev pub Untried : Graph → (r a : ℕ) → (rest : ℕ → Bool) → Type 0
Untried g r a rest = (c : ℕ) → a < c → c < g.n → rest c ≡ false → lifts g r (link_of a c) ≡ false
