-- The greatest of a table of numbers: what is left of the table, and the greatest so far, give the greatest.
use Rattle.std.specs.Prelude.{◌≡◌, ◌∷◌, ◌+◌, ◌<◌, ◌≤◌}
use Rattle.lists.specs.Kit.{ap, ◌∙◌, List, ℕ, max, arith, add-one, drop, length, get_or, drop_of_length-le, drop-cons}
use Rattle.mesh.specs.Connected.{greatest}

abbrev pub GreatestSoFar : (numbers : List ℕ) → (top v : ℕ) → Type 0
GreatestSoFar ns top v = max top (greatest (drop v ns)) ≡ greatest ns

pub greatest_turn : (ns : List ℕ) (top v : ℕ) → v < length ns → GreatestSoFar ns top v → GreatestSoFar ns (max top (get_or ns v 0)) (v + 1)
unfolding greatest
greatest_turn ns top v l h =
    let e : drop v ns ≡ get_or ns v 0 ∷ drop (v + 1) ns = drop-cons ns v 0 l ∙ rw (add-one v) in
    let f : greatest (drop v ns) ≡ max (get_or ns v 0) (greatest (drop (v + 1) ns)) = ap greatest e in omega (arith, f, h)

pub greatest_end : (ns : List ℕ) (top v : ℕ) → length ns ≤ v → GreatestSoFar ns top v → top ≡ greatest ns
unfolding greatest
greatest_end ns top v l h = omega (arith, ap greatest (drop_of_length-le ns {i = v} l), h)
