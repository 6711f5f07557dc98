-- Question 1 as what it asks, both ways.
use Rattle.std.specs.Prelude.{◌≡◌, ◌≤◌}
use Rattle.lists.{specs.Kit.{true, ℕ, leb, leb-true, le-leb}, proofs.Tests.{and_left, and_right, and_both}}
use Rattle.mesh.specs.Limits.{max_radios, size_good}

pub size_good_true : (n : ℕ) → size_good n ≡ true → (1 ≤ n) × (n ≤ max_radios)
unfolding size_good
size_good_true n p = (leb-true 1 n (and_left (leb 1 n) (leb n max_radios) p), leb-true n max_radios (and_right (leb 1 n) (leb n max_radios) p))

pub true_size_good : (n : ℕ) → 1 ≤ n → n ≤ max_radios → size_good n ≡ true
unfolding size_good
true_size_good n p q = and_both (leb 1 n) (leb n max_radios) (le-leb 1 n p) (le-leb n max_radios q)
