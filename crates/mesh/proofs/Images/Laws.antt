-- Laws of the image's definitions that writing and reading rest on.
use Rattle.std.specs.Prelude.{◌≡◌, ◌∷◌, ◌++◌, ◌+◌, ◌*◌}
use Rattle.lists.specs.Kit.{ap, ◌∙◌, List, [], ℕ, suc, arith, add-zero, length}
use Rattle.mesh.specs.Image.{weighted_sum, check_sum}

weighted_sum_snoc : (i : ℕ) (bs : List ℕ) (x : ℕ) → weighted_sum i (bs ++ (x ∷ [])) ≡ weighted_sum i bs + x * (i + length bs)
unfolding weighted_sum
weighted_sum_snoc i [] x = let e : i + 0 ≡ i = add-zero i in rw e (omega arith)
weighted_sum_snoc i (b ∷ bs) x =
    let e : i + suc (length bs) ≡ suc i + length bs = omega arith in
    rw e (omega (arith, weighted_sum_snoc (suc i) bs x))

-- document 01: a byte counts by its position and 1
pub check_sum_snoc : (bs : List ℕ) (x : ℕ) → check_sum (bs ++ (x ∷ [])) ≡ check_sum bs + x * (length bs + 1)
unfolding check_sum
check_sum_snoc bs x = weighted_sum_snoc 1 bs x ∙ ap (λ (w : ℕ). weighted_sum 1 bs + x * w) (omega arith)
