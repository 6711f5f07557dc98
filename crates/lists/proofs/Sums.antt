-- Laws of `total`: the sum of a function over a list.
use Rattle.std.specs.Prelude.{◌≡◌, ◌∷◌, ◌*◌, ◌≤◌, ◌+◌}
use Rattle.lists.specs.Kit.{refl, inl, inr, Bool, cond, List, [], ℕ, arith, mul-suc, length}
use Rattle.lists.specs.Lists.{In, total, count}

pub total_le : (f : ℕ → ℕ) (most : ℕ) (xs : List ℕ) → ((x : ℕ) → In x xs → f x ≤ most) → total f xs ≤ most * length xs
total_le f most [] h = omega arith
total_le f most (x ∷ xs) h = omega (arith, h x (inl refl), total_le f most xs (λ y m. h y (inr m)), mul-suc most (length xs))

pub total_cong : (f h : ℕ → ℕ) (xs : List ℕ) → ((x : ℕ) → In x xs → f x ≡ h x) → total f xs ≡ total h xs
total_cong f h [] e = refl
total_cong f h (x ∷ xs) e = omega (arith, e x (inl refl), total_cong f h xs (λ y m. e y (inr m)))

pub total_none : (xs : List ℕ) → total (λ v. 0) xs ≡ 0
total_none [] = refl
total_none (x ∷ xs) = omega (arith, total_none xs)

-- two bits more an entry
pub total_bits : (f h : ℕ → ℕ) (p q : ℕ → Bool) (xs : List ℕ) → ((x : ℕ) → h x ≡ f x + cond (p x) 1 0 + cond (q x) 1 0)
    → total h xs ≡ total f xs + count p xs + count q xs
unfolding count
total_bits f h p q [] k = refl
total_bits f h p q (x ∷ xs) k = omega (arith, k x, total_bits f h p q xs k)
