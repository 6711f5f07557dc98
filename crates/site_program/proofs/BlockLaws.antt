-- The first bad block: all before it are good.
use Rattle.std.specs.Prelude.{◌≡◌, ◌⊎◌, ◌+◌, ◌/◌, ◌<◌}
use Rattle.lists.{specs.Kit.{sym, subst, inl, inr, true, false, List, ℕ, arith, length}, proofs.Tests.{trichotomy}}
use Rattle.mesh.specs.Image.{block_bytes, block_check}
use Rattle.site_program.specs.Blocks.{FirstBad}

-- the blocks before i are good
unfoldable pub GoodTo : (image : List ℕ) → (i : ℕ) → Type 0
GoodTo bs i = (j : ℕ) → j < i → block_check bs j ≡ true

pub good_none : (bs : List ℕ) → GoodTo bs 0
unfolding GoodTo
good_none bs = λ j h. absurd (omega arith)

pub good_more : (bs : List ℕ) (i : ℕ) → GoodTo bs i → block_check bs i ≡ true → GoodTo bs (i + 1)
unfolding GoodTo
good_more bs i so h = λ j l. go j l (trichotomy j i)
  where
    go : (j : ℕ) → j < i + 1 → (j < i) ⊎ ((j ≡ i) ⊎ (i < j)) → block_check bs j ≡ true
    go j l (inl k) = so j k
    go j l (inr (inl e)) = subst (λ (k : ℕ). block_check bs k ≡ true) (sym e) h
    go j l (inr (inr k)) = absurd (omega arith)

pub first_found : (bs : List ℕ) (i : ℕ) → i < length bs / block_bytes → GoodTo bs i → block_check bs i ≡ false → FirstBad bs i
unfolding GoodTo
first_found bs i l so h = record { low = omega arith; good = so; bad = λ m. h }

-- the loop is left: all are good
pub first_all : (bs : List ℕ) (i : ℕ) → i ≡ length bs / block_bytes → GoodTo bs i → FirstBad bs (length bs / block_bytes)
unfolding GoodTo
first_all bs i e so = record { low = omega arith; good = λ j h. so j (omega (arith, e, h)); bad = λ m. absurd (omega (arith, m)) }
