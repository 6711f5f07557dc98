-- Sums by thresholds: of two lists the one with no fewer links of each weight or more weighs no less.
use Rattle.std.specs.Prelude.{◌≡◌, ◌⊎◌, ◌∷◌, ◌+◌, ◌≤◌}
use Rattle.lists.{specs.Kit.{refl, inl, inr, true, false, List, [], ℕ, zero, suc, min, arith, leb, length, leb-true, leb-false}}
use Rattle.lists.{proofs.Tests.{bool_cases}}
use Rattle.mesh.specs.{Graph.{Link}, Staircase.{filter_links, heavy, weighs}}

-- weights cut at m
abbrev cut : (weight : Link → ℕ) → (m : ℕ) → Link → ℕ
cut wt m l = min (wt l) m

-- one more in the cut counts the links of that weight or more
weighs_cut : (wt : Link → ℕ) (m : ℕ) (ls : List Link) → weighs (cut wt (suc m)) ls ≡ weighs (cut wt m) ls + length (heavy wt (suc m) ls)
unfolding weighs filter_links
weighs_cut wt m [] = refl
weighs_cut wt m (l ∷ ls) = go (weighs_cut wt m ls) (bool_cases (leb (suc m) (wt l)))
  where
    go : weighs (cut wt (suc m)) ls ≡ weighs (cut wt m) ls + length (heavy wt (suc m) ls) → (leb (suc m) (wt l) ≡ true) ⊎ (leb (suc m) (wt l) ≡ false)
        → min (wt l) (suc m) + weighs (cut wt (suc m)) ls ≡ min (wt l) m + weighs (cut wt m) ls + length (filter_links (λ x. leb (suc m) (wt x)) (l ∷ ls))
    go rec (inl e) = rw e (omega (arith, rec, leb-true (suc m) (wt l) e))
    go rec (inr e) = rw e (omega (arith, rec, leb-false (suc m) (wt l) e))

weighs_zero : (wt : Link → ℕ) (ls : List Link) → weighs (cut wt 0) ls ≡ 0
unfolding weighs
weighs_zero wt [] = refl
weighs_zero wt (l ∷ ls) = omega (arith, weighs_zero wt ls)

weighs_cut_le : (wt : Link → ℕ) (m : ℕ) (ls : List Link) → weighs (cut wt m) ls ≤ weighs wt ls
unfolding weighs
weighs_cut_le wt m [] = omega arith
weighs_cut_le wt m (l ∷ ls) = omega (arith, weighs_cut_le wt m ls)

-- a cut at the whole weight or above cuts nothing
weighs_cut_all : (wt : Link → ℕ) (m : ℕ) (ls : List Link) → weighs wt ls ≤ m → weighs (cut wt m) ls ≡ weighs wt ls
unfolding weighs
weighs_cut_all wt m [] h = refl
weighs_cut_all wt m (l ∷ ls) h = omega (arith, weighs_cut_all wt m ls (omega arith))

pub weighs_le : (wt : Link → ℕ) (fs ks : List Link) → ((w : ℕ) → length (heavy wt w fs) ≤ length (heavy wt w ks)) → weighs wt fs ≤ weighs wt ks
weighs_le wt fs ks h =
    omega (arith, up (weighs wt fs), weighs_cut_all wt (weighs wt fs) fs (omega arith), weighs_cut_le wt (weighs wt fs) ks)
  where
    up : (m : ℕ) → weighs (cut wt m) fs ≤ weighs (cut wt m) ks
    up zero = omega (arith, weighs_zero wt fs, weighs_zero wt ks)
    up (suc m) = omega (arith, up m, weighs_cut wt m fs, weighs_cut wt m ks, h (suc m))
