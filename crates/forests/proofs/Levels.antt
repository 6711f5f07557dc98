-- Links taken level by level are links by weight falling.
--   levels_ext    levels by weights that agree on the links
--   levels_all    where every link weighs something, the levels down to 1 are all that the definition takes
use Rattle.std.specs.Prelude.{◌≡◌, ◌++◌, ◌≤◌}
use Rattle.lists.specs.Kit.{refl, sym, ap, ap₂, List, ℕ, zero, suc, arith, eqb, ne_eqb}
use Rattle.mesh.specs.{Graph.{Link, InLinks}, Staircase.{of_weight, falling}}
use Rattle.forests.specs.Growing.{levels_falling}
use Rattle.forests.proofs.Forests.{filter_links_none, filter_links_ext}

pub levels_ext : (wt vt : Link → ℕ) (ls : List Link) → ((m : Link) → InLinks m ls → wt m ≡ vt m) → (w : ℕ) → levels_falling wt w ls ≡ levels_falling vt w ls
unfolding levels_falling
levels_ext wt vt ls h zero = refl
levels_ext wt vt ls h (suc w) =
    ap₂ {C = List Link} (λ xs ys. xs ++ ys)
    (filter_links_ext (λ l. eqb (wt l) (suc w)) (λ l. eqb (vt l) (suc w)) ls (λ m i. ap (λ (k : ℕ). eqb k (suc w)) (h m i))) (levels_ext wt vt ls h w)

-- where every link weighs something, nothing is left for weight 0
pub levels_all : (wt : Link → ℕ) (ls : List Link) → ((m : Link) → InLinks m ls → 1 ≤ wt m) → (w : ℕ) → levels_falling wt w ls ≡ falling wt w ls
unfolding levels_falling falling
levels_all wt ls h zero = sym (filter_links_none (λ l. eqb (wt l) 0) ls (λ m i. ne_eqb (wt m) 0 (λ e. omega (arith, h m i))))
levels_all wt ls h (suc w) = ap {B = List Link} (λ xs. of_weight wt (suc w) ls ++ xs) (levels_all wt ls h w)
