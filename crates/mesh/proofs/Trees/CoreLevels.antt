-- Connected cores at one level and at two.
use Rattle.std.specs.Prelude.{◌≡◌, ◌≤◌, ◌<◌}
use Rattle.lists.{specs.Kit.{sym, ◌∙◌, true, ℕ, arith, leb-true, le-leb}, specs.Lists.{range, member}, proofs.Tests.{iff_eq}}
use Rattle.lists.{proofs.Filter.{filter_ext}}
use Rattle.mesh.specs.{Graph.{Graph, radios}, Cores.{number}, Connected.{here, at_least, InCore, core_of}}
use Rattle.mesh.proofs.Trees.Reach.{reachable_below, reachable_passes, reachable_trans, reachable_sym, reachable_mono, core_of_iff, core_of_ascending}

module _ (g : Graph) where
  at_least_le : (k v : ℕ) → at_least g k v ≡ true → k ≤ number g v
  unfolding at_least
  at_least_le k v h = leb-true k (number g v) h

  le_at_least : (k v : ℕ) → k ≤ number g v → at_least g k v ≡ true
  unfolding at_least
  le_at_least k v h = le-leb k (number g v) h

  pub in_core_here : (v k : ℕ) → InCore g v k v
  unfolding InCore
  in_core_here v k = here

  pub in_core_below : (v k w : ℕ) → v < g.n → InCore g v k w → w < g.n
  unfolding InCore
  in_core_below v k w l r = reachable_below l r

  -- members of a connected core at level k have number k or more
  pub in_core_level : (v k w : ℕ) → k ≤ number g v → InCore g v k w → k ≤ number g w
  unfolding InCore
  in_core_level v k w h r = at_least_le k w (reachable_passes (le_at_least k v h) r)

  pub in_core_sym : (v k w : ℕ) → v < g.n → k ≤ number g v → InCore g v k w → InCore g w k v
  unfolding InCore
  in_core_sym v k w l h r = reachable_sym l (le_at_least k v h) r

  pub in_core_trans : (v k w x : ℕ) → InCore g v k w → InCore g w k x → InCore g v k x
  unfolding InCore
  in_core_trans v k w x r s = reachable_trans r s

  -- from one level to another that the members have too
  pub in_core_mono : (v j k w : ℕ) → ((x : ℕ) → InCore g v j x → j ≤ number g x → k ≤ number g x) → InCore g v j w → InCore g v k w
  unfolding InCore
  in_core_mono v j k w h r = reachable_mono (λ x s p. le_at_least k x (h x s (at_least_le j x p))) r

  -- a connected core lies within that of the same radio at a lower level
  pub in_core_lower : (v j k w : ℕ) → j ≤ k → InCore g v k w → InCore g v j w
  in_core_lower v j k w h r = in_core_mono v k j w (λ x s p. omega arith) r

  -- cores of two levels are nested or apart: one at level k that shares a radio x with one at level j, j ≤ k, lies within it
  pub in_core_nested : (u j v k x w : ℕ) → j ≤ k → v < g.n → k ≤ number g v → InCore g u j x → InCore g v k x → InCore g v k w → InCore g u j w
  in_core_nested u j v k x w h l e p q r =
      in_core_trans u j x w p (in_core_lower x j k w h (in_core_trans x k v w (in_core_sym v k x l e q) r))

  -- the radios of a connected core at level k have the same one
  pub core_of_same : (v k w : ℕ) → v < g.n → k ≤ number g v → InCore g v k w → core_of g w k ≡ core_of g v k
  unfolding radios
  core_of_same v k w l h r =
      let lw = in_core_below v k w l r in
      core_of_ascending g w k lw ∙ filter_ext (λ x. member x (core_of g w k)) (λ x. member x (core_of g v k)) (range 0 g.n)
      (λ x m. iff_eq (member x (core_of g w k)) (member x (core_of g v k))
      (λ p. (core_of_iff g v k l x).1 (in_core_trans v k w x r ((core_of_iff g w k lw x).0 p)))
      (λ p. (core_of_iff g w k lw x).1 (in_core_trans w k v x (in_core_sym v k w l h r) ((core_of_iff g v k l x).0 p))))
      ∙ sym (core_of_ascending g v k l)
