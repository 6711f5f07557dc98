-- The names that the shell tree works out: of a radio's node, and of a node's parent.
-- In order: increasing lists and their first entry, the name of a shell, the node of a radio, the parent of a node.
use Rattle.std.specs.Prelude.{◌≡◌, ◌⊎◌, ◌∷◌, ◌≤◌, ◌<◌}
use Rattle.lists.{specs.Kit.{refl, ◌∙◌, inl, inr, Bool, true, false, List, [], ℕ, zero, suc, arith, eqb, ne_eqb}, specs.Lists.{range}}
use Rattle.lists.{specs.Lists.{member, head_or, In, Ascending}, proofs.Tests.{bool_cases, never, trichotomy}, proofs.Ascending.{ascending_range}}
use Rattle.lists.{proofs.Ascending.{ascending_filter, head_or_lowest}, proofs.Member.{head_or_in, head_or_any}}
use Rattle.mesh.specs.{Graph.{Graph, radios}, Cores.{number}, Connected.{core_of}, Tree.{root_name, CoreSet, NodeSet, Named}}
use Rattle.mesh.specs.{Tree.{StrictlyContains, Parent, NodeName, shell, node_name, parent_name}}
use Rattle.mesh.proofs.Trees.{Reach.{core_of_iff, core_of_ascending}, CoreLevels.{in_core_here, in_core_below}}
use Rattle.mesh.proofs.Trees.{NodeSets.{core_has, core_has_self, shell_in, in_shell, core_set_of, core_set_level, core_set_reaches, core_set_contains}}
use Rattle.mesh.proofs.Trees.{NodeSets.{node_set_of, node_set_shell}}

-- ---- laws of lists: increasing, and the first entry

module _ (g : Graph) where
  -- ---- the name of a shell

  increasing_shell : (v k : ℕ) → v < g.n → Ascending (shell g v k)
  unfolding shell radios
  increasing_shell v k l =
      ascending_filter (λ x. eqb (number g x) k) (core_of g v k)
      (rw (core_of_ascending g v k l) (ascending_filter (λ w. member w (core_of g v k)) (range 0 g.n) (ascending_range 0 g.n)))

  -- the first of a shell that is not empty names the set
  pub shell_named : {k : ℕ} {s : ℕ → Bool} → CoreSet g k s → (d v y : ℕ) → v < g.n → s v ≡ true → In y (shell g v k)
      → Named g k s (head_or d (shell g v k))
  shell_named {k} {s} c d v y l p m =
      let r = shell_in g v k (head_or d (shell g v k)) l (head_or_in d y (shell g v k) m) in
      let lx = in_core_below g v k (head_or d (shell g v k)) l r.0 in
      record {
        is_radio = lx;
        in_set = (core_set_reaches g c v l p (head_or d (shell g v k)) lx).1 r.0;
        level = r.1;
        lowest = λ w q e lw. head_or_lowest d w (shell g v k) (increasing_shell v k l)
            (in_shell g v k w l ((core_set_reaches g c v l p w lw).0 q) e);
      }

  -- ---- the node of a radio

  pub node_name_root : (v : ℕ) → number g v ≡ 0 → node_name g v ≡ root_name
  unfolding node_name
  node_name_root v e = rw e

  node_name_shell : (v k : ℕ) → number g v ≡ k → 1 ≤ k → node_name g v ≡ head_or root_name (shell g v k)
  unfolding node_name
  node_name_shell v k e h = rw (e, ne_eqb k 0 (λ z. omega arith))

  pub node_name_named : {k : ℕ} {s : ℕ → Bool} (v : ℕ) → v < g.n → number g v ≡ k → NodeSet g k s → s v ≡ true → Named g k s (node_name g v)
  node_name_named {k} v l e nd p =
      rw (node_name_shell v k e nd.positive) (shell_named nd.core root_name v v l p (in_shell g v k v l (in_core_here g v k) e))

  pub node_name_right : (v : ℕ) → v < g.n → NodeName g v (node_name g v)
  node_name_right v l = record { at_root = node_name_root v; elsewhere = λ s nd p. node_name_named v l refl nd p }

  -- ---- the parent of a node

  -- the search for it has come down to level k: no node set from k on strictly contains s
  parent_name_from : {K : ℕ} {s : ℕ → Bool} (v : ℕ) → v < g.n → number g v ≡ K → CoreSet g K s → s v ≡ true → (k : ℕ) → k ≤ K
      → ((i : ℕ) (t : ℕ → Bool) → NodeSet g i t → StrictlyContains g t s → i < k) → Parent g s (parent_name g v k)
  unfolding parent_name head_or
  parent_name_from v l e c p zero h low = inr (record { is_root = refl; none = λ i t nd st. omega (arith, low i t nd st) })
  parent_name_from v l e c p (suc zero) h low =
      inr (record { is_root = refl; none = λ i t nd st. omega (arith, low i t nd st, nd.positive) })
  parent_name_from {K} {s} v l e c p (suc (suc k)) h low =
      go (parent_name_from v l e c p (suc k) (omega arith)) (shell g v (suc k)) refl
    where
      -- v is in every set that contains s
      inside : (t : ℕ → Bool) → StrictlyContains g t s → t v ≡ true
      inside t st = st.contains v l p

      go : (((i : ℕ) (t : ℕ → Bool) → NodeSet g i t → StrictlyContains g t s → i < suc k) → Parent g s (parent_name g v (suc k)))
          → (xs : List ℕ) → shell g v (suc k) ≡ xs → Parent g s (head_or (parent_name g v (suc k)) (shell g v (suc k)))
      go rec [] q = rw q (rec (λ i t nd st. lower i t nd st (trichotomy i (suc k))))
        where
          lower : (i : ℕ) (t : ℕ → Bool) → NodeSet g i t → StrictlyContains g t s → (i < suc k) ⊎ ((i ≡ suc k) ⊎ (suc k < i)) → i < suc k
          lower i t nd st (inl a) = a
          lower i t nd st (inr (inl a)) =
              let r = node_set_shell g nd in
              let m = in_shell g v i r.0 l ((core_set_reaches g nd.core v l (inside t st) r.0 r.1).0 r.2) r.3 in
              let none : shell g v i ≡ [] = rw a q in absurd (rw none at m)
          lower i t nd st (inr (inr a)) = absurd (omega (arith, low i t nd st))
      go rec (x ∷ xs) q =
          let m : In x (shell g v (suc k)) = rw q (inl refl) in
          let r = shell_in g v (suc k) x l m in
          let lx = in_core_below g v (suc k) x l r.0 in
          let d = core_set_of g v (suc k) l (omega arith) in
          let has : core_has g v (suc k) v ≡ true = core_has_self g v (suc k) l in
          let has_x : core_has g v (suc k) x ≡ true = (core_of_iff g v (suc k) l x).1 r.0 in
          inl (record {
            level = suc k;
            set = core_has g v (suc k);
            is_node = node_set_of g (omega arith) d x lx has_x r.1;
            strict = record {
              contains = core_set_contains g (omega arith) d c v l p has;
              extra = x;
              is_radio = lx;
              in_outer = has_x;
              not_inner = outside (bool_cases (s x)) lx r.1;
            };
            smallest = λ i t nd st. core_set_contains g (omega (arith, low i t nd st)) nd.core d v l has (inside t st);
            named = shell_named d (parent_name g v (suc k)) v x l has m;
          })
        where
          outside : (s x ≡ true) ⊎ (s x ≡ false) → x < g.n → number g x ≡ suc k → s x ≡ false
          outside (inl a) lx b = absurd (omega (arith, core_set_level g c x lx a))
          outside (inr a) lx b = a

  pub parent_name_right : {K : ℕ} {s : ℕ → Bool} (v : ℕ) → v < g.n → number g v ≡ K → CoreSet g K s → s v ≡ true → Parent g s (parent_name g v K)
  parent_name_right {K} {s} v l e c p = parent_name_from v l e c p K (omega arith) low
    where
      low : (i : ℕ) (t : ℕ → Bool) → NodeSet g i t → StrictlyContains g t s → i < K
      low i t nd st = go (trichotomy i K)
        where
          go : (i < K) ⊎ ((i ≡ K) ⊎ (K < i)) → i < K
          go (inl a) = a
          go (inr (inl a)) = never (s st.extra) (core_set_contains g (omega arith) c nd.core v l (st.contains v l p) p st.extra st.is_radio
              st.in_outer) st.not_inner
          go (inr (inr a)) = absurd (omega (arith, core_set_level g nd.core v l (st.contains v l p)))

  -- ---- names alike

  node_name_parent_at : (v k : ℕ) → v < g.n → number g v ≡ k → node_name g v ≡ parent_name g v (suc k)
  unfolding parent_name
  node_name_parent_at v zero l e = node_name_root v e
  node_name_parent_at v (suc k) l e =
      node_name_shell v (suc k) e (omega arith)
      ∙ head_or_any root_name (parent_name g v (suc k)) v (shell g v (suc k)) (in_shell g v (suc k) v l (in_core_here g v (suc k)) e)

  -- a radio's node is the parent that a node just above its number would have
  pub node_name_parent : (v : ℕ) → v < g.n → node_name g v ≡ parent_name g v (suc (number g v))
  node_name_parent v l = node_name_parent_at v (number g v) l refl
