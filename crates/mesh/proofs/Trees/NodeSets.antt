-- Laws of the shell tree's sets.
-- In order: shells, connected cores as sets, node sets (they are the connected cores with a radio of their own level), names,
-- parents (there is one at most).
use Rattle.std.specs.Prelude.{◌≡◌, ◌↔◌, ◌∷◌, ◌≤◌, ◌<◌}
use Rattle.lists.specs.Kit.{refl, sym, ◌∙◌, inl, inr, Bool, true, List, [], ℕ, suc, arith, le_antisymm, eqb, eqb-true}
use Rattle.lists.{specs.Kit.{eqb-false, eq-eqb, ⊎_elim}, specs.Lists.{member, In}, proofs.Tests.{bool_cases}, proofs.Member.{member_in, in_member}}
use Rattle.lists.proofs.Filter.{in_filter, filter_in}
use Rattle.mesh.specs.{Graph.{Graph}, Cores.{number}, Connected.{InCore, core_of}, Tree.{CoreSet, NodeSet, Named, Contains, Parent, shell}}
use Rattle.mesh.proofs.Trees.{Reach.{core_of_iff}, CoreLevels.{in_core_here, in_core_below, in_core_level, in_core_sym, in_core_trans, in_core_mono}}
use Rattle.mesh.proofs.Trees.CoreLevels.{in_core_lower}

-- the connected core of v at level k, as a set
abbrev pub core_has : Graph → (v k w : ℕ) → Bool
core_has g v k w = member w (core_of g v k)

module _ (g : Graph) where
  -- ---- shells

  pub shell_in : (v k x : ℕ) → v < g.n → In x (shell g v k) → InCore g v k x × (number g x ≡ k)
  unfolding shell
  shell_in v k x l m =
      let r = in_filter (λ y. eqb (number g y) k) (core_of g v k) x m in
      ((core_of_iff g v k l x).0 (in_member x (core_of g v k) r.0), eqb-true (number g x) k r.1)

  pub in_shell : (v k x : ℕ) → v < g.n → InCore g v k x → number g x ≡ k → In x (shell g v k)
  unfolding shell
  in_shell v k x l r e =
      filter_in (λ y. eqb (number g y) k) (core_of g v k) x (member_in x (core_of g v k) ((core_of_iff g v k l x).1 r)) (eq-eqb (number g x) k e)

  -- ---- connected cores

  pub core_has_self : (v k : ℕ) → v < g.n → core_has g v k v ≡ true
  core_has_self v k l = (core_of_iff g v k l v).1 (in_core_here g v k)

  pub core_set_of : (v k : ℕ) → v < g.n → k ≤ number g v → CoreSet g k (core_has g v k)
  core_set_of v k l h = record { radio = v; is_radio = l; level = h; reaches = λ w lw. core_of_iff g v k l w }

  pub core_set_level : {k : ℕ} {s : ℕ → Bool} → CoreSet g k s → (v : ℕ) → v < g.n → s v ≡ true → k ≤ number g v
  core_set_level {k} c v l p = in_core_level g c.radio k v c.level ((c.reaches v l).0 p)

  -- any of its radios reaches all of it
  pub core_set_reaches : {k : ℕ} {s : ℕ → Bool} → CoreSet g k s → (v : ℕ) → v < g.n → s v ≡ true → (w : ℕ) → w < g.n → (s w ≡ true) ↔ InCore g v k w
  core_set_reaches {k} c v l p w lw =
      let r = (c.reaches v l).0 p in (
        λ q. in_core_trans g v k c.radio w (in_core_sym g c.radio k v c.is_radio c.level r) ((c.reaches w lw).0 q),
        λ q. (c.reaches w lw).1 (in_core_trans g c.radio k v w r q),
      )

  -- the same set, told by another test
  pub core_set_same : {k : ℕ} {s t : ℕ → Bool} → Contains g t s → Contains g s t → CoreSet g k s → CoreSet g k t
  core_set_same a b c = record {
    radio = c.radio;
    is_radio = c.is_radio;
    level = c.level;
    reaches = λ w l. (λ p. (c.reaches w l).0 (b w l p), λ q. a w l ((c.reaches w l).1 q));
  }

  -- of two with a radio in common, that of the higher level lies within the other
  pub core_set_contains : {j k : ℕ} {s t : ℕ → Bool} → j ≤ k → CoreSet g j t → CoreSet g k s
      → (v : ℕ) → v < g.n → s v ≡ true → t v ≡ true → Contains g t s
  core_set_contains {j} {k} h c d v l p q w lw r =
      (core_set_reaches c v l q w lw).1 (in_core_lower g v j k w h ((core_set_reaches d v l p w lw).0 r))

  -- ---- node sets

  pub node_set_of : {k : ℕ} {s : ℕ → Bool} → 1 ≤ k → CoreSet g k s → (x : ℕ) → x < g.n → s x ≡ true → number g x ≡ k → NodeSet g k s
  node_set_of h c x l p e = record { positive = h; core = c; largest = λ j d. omega (arith, core_set_level d x l p) }

  -- each radio of number 1 or more is in the shell of a node
  pub node_set_of_radio : {k : ℕ} (v : ℕ) → v < g.n → number g v ≡ k → 1 ≤ k → NodeSet g k (core_has g v k)
  node_set_of_radio {k} v l e h = node_set_of h (core_set_of v k l (omega arith)) v l (core_has_self v k l) e

  -- where no radio of a connected core has its level, it is a connected core at the next level too
  core_set_next : {k : ℕ} {s : ℕ → Bool} → CoreSet g k s → ((x : ℕ) → x < g.n → s x ≡ true → number g x ≡ k → ⊥) → CoreSet g (suc k) s
  core_set_next {k} {s} c none = record {
    radio = c.radio;
    is_radio = c.is_radio;
    level = above c.radio (in_core_here g c.radio k);
    reaches = λ w l. (
      λ p. in_core_mono g c.radio k (suc k) w (λ x r h. above x r) ((c.reaches w l).0 p),
      λ q. (c.reaches w l).1 (in_core_lower g c.radio k (suc k) w (omega arith) q),
    );
  }
    where
      above : (x : ℕ) → InCore g c.radio k x → suc k ≤ number g x
      above x r = let l = in_core_below g c.radio k x c.is_radio r in
          ⊎_elim (λ e. absurd (none x l ((c.reaches x l).1 r) (eqb-true (number g x) k e)))
          (λ e. omega (arith, eqb-false (number g x) k e, in_core_level g c.radio k x c.level r)) (bool_cases (eqb (number g x) k))

  -- a node set has a shell
  pub node_set_shell : {k : ℕ} {s : ℕ → Bool} → NodeSet g k s → (x : ℕ) × (x < g.n) × (s x ≡ true) × (number g x ≡ k)
  node_set_shell {k} {s} nd = go (shell g nd.core.radio k) refl
    where
      go : (xs : List ℕ) → shell g nd.core.radio k ≡ xs → (x : ℕ) × (x < g.n) × (s x ≡ true) × (number g x ≡ k)
      go [] e = absurd (omega (
        arith,
        nd.largest (suc k) (core_set_next nd.core
            (λ x l p q. rw e at (in_shell nd.core.radio k x nd.core.is_radio ((nd.core.reaches x l).0 p) q))),
      ))
      go (x ∷ xs) e =
          let r = shell_in nd.core.radio k x nd.core.is_radio (rw e (inl refl)) in
          let l = in_core_below g nd.core.radio k x nd.core.is_radio r.0 in (x, l, (nd.core.reaches x l).1 r.0, r.1)

  -- ---- names

  pub named_unique : {k : ℕ} {s : ℕ → Bool} {a b : ℕ} → Named g k s a → Named g k s b → a ≡ b
  named_unique {k} {s} {a} {b} p q = le_antisymm
      (p.lowest b q.in_set q.level q.is_radio) (q.lowest a p.in_set p.level p.is_radio)

  pub named_same : {k : ℕ} {s t : ℕ → Bool} {a : ℕ} → Contains g t s → Contains g s t → Named g k s a → Named g k t a
  named_same into out p = record {
    is_radio = p.is_radio;
    in_set = into _ p.is_radio p.in_set;
    level = p.level;
    lowest = λ w q e l. p.lowest w
        (out w l q) e l;
  }

  -- ---- parents

  pub parent_unique : {s : ℕ → Bool} {a b : ℕ} → Parent g s a → Parent g s b → a ≡ b
  parent_unique (inl p) (inl q) =
      let into = p.smallest q.level q.set q.is_node q.strict in
      let out = q.smallest p.level p.set p.is_node p.strict in
      let same : p.level ≡ q.level = le_antisymm (q.is_node.largest p.level (core_set_same into out p.is_node.core))
      (p.is_node.largest q.level (core_set_same out into q.is_node.core)) in
      named_unique (rw same at (named_same into out p.named)) q.named
  parent_unique (inl p) (inr q) = absurd (q.none p.level p.set p.is_node p.strict)
  parent_unique (inr p) (inl q) = absurd (p.none q.level q.set q.is_node q.strict)
  parent_unique (inr p) (inr q) = p.is_root ∙ sym q.is_root
