-- Document 01 decides the shell tree: `tree_iff` and `node_name_iff` say that the answer worked out is the only one.
use Rattle.std.specs.Prelude.{◌≡◌, ◌⊎◌, ◌↔◌, ◌∷◌, ◌<◌}
use Rattle.lists.specs.Kit.{refl, sym, ap, ap₂, ◌∙◌, inl, inr, List, [], ListAsMemᴰ, List·Memᴰ·head, List·Memᴰ·tail, List·Memᴰ·cases-cons}
use Rattle.lists.specs.Kit.{List·Memᴰ·not-nil, ℕ, zero, suc, arith}
use Rattle.mesh.specs.{Graph.{Graph}, Cores.{number}, declared.Node.{Node}, Tree.{root, NodeBefore, NodesAscending, IsTree, NodeName, tree}}
use Rattle.mesh.specs.{Tree.{node_name}}
use Rattle.mesh.proofs.Trees.{NodeSets.{core_has, core_has_self, node_set_of_radio, named_unique}, ShellNames.{node_name_right}, Laws.{tree_right}}

-- ---- ascending lists of nodes with the same entries are equal

node_before_asym : (x y : Node) → NodeBefore x y → NodeBefore y x → ⊥
node_before_asym x y (inl a) (inl b) = omega arith
node_before_asym x y (inl a) (inr b) = omega arith
node_before_asym x y (inr a) (inl b) = omega arith
node_before_asym x y (inr a) (inr b) = omega arith

-- every entry of xs is one of ys
abbrev NodesIn : (xs ys : List Node) → Type 0
NodesIn xs ys = (x : Node) → ListAsMemᴰ x xs → ListAsMemᴰ x ys

nodes_in_rest : (x y : Node) (xs ys : List Node) → x ≡ y → NodesAscending (x ∷ xs) → NodesIn (x ∷ xs) (y ∷ ys) → NodesIn xs ys
nodes_in_rest x y xs ys e a h z m = go (List·Memᴰ·cases-cons (h z (List·Memᴰ·tail m)))
  where
    go : (z ≡ y) ⊎ ListAsMemᴰ z ys → ListAsMemᴰ z ys
    go (inl q) = let b : NodeBefore x x = rw (q ∙ sym e) at (a.0 z m) in absurd (node_before_asym x x b b)
    go (inr n) = n

nodes_ascending_unique : (xs ys : List Node) → NodesAscending xs → NodesAscending ys → NodesIn xs ys → NodesIn ys xs → xs ≡ ys
nodes_ascending_unique [] [] a b h k = refl
nodes_ascending_unique [] (y ∷ ys) a b h k = absurd (List·Memᴰ·not-nil (k y (List·Memᴰ·head refl)))
nodes_ascending_unique (x ∷ xs) [] a b h k = absurd (List·Memᴰ·not-nil (h x (List·Memᴰ·head refl)))
nodes_ascending_unique (x ∷ xs) (y ∷ ys) a b h k =
    ap₂ {C = List Node} (λ z zs. z ∷ zs) first
    (nodes_ascending_unique xs ys a.1 b.1 (nodes_in_rest x y xs ys first a h) (nodes_in_rest y x ys xs (sym first) b k))
  where
    go : (x ≡ y) ⊎ ListAsMemᴰ x ys → (y ≡ x) ⊎ ListAsMemᴰ y xs → x ≡ y
    go (inl p) q = p
    go (inr p) (inl q) = sym q
    go (inr p) (inr q) = absurd (node_before_asym x y (a.0 y q) (b.0 x p))

    first : x ≡ y
    first = go (List·Memᴰ·cases-cons (h x (List·Memᴰ·head refl))) (List·Memᴰ·cases-cons (k y (List·Memᴰ·head refl)))

-- ---- the tree and the names

module _ (g : Graph) where
  pub is_tree_unique : {xs ys : List Node} → IsTree g xs → IsTree g ys → xs ≡ ys
  is_tree_unique p q =
      p.starts ∙ ap {B = List Node} (λ ns. root ∷ ns) (nodes_ascending_unique p.others q.others p.ordered q.ordered
      (λ x m. (q.exactly x).1 ((p.exactly x).0 m)) (λ x m. (p.exactly x).1 ((q.exactly x).0 m))) ∙ sym q.starts

  pub tree_iff : (xs : List Node) → IsTree g xs ↔ (xs ≡ tree g)
  tree_iff xs = (λ t. is_tree_unique t (tree_right g), λ e. rw e (tree_right g))

  node_name_unique_at : (v k a b : ℕ) → v < g.n → number g v ≡ k → NodeName g v a → NodeName g v b → a ≡ b
  node_name_unique_at v zero a b l e p q = p.at_root e ∙ sym (q.at_root e)
  node_name_unique_at v (suc k) a b l e p q =
      let nd = node_set_of_radio g v l refl (omega arith) in
      let has = core_has_self g v (number g v) l in
      named_unique g (p.elsewhere (core_has g v (number g v)) nd has) (q.elsewhere (core_has g v (number g v)) nd has)

  pub node_name_iff : (v : ℕ) → v < g.n → (x : ℕ) → NodeName g v x ↔ (x ≡ node_name g v)
  node_name_iff v l x = (λ p. node_name_unique_at v (number g v) x (node_name g v) l refl p (node_name_right g v l), λ e. rw e (node_name_right g v l))
