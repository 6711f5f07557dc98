-- The shell tree that is worked out is document 01's: `tree_right`. That the names by radio are right is `node_name_right` in
-- ShellNames.antt.
-- In order: entries of maps and of joined lists, core numbers are at most n, the nodes of a level, their order, the tree.
use Rattle.std.specs.Prelude.{◌≡◌, ◌⊎◌, ◌&&◌, ◌∷◌, ◌++◌, ◌≤◌, ◌<◌}
use Rattle.lists.{specs.Kit.{refl, ap, inl, inr, Bool, List, [], map, flat_map, ListAsMemᴰ, List·Memᴰ·head, List·Memᴰ·tail}}
use Rattle.lists.{specs.Kit.{List·Memᴰ·append-cases, ℕ, zero, suc, arith, eqb, length, eqb-true, eq-eqb}, specs.Lists.{range, filter, member}}
use Rattle.lists.{specs.Lists.{Ascending}, proofs.Tests.{bit_one, and_left, and_right, and_both}, proofs.Range.{in_range, range_in}, proofs.Filter.{in_filter}}
use Rattle.lists.{proofs.Filter.{filter_in}, proofs.Ascending.{ascending_range, ascending_filter}, proofs.Map.{mem_map, map_mem, mem_flat_map, flat_map_mem}}
use Rattle.mesh.specs.{Graph.{Graph, radios}, Cores.{number, cores, cores_from, depth, peeled}, declared.Node.{Node}, Tree.{node, IsNode, NodeBefore}}
use Rattle.mesh.specs.{Tree.{NodesAscending, IsTree, node_name, parent_name, nodes_at, tree}}
use Rattle.mesh.proofs.Trees.{NodeSets.{core_has, core_has_self, node_set_of_radio, named_unique, parent_unique}, ShellNames.{node_name_named}}
use Rattle.mesh.proofs.Trees.{ShellNames.{parent_name_right}}

-- ---- core numbers are at most n

depth_cores_from : (f k : ℕ) (g : Graph) (xs : List ℕ) (v : ℕ) → depth (cores_from f k g xs) v ≤ f
unfolding cores_from depth
depth_cores_from zero k g xs v = omega arith
depth_cores_from (suc f) k g [] v = omega arith
depth_cores_from (suc f) k g (x ∷ xs) v =
    let core = peeled (length (x ∷ xs)) g k (x ∷ xs) in omega (arith, bit_one (member v core), depth_cores_from f (suc k) g core v)

pub number_le_n : (g : Graph) (v : ℕ) → number g v ≤ g.n
unfolding number cores
number_le_n g v = depth_cores_from g.n 1 g (radios g) v

-- ---- order

nodes_ascending_append : (xs ys : List Node) → NodesAscending xs → NodesAscending ys
    → ((x y : Node) → ListAsMemᴰ x xs → ListAsMemᴰ y ys → NodeBefore x y) → NodesAscending (xs ++ ys)
nodes_ascending_append [] ys a b h = b
nodes_ascending_append (x ∷ xs) ys a b h = (
  λ y m. pick y (List·Memᴰ·append-cases xs m),
  nodes_ascending_append xs ys a.1 b (λ z y m n. h z y (List·Memᴰ·tail m) n),
)
  where
    pick : (y : Node) → ListAsMemᴰ y xs ⊎ ListAsMemᴰ y ys → NodeBefore x y
    pick y (inl m) = a.0 y m
    pick y (inr m) = h x y (List·Memᴰ·head refl) m

nodes_ascending_map : (k : ℕ) (p : ℕ → ℕ) (vs : List ℕ) → Ascending vs → NodesAscending (map (λ v. node v k (p v)) vs)
nodes_ascending_map k p [] a = tt
nodes_ascending_map k p (v ∷ vs) a = (
  λ y m. let r = mem_map (λ w. node w k (p w)) y vs m in inr (rw r.2 (refl, a.0 r.0 r.1)),
  nodes_ascending_map k p vs a.1,
)

-- ---- the nodes of a level

module _ (g : Graph) where
  -- the radios of number k that name their own node
  abbrev own : (k v : ℕ) → Bool
  own k v = eqb (number g v) k && eqb (node_name g v) v

  -- a node, by its name and level
  record OwnNode (x : Node) : Type 0 where
    is_radio : x.name < g.n
    number_is : number g x.name ≡ x.level
    own_name : node_name g x.name ≡ x.name
    parent_is : x.parent ≡ parent_name g x.name x.level

  nodes_at_in : (k : ℕ) (x : Node) → ListAsMemᴰ x (nodes_at g k) → OwnNode x × (x.level ≡ k)
  unfolding nodes_at radios
  nodes_at_in k x m =
      let r = mem_map (λ v. node v k (parent_name g v k)) x (filter (own k) (range 0 g.n)) m in
      let q = in_filter (own k) (range 0 g.n) r.0 r.1 in
      rw r.2 (
        record {
          is_radio = omega (arith, range_in 0 g.n r.0 q.0);
          number_is = eqb-true (number g r.0) k (and_left (eqb (number g r.0) k) (eqb (node_name g r.0) r.0) q.1);
          own_name = eqb-true (node_name g r.0) r.0 (and_right (eqb (number g r.0) k) (eqb (node_name g r.0) r.0) q.1);
          parent_is = refl;
        },
        refl,
      )

  in_nodes_at : (x : Node) → OwnNode x → ListAsMemᴰ x (nodes_at g x.level)
  unfolding nodes_at radios
  in_nodes_at x a =
      let v = x.name in
      let k = x.level in
      map_mem (λ w. node w k (parent_name g w k)) x v (filter (own k) (range 0 g.n))
      (filter_in (own k) (range 0 g.n) v (in_range 0 g.n v (omega arith) (omega (arith, a.is_radio)))
      (and_both (eqb (number g v) k) (eqb (node_name g v) v) (eq-eqb (number g v) k a.number_is) (eq-eqb (node_name g v) v a.own_name)))
      (ap (λ (p : ℕ). node v k p) a.parent_is)

  own_node_is : (x : Node) → 1 ≤ x.level → OwnNode x → IsNode g x
  own_node_is x h a =
      let v = x.name in
      let k = x.level in
      let has = core_has_self g v k a.is_radio in
      let nd = node_set_of_radio g v a.is_radio a.number_is h in
      record {
        set = core_has g v k;
        is_node = nd;
        named = rw a.own_name at (node_name_named g v a.is_radio a.number_is nd has);
        under = rw a.parent_is (parent_name_right g v a.is_radio a.number_is nd.core has);
      }

  is_node_own : (x : Node) → IsNode g x → OwnNode x
  is_node_own x nd =
      let l = nd.named.is_radio in
      let e = nd.named.level in
      record {
        is_radio = l;
        number_is = e;
        own_name = named_unique g (node_name_named g x.name l e nd.is_node nd.named.in_set) nd.named;
        parent_is = parent_unique g nd.under (parent_name_right g x.name l e nd.is_node.core nd.named.in_set);
      }

  -- ---- the tree

  nodes_ascending_at : (k : ℕ) → NodesAscending (nodes_at g k)
  unfolding nodes_at radios
  nodes_ascending_at k =
      nodes_ascending_map k (λ v. parent_name g v k) (filter (own k) (range 0 g.n)) (ascending_filter (own k) (range 0 g.n) (ascending_range 0 g.n))

  nodes_ascending_from : (i m : ℕ) → NodesAscending (flat_map (nodes_at g) (range i m))
  unfolding flat_map range
  nodes_ascending_from i zero = tt
  nodes_ascending_from i (suc m) =
      nodes_ascending_append (nodes_at g i) (flat_map (nodes_at g) (range (suc i) m)) (nodes_ascending_at i) (nodes_ascending_from (suc i) m) (λ x y a b.
      let r = mem_flat_map (nodes_at g) y (range (suc i) m) b in
      inl (omega (arith, (nodes_at_in i x a).1, (nodes_at_in r.0 y r.2).1, range_in (suc i) m r.0 r.1)))

  pub tree_right : IsTree g (tree g)
  unfolding tree
  tree_right = record {
    others = flat_map (nodes_at g) (range 1 g.n);
    starts = refl;
    ordered = nodes_ascending_from 1 g.n;
    exactly = λ x. (
      λ m. let r = mem_flat_map (nodes_at g) x (range 1 g.n) m in
          let q = nodes_at_in r.0 x r.2 in own_node_is x (omega (arith, q.1, range_in 1 g.n r.0 r.1)) q.0,
      λ nd. let a = is_node_own x nd in
          flat_map_mem (nodes_at g) x x.level (range 1 g.n)
          (in_range 1 g.n x.level nd.is_node.positive (omega (arith, a.number_is, number_le_n g x.name))) (in_nodes_at x a),
    );
  }
