-- From three tables to the list of nodes: where the tables meet their contract, the list filled from them meets the public one.
--   nodes_overwritten   three tables with nodes in front give these nodes
--   length_tree      a tree has at most n + 1 nodes
--   lent_count       the count fits the list and the tables
--   lent_tree        TablesContract of blank tables, and then TreeContract
--   columns_tree     TreeContract, and then TablesContract of the columns of the list
use Rattle.std.specs.Prelude.{◌≡◌, ◌⊎◌, ◌&&◌, ◌∷◌, ◌++◌, ◌+◌, ◌≤◌, ◌<◌}
use Rattle.lists.{specs.Kit.{refl, sym, ap, ap₂, subst, ◌∙◌, inl, inr, Bool, true, false, List, [], map, ℕ, zero, suc}}
use Rattle.lists.{specs.Kit.{min, arith, leb, length, get_or, take, drop, replicate, length-replicate, List·getD-append, List·getD-map, take-suc}}
use Rattle.lists.{specs.Kit.{take-length, leb-true, leb-false, le-leb, lt-leb}, specs.Lists.{overwrite}, proofs.Tests.{bool_cases, and_left}}
use Rattle.lists.{proofs.Map.{length-map, map_append, drop_map}}
use Rattle.mesh.{specs.Limits.{max_radios}, specs.Graph.{Graph}, specs.Tables.{Tables, graph_in}, specs.Sound.{sound}, specs.Tree.{node, tree, node_names}}
use Rattle.mesh.{specs.declared.Node.{Node}, proofs.Trees.Laws.{number_le_n}}
use Rattle.calls.{specs.Questions.{ask, Lengths, lengths_of, size_good, site_lengths, answer_length, lent_refusal, site_refusal}}
use Rattle.calls.{specs.Outcomes.{value, Listing, listing, tree_outcome}, specs.CallContracts.{TreeContract}, specs.declared.Value.{Value}}
use Rattle.calls.{proofs.QuestionLaws.{ask_later, size_good_true, nodes_length_true}, proofs.ChainLaws.{site_zero}}
use Rattle.tree.specs.ThreeTables.{Lists, lists, with_front, places, Filled, filled, tables_outcome, TablesContract, columns, nodes_in}
use Rattle.tree.proofs.NodeLists.{nodes_before_tree, length_nodes_before}
use Rattle.calls.specs.{Chains.{tree_refusal, nodes_length}, Questions.{by_number}}

-- ---- nodes in front of three tables

abbrev nowhere : Node
nowhere = node 0 0 0

get_d_front_map : (f : Node → ℕ) (xs : List Node) (d : List ℕ) (i : ℕ) → f nowhere ≡ 0 → i < length xs → get_or (overwrite (map f xs) d) i 0 ≡ f
    (get_or xs i nowhere)
unfolding overwrite
get_d_front_map f xs d i e l =
    List·getD-append (map f xs) (drop (length (map f xs)) d) 0 i (omega (arith, length-map f xs))
    ∙ ap (get_or (map f xs) i) (sym e) ∙ List·getD-map f xs i nowhere

node_same : (x : Node) {i j k : ℕ} → i ≡ x.name → j ≡ x.level → k ≡ x.parent → node i j k ≡ x
node_same x {i} {j} {k} p q r = ap (λ (a : ℕ). node a j k) p ∙ ap (λ (a : ℕ). node x.name a k) q ∙ ap (λ (a : ℕ). node x.name x.level a) r

module _ (xs : List Node) (a b c : List ℕ) where
  abbrev front_nodes : (k : ℕ) → List Node
  front_nodes k = nodes_in (overwrite (map (λ (x : Node). x.name) xs) a) (overwrite (map (λ (x : Node). x.level) xs) b)
      (overwrite (map (λ (x : Node). x.parent) xs) c) k

  front_nodes_take : (k : ℕ) → k ≤ length xs → front_nodes k ≡ take k xs
  unfolding nodes_in
  front_nodes_take zero l = refl
  front_nodes_take (suc k) l =
      ap₂ (λ (ys : List Node) (z : Node). ys ++ z ∷ []) (front_nodes_take k (omega arith))
      (node_same (get_or xs k nowhere)
      (get_d_front_map (λ (x : Node). x.name) xs a k refl (omega arith))
      (get_d_front_map (λ (x : Node). x.level) xs b k refl (omega arith))
      (get_d_front_map (λ (x : Node). x.parent) xs c k refl (omega arith)))
      ∙ sym (take-suc xs k nowhere (omega arith))

  pub nodes_overwritten : front_nodes (length xs) ≡ xs
  nodes_overwritten = front_nodes_take (length xs) (omega arith) ∙ take-length xs

pub length_tree : (g : Graph) → length (tree g) ≤ g.n + 1
length_tree g = omega (arith, ap length (nodes_before_tree g g.n (omega arith) (λ v l. number_le_n g v)), length_nodes_before g (suc g.n) 0 (omega arith))

-- ---- the questions: tables of k places are long enough for any site

nodes_length_min : (n m k : ℕ) → n + 1 ≤ k → nodes_length n (min m k) ≡ nodes_length n m
nodes_length_min n m k h = by (bool_cases (leb (n + 1) m))
  where
    by : (leb (n + 1) m ≡ true) ⊎ (leb (n + 1) m ≡ false) → leb (n + 1) (min m k) ≡ leb (n + 1) m
    by (inl e) = le-leb (n + 1) (min m k) (omega (arith, leb-true (n + 1) m e)) ∙ sym e
    by (inr e) = lt-leb (n + 1) (min m k) (omega (arith, leb-false (n + 1) m e)) ∙ sym e

tree_refusal_min : (n m w k : ℕ) (l : Lengths) (s : Bool) → max_radios + 1 ≤ k → tree_refusal n l (min m k) w s ≡ tree_refusal n l m w s
unfolding site_refusal lent_refusal
tree_refusal_min n m w k l s h =
    ask_later 1 (size_good n) _ _ (λ p. ap (λ (b : Bool). ask 2 (site_lengths n l && (b && answer_length n w)) (ask 3 s 0))
    (nodes_length_min n m k (omega (arith, (size_good_true n p).1))))

-- ---- the answer

module _ (n k : ℕ) (enough : max_radios + 1 ≤ k) (t : Tables) (ys : List Node) (w : List ℕ) where
  abbrev pub blank : Lists
  blank = lists (replicate k 0) (replicate k 0) (replicate k 0) w

  abbrev g : Graph
  g = graph_in n t.links

  abbrev refusal : ℕ
  refusal = tree_refusal n (lengths_of t) (length ys) (length w) (sound n t)

  places_blank : places blank ≡ k
  unfolding places
  places_blank = omega (arith, length-replicate {A = ℕ} k 0)

  refusal_same : tree_refusal n (lengths_of t) (min (length ys) (places blank)) (length w) (sound n t) ≡ refusal
  refusal_same = ap (λ (j : ℕ). tree_refusal n (lengths_of t) (min (length ys) j) (length w) (sound n t)) places_blank
      ∙ tree_refusal_min n (length ys) (length w) k (lengths_of t) (sound n t) enough

  -- the nodes fit where the call is accepted
  tree_fits : refusal ≡ 0 → (length (tree g) ≤ length ys) × (length (tree g) ≤ k)
  unfolding graph_in
  tree_fits e =
      let good = (site_zero n (lengths_of t) (nodes_length n (length ys) && answer_length n (length w)) (sound n t) 0 e).0 in
      let long = nodes_length_true n (length ys) (and_left (nodes_length n (length ys)) (answer_length n (length w)) good.lent.further) in
      (omega (arith, length_tree g), omega (arith, length_tree g, good.lent.most))

  abbrev of_tables : Filled
  of_tables = tables_outcome n (length ys) t blank

  count_fits : (R : ℕ) → refusal ≡ R → (of_tables.reply.value ≤ length ys) × (of_tables.reply.value ≤ k)
  unfolding tables_outcome by_number
  count_fits zero e = rw (refusal_same ∙ e) (tree_fits e)
  count_fits (suc q) e = rw (refusal_same ∙ e) (omega arith, omega arith)

  -- what the lent list is filled with
  abbrev pub lent_from : Filled → Listing Value (List Node × List ℕ)
  lent_from o =
      listing o.reply (overwrite (nodes_in o.lists.names o.lists.levels o.lists.parents o.reply.value) ys, o.lists.answer)

  same_tree : (R : ℕ) → refusal ≡ R → lent_from of_tables ≡ tree_outcome n t ys w
  unfolding tables_outcome tree_outcome by_number sound with_front nodes_in overwrite
  same_tree zero e =
      rw (refusal_same ∙ e, e)
      (ap (λ (xs : List Node). listing (value 0 (length (tree g))) (overwrite xs ys, overwrite (node_names g) w))
      (nodes_overwritten (tree g) (replicate k 0) (replicate k 0) (replicate k 0)))
  same_tree (suc q) e = rw (refusal_same ∙ e, e)

  module _ (r : Value) (u : Lists) (h : TablesContract n (length ys) t blank r u) where
    pub lent_count : (r.value ≤ length ys) × (r.value ≤ k)
    unfolding TablesContract
    lent_count = subst (λ (o : Filled). (o.reply.value ≤ length ys) × (o.reply.value ≤ k)) (sym h) (count_fits refusal refl)

    pub lent_tree : let o = lent_from (filled r u) in TreeContract n t ys w o.reply o.lent.0 o.lent.1
    unfolding TablesContract TreeContract
    lent_tree = ap lent_from h ∙ same_tree refusal refl

-- ---- the list of nodes, and its columns

columns_overwritten : (f : Node → ℕ) (xs ys : List Node) → map f (overwrite xs ys) ≡ overwrite (map f xs) (map f ys)
unfolding overwrite
columns_overwritten f xs ys =
    map_append f xs (drop (length xs) ys)
    ∙ ap (λ (zs : List ℕ). map f xs ++ zs) (sym (drop_map f (length xs) ys) ∙ ap (λ (k : ℕ). drop k (map f ys)) (sym (length-map f xs)))

columns_front : (xs ys : List Node) (names w : List ℕ) → columns (overwrite xs ys) (overwrite names w) ≡ with_front xs names (columns ys w)
unfolding columns with_front
columns_front xs ys names w =
    rw (
      columns_overwritten (λ (x : Node). x.name) xs ys,
      columns_overwritten (λ (x : Node). x.level) xs ys,
      columns_overwritten (λ (x : Node). x.parent) xs ys,
    ) refl

module _ (n : ℕ) (t : Tables) (ys : List Node) (w : List ℕ) where
  abbrev of_list : Listing Value (List Node × List ℕ) → Filled
  of_list o = filled o.reply (columns o.lent.0 o.lent.1)

  abbrev asked : ℕ
  asked = tree_refusal n (lengths_of t) (length ys) (length w) (sound n t)

  places_columns : min (length ys) (places (columns ys w)) ≡ length ys
  unfolding places columns
  places_columns =
      omega (arith, length-map (λ (x : Node). x.name) ys, length-map (λ (x : Node). x.level) ys, length-map (λ (x : Node). x.parent) ys)

  asked_same : tree_refusal n (lengths_of t) (min (length ys) (places (columns ys w))) (length (columns ys w).answer) (sound n t) ≡ asked
  unfolding columns
  asked_same = ap (λ (j : ℕ). tree_refusal n (lengths_of t) j (length w) (sound n t)) places_columns

  same_columns : (R : ℕ) → asked ≡ R → of_list (tree_outcome n t ys w) ≡ tables_outcome n (length ys) t (columns ys w)
  unfolding tables_outcome tree_outcome by_number sound
  same_columns zero e =
      rw (asked_same ∙ e, e)
      (ap (filled (value 0 (length (tree (graph_in n t.links))))) (columns_front (tree (graph_in n t.links)) ys (node_names (graph_in n t.links)) w))
  same_columns (suc q) e = rw (asked_same ∙ e, e) refl

  pub columns_tree : (r : Value) (zs : List Node) (x : List ℕ) → TreeContract n t ys w r zs x
      → TablesContract n (length ys) t (columns ys w) r (columns zs x)
  unfolding TablesContract TreeContract
  columns_tree r zs x h = ap of_list h ∙ same_columns asked refl
