-- The shell tree: by its sets, and worked out.
--   CoreSet g k s       the set s is a connected core at level k
--   NodeSet g k s       document 01: a node stands for the set s, at the largest k where it occurs
--   Named g k s v        v is the name of that node: the lowest radio of number k in s
--   Parent g s p         p names the smallest node set strictly containing s, else the root
--   IsNode g x          the record x is a node of the shell tree, other than the root
--   IsTree g xs         xs is the answer: the root, then the nodes, by level and then name ascending
--   NodeName g v x      x is the name of the node whose shell has v
--   tree g, node_name    the same, worked out
-- That the tree worked out is the one defined by sets, and the only one, is `tree_iff` in proofs/Trees/Unique.antt; of names it
-- is `node_name_iff` there. Definitions only.
use Rattle.std.specs.Prelude.{◌≡◌, ◌⊎◌, ◌↔◌, ◌&&◌, ◌∷◌, ◌≤◌, ◌<◌}
use Rattle.lists.specs.{Kit.{Bool, true, false, cond, List, [], map, flat_map, ListAsMemᴰ, ℕ, zero, suc, eqb}, Lists.{range}}
use Rattle.lists.specs.{Lists.{filter, head_or}}
use Rattle.mesh.specs.{Graph.{Graph, radios}, Cores.{number}, Connected.{InCore, core_of}, declared.Node.{Node}}

-- document 01: the root's name, and its parent
abbrev pub root_name : ℕ
root_name = 65535

-- document 01: a node record
abbrev pub node : (name level parent : ℕ) → Node
node a b c = record { name = a; level = b; parent = c }

-- document 01: the root, name 65,535, level 0, parent 65,535
abbrev pub root : Node
root = node root_name 0 root_name

-- ---- by sets

-- a set that is a connected core at level k
pub record CoreSet (g : Graph) (k : ℕ) (set : ℕ → Bool) : Type 0 where
  pub radio : ℕ
  pub is_radio : radio < g.n
  pub level : k ≤ number g radio
  pub reaches : (w : ℕ) → w < g.n → (set w ≡ true) ↔ InCore g radio k w

-- document 01: one node stands for each different set, at the largest k where it occurs, for k from 1 up
pub record NodeSet (g : Graph) (k : ℕ) (set : ℕ → Bool) : Type 0 where
  pub positive : 1 ≤ k
  pub core : CoreSet g k set
  pub largest : (j : ℕ) → CoreSet g j set → j ≤ k

-- document 01: its shell is its radios of that number, and its name is the lowest of them
pub record Named (g : Graph) (k : ℕ) (set : ℕ → Bool) (name : ℕ) : Type 0 where
  pub is_radio : name < g.n
  pub in_set : set name ≡ true
  pub level : number g name ≡ k
  pub lowest : (w : ℕ) → set w ≡ true → number g w ≡ k → w < g.n → name ≤ w

abbrev pub Contains : Graph → (outer inner : ℕ → Bool) → Type 0
Contains g t s = (w : ℕ) → w < g.n → s w ≡ true → t w ≡ true

pub record StrictlyContains (g : Graph) (outer inner : ℕ → Bool) : Type 0 where
  pub contains : Contains g outer inner
  pub extra : ℕ
  pub is_radio : extra < g.n
  pub in_outer : outer extra ≡ true
  pub not_inner : inner extra ≡ false

-- the smallest node set that strictly contains s
pub record ParentSet (g : Graph) (s : ℕ → Bool) (name : ℕ) : Type 0 where
  pub level : ℕ
  pub set : ℕ → Bool
  pub is_node : NodeSet g level set
  pub strict : StrictlyContains g set s
  pub smallest : (k : ℕ) (t : ℕ → Bool) → NodeSet g k t → StrictlyContains g t s → Contains g t set
  pub named : Named g level set name

-- no node set strictly contains s: the root
pub record RootParent (g : Graph) (s : ℕ → Bool) (name : ℕ) : Type 0 where
  pub is_root : name ≡ root_name
  pub none : (k : ℕ) (t : ℕ → Bool) → NodeSet g k t → StrictlyContains g t s → ⊥

-- document 01: a node's parent is the smallest node set strictly containing its own, else the root
abbrev pub Parent : Graph → (s : ℕ → Bool) → (name : ℕ) → Type 0
Parent g s p = ParentSet g s p ⊎ RootParent g s p

-- a node other than the root
pub record IsNode (g : Graph) (x : Node) : Type 0 where
  pub set : ℕ → Bool
  pub is_node : NodeSet g x.level set
  pub named : Named g x.level set x.name
  pub under : Parent g set x.parent

-- document 01: by level and then name ascending
abbrev pub NodeBefore : (x y : Node) → Type 0
NodeBefore x y = (x.level < y.level) ⊎ ((x.level ≡ y.level) × (x.name < y.name))

abbrev pub NodesAscending : List Node → Type 0
NodesAscending [] = Unit {0}
NodesAscending (x ∷ xs) = ((y : Node) → ListAsMemᴰ y xs → NodeBefore x y) × NodesAscending xs

-- document 01: the shell tree. The root, and each node once, by level and then name ascending
pub record IsTree (g : Graph) (xs : List Node) : Type 0 where
  pub others : List Node
  pub starts : xs ≡ root ∷ others
  pub ordered : NodesAscending others
  pub exactly : (x : Node) → ListAsMemᴰ x others ↔ IsNode g x

-- document 01: a radio's node name. The root's shell is the radios with number 0
pub record NodeName (g : Graph) (v name : ℕ) : Type 0 where
  pub at_root : number g v ≡ 0 → name ≡ root_name
  pub elsewhere :
      (set : ℕ → Bool) → NodeSet g (number g v) set → set v ≡ true → Named g (number g v) set name

-- ---- worked out

-- document 01: shell. The radios of number k in the connected core of v at k
unfoldable pub shell : Graph → (v k : ℕ) → List ℕ
shell g v k = let num = number g in filter (λ x. eqb (num x) k) (core_of g v k)

-- a radio's node name, worked out
unfoldable pub node_name : Graph → (v : ℕ) → ℕ
node_name g v = let k = number g v in cond (eqb k 0) root_name (head_or root_name (shell g v k))

-- the name of the nearest connected core of v below level k that has a shell
unfoldable pub parent_name : Graph → (v k : ℕ) → ℕ
parent_name g v zero = root_name
parent_name g v (suc zero) = root_name
parent_name g v (suc (suc k)) = let rest = parent_name g v (suc k) in head_or rest (shell g v (suc k))

-- level k: the radios of number k that name their own node
unfoldable pub nodes_at : Graph → (k : ℕ) → List Node
nodes_at g k =
    let num = number g in
    map (λ v. node v k (parent_name g v k)) (filter (λ v. eqb (num v) k && eqb (node_name g v) v) (radios g))

-- the shell tree, worked out
unfoldable pub tree : Graph → List Node
tree g = root ∷ flat_map (nodes_at g) (range 1 g.n)

-- each radio's node name, by radio
unfoldable pub node_names : Graph → List ℕ
node_names g = map (node_name g) (radios g)
