-- The shell tree where its nodes are kept as three tables, and not as a list of nodes.
--   Lists                   names, levels and parents of nodes, and the answer table
--   with_front xs ys s      the lists s with the nodes xs and the radios' names ys in front
--   Filled, tables_outcome  what a call over the tables comes to
--   TablesContract          document 01: the shell tree, its nodes as three tables: result and lists are that outcome
--   columns xs w            the columns of the list of nodes xs, as three tables, and the answer table w
--   node_in a b c i         node i of the names a, the levels b and the parents c
--   nodes_in a b c k        the first k of them
-- The columns of the list that a call writes are such tables, and such tables give the list of nodes: proofs/ThreeTables.antt. Definitions
-- only.
use Rattle.std.specs.Prelude.{◌≡◌, ◌∷◌, ◌++◌}
use Rattle.lists.specs.{Kit.{List, [], map, ℕ, zero, suc, min, length, get_or}, Lists.{overwrite}}
use Rattle.mesh.specs.{Tables.{Tables, graph_in}, Sound.{sound}, Tree.{node, tree, node_names}, declared.Node.{Node}}
use Rattle.calls.specs.{Questions.{lengths_of, by_number}, Outcomes.{value}, Chains.{tree_refusal}, declared.Value.{Value}}

pub record Lists : Type 0 where
  pub names : List ℕ
  pub levels : List ℕ
  pub parents : List ℕ
  pub answer : List ℕ

abbrev pub lists : (names levels parents answer : List ℕ) → Lists
lists a b c d = record { names = a; levels = b; parents = c; answer = d }

-- later entries keep their content
unfoldable pub with_front : (nodes : List Node) → (names : List ℕ) → Lists → Lists
with_front xs ys s =
    lists
    (overwrite (map (λ (x : Node). x.name) xs) s.names)
    (overwrite (map (λ (x : Node). x.level) xs) s.levels)
    (overwrite (map (λ (x : Node). x.parent) xs) s.parents)
    (overwrite ys s.answer)

-- how many nodes the three tables have place for
unfoldable pub places : Lists → ℕ
places s = min (min (length s.names) (length s.levels)) (length s.parents)

-- what the call over the tables comes to: the reply, and the four tables after it
pub record Filled : Type 0 where
  pub reply : Value
  pub lists : Lists

abbrev pub filled : Value → Lists → Filled
filled r u = record { reply = r; lists = u }

-- `room` is how many places the caller has for nodes beside the three tables
unfoldable pub tables_outcome : (n room : ℕ) → Tables → (before : Lists) → Filled
tables_outcome n room t s =
    let g = graph_in n t.links in
    by_number
    (tree_refusal n (lengths_of t) (min room (places s)) (length s.answer) (sound n t))
    (filled (value 0 (length (tree g))) (with_front (tree g) (node_names g) s))
    (λ q. filled (value q 0) s)

unfoldable pub TablesContract : (n room : ℕ) → Tables → (before : Lists) → Value → (after : Lists) → Type 0
TablesContract n room t s r u = filled r u ≡ tables_outcome n room t s

-- ---- the list of nodes and its columns

unfoldable pub columns : (nodes : List Node) → (answer : List ℕ) → Lists
columns xs w = lists (map (λ (x : Node). x.name) xs) (map (λ (x : Node). x.level) xs) (map (λ (x : Node). x.parent) xs) w

-- ---- the nodes of three tables as records

abbrev pub node_in : (names levels parents : List ℕ) → ℕ → Node
node_in a b c i = node (get_or a i 0) (get_or b i 0) (get_or c i 0)

unfoldable pub nodes_in : (names levels parents : List ℕ) → (count : ℕ) → List Node
nodes_in a b c zero = []
nodes_in a b c (suc k) = nodes_in a b c k ++ node_in a b c k ∷ []
