-- The shell tree over the list of nodes and the answer table.
--   Lists                   the list of nodes, and the answer table
--   with_front xs ys s      the lists s with the nodes xs and the radios' names ys in front
--   entries_set x ws t      the table t with x at each place that ws lists
--   Stand                   a level on its way: the radios left, the lists, how many nodes stand in them
--   CoreNamed              a flood from v, and v written for each radio that came in
--   NodeTaken              a node behind the others: radio v at level k
--   ShellSet               the radios with number k as a set
--   LevelFrom              the radios with number k or more stand in the order from a place on
--   LevelReady, LevelsReady  what one level, and all of them, want of tables, sets and lengths
--   own g k v               v has number k and names its own node
--   covered g k v w         the connected core of w at level k has a radio of number k below v
--   name_before g k w       the name that w has before level k: of its nearest node below k
--   present g k v w         the name that w has at level k before v
--   nodes_before g k v      the root and the nodes that come before v at level k
--   Growing                 the lists hold these nodes and names in front
--   Levelled, Treed         what one level, and all of them, leave for sound tables
--   TreeWritten            the whole tree in front
-- Definitions only.
use Rattle.std.specs.Prelude.{◌≡◌, ◌&&◌, ◌∷◌, ◌++◌, ◌+◌, ◌*◌, ◌≤◌, ◌<◌}
use Rattle.lists.specs.{Kit.{Bool, true, not, cond, List, [], map, flat_map, ℕ, zero, suc, min, ltb, leb, eqb, length}}
use Rattle.lists.specs.{Kit.{get_or, take, set}, Facts.{folded}, Lists.{range, filter, head_or, overwrite, In, EntriesBelow}}
use Rattle.mesh.specs.{Limits.{max_radios, max_neighbours}, Graph.{Graph, radios}, Cores.{number}, Tables.{tables, graph_in}}
use Rattle.mesh.specs.{Tree.{root_name, root, node, shell, node_name, parent_name, nodes_at, tree, node_names}, declared.Node.{Node}}
use Rattle.rows.specs.Sets.{in_set}
use Rattle.soundness.specs.Checks.{fits_sound}
use Rattle.floods.specs.Floods.{LevelSet, FloodDone}

pub record Lists : Type 0 where
  pub nodes : List Node
  pub answer : List ℕ

abbrev pub lists : (nodes : List Node) → (answer : List ℕ) → Lists
lists a b = record { nodes = a; answer = b }

-- later entries keep their content
unfoldable pub with_front : (nodes : List Node) → (names : List ℕ) → Lists → Lists
with_front xs ys s = lists (overwrite xs s.nodes) (overwrite ys s.answer)

-- there are n + 1 places for nodes, and n for radios
pub record Room (n : ℕ) (s : Lists) : Type 0 where
  pub nodes : n + 1 ≤ length s.nodes
  pub answer : n ≤ length s.answer

-- ---- one radio

-- a level on its way: the set of radios left, the lists, and the count of nodes in them
pub record Stand : Type 0 where
  pub left : List ℕ
  pub lists : Lists
  pub count : ℕ

abbrev pub stand : (left : List ℕ) → Lists → (count : ℕ) → Stand
stand a b c = record { left = a; lists = b; count = c }

unfoldable pub entries_set : (x : ℕ) → (places table : List ℕ) → List ℕ
entries_set x ws t = folded (λ w now. set now w x) ws t

-- s and a are the set and the answer table before, t and b after
pub record CoreNamed (ts : List ℕ) (v : ℕ) (s a t b : List ℕ) : Type 0 where
  pub came : ℕ
  pub queue : List ℕ
  pub flooded : FloodDone ts v s came t queue
  pub named : b ≡ entries_set v (take came queue) a

-- a node comes behind the others: v, the level and the name that v had
pub record NodeTaken (ts : List ℕ) (k v : ℕ) (before after : Stand) : Type 0 where
  pub nodes : after.lists.nodes ≡ set before.lists.nodes before.count (node v k (get_or before.lists.answer v 0))
  pub core : CoreNamed ts v before.left before.lists.answer after.left after.lists.answer
  pub counted : after.count ≡ before.count + 1

-- ---- the radios of a level

-- x is a radio with number k
unfoldable pub has_number : (numbers : List ℕ) → (k x : ℕ) → Bool
has_number ns k x = ltb x (length ns) && eqb (get_or ns x 0) k

pub record ShellSet (ns : List ℕ) (k : ℕ) (ws : List ℕ) : Type 0 where
  pub long : length ws ≡ 8
  pub bits : (x : ℕ) → in_set ws x ≡ has_number ns k x

-- along the order, which holds every radio, the numbers never fall; before place i they are below k, and from it on not
pub record LevelFrom (ns order : List ℕ) (k i : ℕ) : Type 0 where
  pub small : length ns ≤ max_radios
  pub radio : EntriesBelow (length ns) order
  pub all : (x : ℕ) → x < length ns → In x order
  pub rises : (j m : ℕ) → j ≤ m → m < length order → get_or ns (get_or order j 0) 0 ≤ get_or ns (get_or order m 0) 0
  pub within : i ≤ length order
  pub below : (j : ℕ) → j < i → get_or ns (get_or order j 0) 0 < k
  pub above : (j : ℕ) → i ≤ j → j < length order → k ≤ get_or ns (get_or order j 0) 0

-- `queue` and `answer` are lengths
pub record LevelReady (ns : List ℕ) (k : ℕ) (shell set : List ℕ) (queue answer count : ℕ) : Type 0 where
  pub small : length ns ≤ max_radios
  pub named : length ns ≤ answer
  pub positive : 1 ≤ k
  pub words : length set ≡ 8
  pub level : LevelSet ns k set
  pub own : ShellSet ns k shell
  pub room : max_radios ≤ queue
  pub few : count ≤ max_radios * k

pub record LevelsReady (ns order : List ℕ) (top answer : ℕ) : Type 0 where
  pub named : length ns ≤ answer
  pub low : top ≤ max_neighbours
  pub start : LevelFrom ns order 0 0

-- ---- the tree on its way

unfoldable pub own : Graph → (k v : ℕ) → Bool
own g k v = eqb (number g v) k && eqb (node_name g v) v

unfoldable pub covered : Graph → (k v w : ℕ) → Bool
covered g k v w = leb k (number g w) && ltb (head_or g.n (shell g w k)) v

unfoldable pub name_before : Graph → (k w : ℕ) → ℕ
name_before g k w = parent_name g w (min k (suc (number g w)))

unfoldable pub present : Graph → (k v w : ℕ) → ℕ
present g k v w = cond (covered g k v w) (head_or root_name (shell g w k)) (name_before g k w)

-- the nodes of level k whose names are below v
unfoldable pub nodes_within : Graph → (k v : ℕ) → List Node
nodes_within g zero v = []
nodes_within g (suc k) v = map (λ w. node w (suc k) (parent_name g w (suc k))) (filter (own g (suc k)) (range 0 v))

unfoldable pub nodes_before : Graph → (k v : ℕ) → List Node
nodes_before g zero v = root ∷ []
nodes_before g (suc k) v = (root ∷ flat_map (nodes_at g) (range 1 k)) ++ nodes_within g (suc k) v

pub record Growing (g : Graph) (k v : ℕ) (old new : Lists) (c : ℕ) : Type 0 where
  pub counted : c ≡ length (nodes_before g k v)
  pub front : new ≡ with_front (nodes_before g k v) (map (present g k v) (radios g)) old

-- the set has the radios with number k or more that have not got their name of level k
pub record Marks (g : Graph) (k v : ℕ) (s : List ℕ) : Type 0 where
  pub long : length s ≡ 8
  pub bits : (w : ℕ) → in_set s w ≡ ((ltb w g.n && leb k (number g w)) && not (covered g k v w))

-- ---- for sound tables

-- level k, where the lists hold what comes before it
unfoldable pub Levelled : (links numbers : List ℕ) → (k : ℕ) → (before : Lists) → (c : ℕ) → (after : Lists) → (r : ℕ) → Type 0
Levelled ts ns k s c t r =
    let g = graph_in (length ns) ts in
    (order : List ℕ) → fits_sound (length ns) (tables ts ns order) ≡ true → (old : Lists) → Room (length ns) old → Growing g k 0 old s c
    → Growing g (k + 1) 0 old t r

-- all levels to the top, where the lists hold the root alone
unfoldable pub Treed : (links numbers : List ℕ) → (top : ℕ) → (before after : Lists) → (r : ℕ) → Type 0
Treed ts ns top s t r =
    let g = graph_in (length ns) ts in
    (order : List ℕ) → fits_sound (length ns) (tables ts ns order) ≡ true → (old : Lists) → Room (length ns) old → Growing g 1 0 old s 1
    → Growing g (top + 1) 0 old t r

-- the whole tree in front
pub record TreeWritten (g : Graph) (before : Lists) (r : ℕ) (after : Lists) : Type 0 where
  pub count : r ≡ length (tree g)
  pub front : after ≡ with_front (tree g) (node_names g) before
