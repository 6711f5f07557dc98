-- The texts that the program `site` prints, as bytes.
--   radios_line word rs    a word, and a list of radios
--   link_line a b          the line of a link
--   pair_lines xs          a line for each link of a table of links
--   node_line x, node_lines xs   the line of a node of the shell tree: name, level, parent; a line for each
--   tree_text g            the shell tree: its nodes, then each radio's node
--   accepted_line n        what is said of a site that nothing is wrong with
--   TextBy                a text in front of a buffer, or the refusal
-- Numbers, sheet, script and image are the replay program's line and what their calls write. Definitions only.
use Rattle.std.specs.Prelude.{◌≡◌, ◌∷◌, ◌++◌, Result, Ok, Err}
use Rattle.lists.specs.Kit.{List, [], map, ℕ, zero, suc}
use Rattle.text.specs.{Text.{bytes_of, decimal, printed_line}, Print.{buffer_at, Puts}}
use Rattle.mesh.specs.{Graph.{Graph}, Tree.{tree, node_names}, declared.Node.{Node}}
use Rattle.calls.specs.{Answers.{call_number}, declared.Refusal.{Refusal}}

-- a word, then the radios
unfoldable pub radios_line : (word radios : List ℕ) → List ℕ
radios_line w rs = printed_line w (map decimal rs)

-- a link, lower radio first
abbrev pub link_line : (a b : ℕ) → List ℕ
link_line a b = printed_line (bytes_of "link") (decimal a ∷ decimal b ∷ [])

-- a line for each link, two entries each; an entry alone has none
unfoldable pub pair_lines : (entries : List ℕ) → List ℕ
pair_lines [] = []
pair_lines (a ∷ []) = []
pair_lines (a ∷ b ∷ xs) = link_line a b ++ pair_lines xs

-- the line of a node
unfoldable pub node_line : Node → List ℕ
node_line x = printed_line (bytes_of "node") (decimal x.name ∷ decimal x.level ∷ decimal x.parent ∷ [])

-- a line for each node
unfoldable pub node_lines : List Node → List ℕ
node_lines [] = []
node_lines (x ∷ xs) = node_line x ++ node_lines xs

-- the nodes, then each radio's node
unfoldable pub tree_text : Graph → List ℕ
tree_text g = node_lines (tree g) ++ radios_line (bytes_of "nodes") (node_names g)

-- nothing is wrong with a site of n radios
unfoldable pub accepted_line : (n : ℕ) → List ℕ
accepted_line n = bytes_of "0 accepted: a site of " ++ (decimal n ++ bytes_of " radios\n")

-- the length of the text
abbrev pub text_length : Result ℕ Refusal → ℕ
text_length (Ok k) = k
text_length (Err r) = 0

-- the text goes in front of the buffer `old`, which is `now` after; what does not fit is left out, and counted
pub record TextAccepted (text old : List ℕ) (r : Result ℕ Refusal) (now : List ℕ) : Type 0 where
  pub number : call_number r ≡ 0
  pub puts : Puts (buffer_at old 0) text (buffer_at now (text_length r))

-- refused by q: the buffer keeps its content
pub record TextRefused (q : ℕ) (old : List ℕ) (r : Result ℕ Refusal) (now : List ℕ) : Type 0 where
  pub number : call_number r ≡ q
  pub lent : now ≡ old

-- the text, or the refusal
unfoldable pub TextBy : (refusal : ℕ) → (text old : List ℕ) → Result ℕ Refusal → (now : List ℕ) → Type 0
TextBy zero text old r now = TextAccepted text old r now
TextBy (suc q) text old r now = TextRefused (suc q) old r now
