-- What a caller has of the order after a link came up (document 02, W-213): nothing before the beginning end moves.
--   before_ends a b xs   the entries of xs before the first end of the link a-b
--   BeginningKept       these stand as they stood; the entry after them is the beginning end, the lower one, with equal numbers the earlier
--   EachBegins          so it is of each link that goes up, of links taken up and down one after the other: of a batch, and of a hearing
-- Definitions only.
use Rattle.std.specs.Prelude.{◌≡◌, ◌⊎◌, ◌||◌, ◌∷◌}
use Rattle.lists.specs.Kit.{true, cond, List, [], ℕ, eqb, length, get_or, take}
use Rattle.mesh.specs.{Graph.{Graph}, Cores.{number}, Levels.{lower_level}, Tables.{Tables, graph_in}}
use Rattle.calls.specs.Switches.{Switch, switched}

-- the entries before the first end of the link a-b
unfoldable pub before_ends : (a b : ℕ) → List ℕ → List ℕ
before_ends a b [] = []
before_ends a b (x ∷ xs) = let rest = before_ends a b xs in cond (eqb x a || eqb x b) [] (x ∷ rest)

-- "entries before the beginning end's place never move": the lower end's, with equal numbers the earlier one's. g is the graph before the
-- call, old and new are the order before and after it
pub record BeginningKept (a b : ℕ) (g : Graph) (old new : List ℕ) : Type 0 where
  pub kept : take (length (before_ends a b old)) new ≡ before_ends a b old
  pub end : (get_or old (length (before_ends a b old)) 0 ≡ a) ⊎ (get_or old (length (before_ends a b old)) 0 ≡ b)
  pub lower : number g (get_or old (length (before_ends a b old)) 0) ≡ lower_level g a b

-- t are the tables before the first
unfoldable pub EachBegins : (n : ℕ) → List Switch → Tables → Type 0
EachBegins n [] t = Unit {0}
EachBegins n (s ∷ ss) t =
    (s.up ≡ true → BeginningKept s.a s.b (graph_in n t.links) t.order (switched n s t).order) × EachBegins n ss (switched n s t)
