-- One radio of a level: it brings a node, or nothing.
--   takes_node   radio v has number k and is in the set
--   Visited      radio v at level k: a node where it takes one, else nothing
use Rattle.std.specs.Prelude.{◌≡◌, ◌&&◌}
use Rattle.lists.{specs.Kit.{refl, Bool, true, false, List, ℕ, eqb, get_or}, proofs.Tests.{never}}
use Rattle.rows.specs.Sets.{in_set}
use Rattle.tree.specs.Trees.{Stand, NodeTaken}

unfoldable pub takes_node : (numbers : List ℕ) → (level : ℕ) → (set : List ℕ) → (v : ℕ) → Bool
takes_node ns k s v = eqb (get_or ns v 0) k && in_set s v

pub record Visited (ts ns : List ℕ) (k v : ℕ) (before after : Stand) : Type 0 where
  pub taken : takes_node ns k before.left v ≡ true → NodeTaken ts k v before after
  pub passed : takes_node ns k before.left v ≡ false → after ≡ before

module _ (ts ns : List ℕ) (k v : ℕ) (s : Stand) where
  pub visited_none : takes_node ns k s.left v ≡ false → Visited ts ns k v s s
  visited_none h = record { taken = λ e. never _ e h; passed = λ e. refl }

  pub visited_node : (t : Stand) → takes_node ns k s.left v ≡ true → NodeTaken ts k v s t → Visited ts ns k v s t
  visited_node t brings h = record { taken = λ e. h; passed = λ e. never _ brings e }
