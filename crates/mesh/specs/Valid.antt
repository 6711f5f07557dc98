-- What every accepted call keeps: the hypotheses of the theory.
--   Valid most g xs      g has proper links in their order and at most so many neighbours a radio, and xs is a k-order of it
--   smaller, larger      of the graphs before and after a link call, the one without the link and the one with it
use Rattle.std.specs.Prelude.{◌≡◌, ◌≤◌, ◌<◌}
use Rattle.lists.specs.Kit.{Bool, true, false, List, ℕ}
use Rattle.mesh.specs.{Graph.{Graph, degree, relinked, proper, ascending}, Orders.{is_k_order}}

pub record Valid (most : ℕ) (g : Graph) (xs : List ℕ) : Type 0 where
  pub links_proper : proper g.n g.links ≡ true
  pub links_ascending : ascending g.links ≡ true
  pub degrees : (v : ℕ) → v < g.n → degree g v ≤ most
  pub k_order : is_k_order g xs ≡ true

unfoldable pub smaller : (up : Bool) → (a b : ℕ) → Graph → Graph
smaller true a b g = g
smaller false a b g = relinked false a b g

unfoldable pub larger : (up : Bool) → (a b : ℕ) → Graph → Graph
larger true a b g = relinked true a b g
larger false a b g = g
