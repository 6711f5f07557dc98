-- Links taken up or down one after the other, as if by single calls.
--   Switch              a link going up or down
--   pairs_after ss ps   the pairs that are left of ps
--   switched n s t      the tables that an accepted link call leaves of t
--   tables_after n ss t the same of a list, one after the other
--   AllAllowed n ps ss questions 4 to 7 of each get yes in turn, where ps are the pairs before the first
-- Definitions only.
use Rattle.std.specs.Prelude.{◌∷◌}
use Rattle.lists.specs.Kit.{Bool, List, [], ℕ}
use Rattle.mesh.specs.{Limits.{max_neighbours}, Graph.{Link, graph, relinked, new_links, Allowed}, Cores.{numbers}, Levels.{new_order}, Tables.{Tables, tables}}
use Rattle.mesh.specs.{Tables.{put_link, graph_in}}

-- the link between a and b goes up or down
pub record Switch : Type 0 where
  pub up : Bool
  pub a : ℕ
  pub b : ℕ

abbrev pub switch : (up : Bool) → (a b : ℕ) → Switch
switch u a b = record { up = u; a = a; b = b }

-- an up adds its pair, a down strikes it
unfoldable pub pairs_after : List Switch → List Link → List Link
pairs_after [] ps = ps
pairs_after (s ∷ ss) ps = pairs_after ss (new_links s.up s.a s.b ps)

-- as `LinkAccepted` says it
unfoldable pub switched : (n : ℕ) → Switch → Tables → Tables
switched n s t =
    let g = graph_in n t.links in
    tables
    (put_link s.up s.a s.b t.links)
    (numbers (relinked s.up s.a s.b g))
    (new_order s.up s.a s.b g t.order)

-- each on the tables that the one before it left
unfoldable pub tables_after : (n : ℕ) → List Switch → Tables → Tables
tables_after n [] t = t
tables_after n (s ∷ ss) t = tables_after n ss (switched n s t)

-- no single call of them would be refused
unfoldable pub AllAllowed : (n : ℕ) → (pairs : List Link) → List Switch → Type 0
AllAllowed n ps [] = Unit {0}
AllAllowed n ps (s ∷ ss) =
    Allowed max_neighbours s.up s.a s.b (graph n ps) × AllAllowed n (new_links s.up s.a s.b ps) ss
