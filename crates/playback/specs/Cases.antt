-- M1's site and its script: played back, the order is another one. That this holds is `order_differs` in proofs/Cases.antt.
--   m1_left       the tables that M1's calls leave
--   m1_script     their script
--   OrderDiffers what holds of them
-- Definitions only.
use Rattle.std.specs.Prelude.{◌≡◌, ◌∷◌}
use Rattle.lists.specs.Kit.{true, List, [], flat_map}
use Prim.Native.String.{String}
use Rattle.mesh.specs.{Graph.{graph, link_of}, Tables.{Tables, graph_in, tables_of, TablesOfSize}, Sound.{sound}}
use Rattle.text.specs.Text.{bytes_of}
use Rattle.calls.specs.{Script.{script_of}, Switches.{tables_after}, Runs.{after}, Worked.{up, down}}
use Rattle.player.specs.Play.{cleared}
use Rattle.playback.specs.Plays.{calls_in}

-- the links 0-2 and 1-2
unfoldable pub m1_left : Tables
m1_left = tables_of (graph 4 (link_of 0 2 ∷ link_of 1 2 ∷ [])) (3 ∷ 0 ∷ 2 ∷ 1 ∷ [])

unfoldable pub m1_script : List String
m1_script = "radios 4\n" ∷ "up 0 2\n" ∷ "up 1 2\n" ∷ []

pub record OrderDiffers : Type 0 where
  -- up 0 1, up 1 2, up 0 2, down 0 1
  pub history : tables_after 4 (up 0 1 ∷ up 1 2 ∷ up 0 2 ∷ down 0 1 ∷ []) (cleared 4) ≡ m1_left
  pub is_sound : sound 4 m1_left ≡ true
  pub size : TablesOfSize 4 m1_left
  pub script : script_of (graph_in 4 m1_left.links) ≡ flat_map bytes_of m1_script
  pub order : m1_left.order ≡ 3 ∷ 0 ∷ 2 ∷ 1 ∷ []
  pub order_played : (after (calls_in 4 (flat_map bytes_of m1_script)) (cleared 4)).order ≡ 3 ∷ 1 ∷ 0 ∷ 2 ∷ []
