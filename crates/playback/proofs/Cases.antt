-- M1's script, played back, leaves another order than M1: computed.
use Rattle.std.specs.Prelude.{◌≡◌, ◌∷◌}
use Rattle.lists.specs.Kit.{refl, sym, ap, subst, ◌∙◌, true, List, [], flat_map, ℕ, arith}
use Rattle.mesh.{specs.Limits.{max_neighbours}, specs.Graph.{Link, Graph, graph, link_of, neighbours_in}, specs.Tables.{Tables, put_digit, put_bit, put_link}}
use Rattle.mesh.{specs.Tables.{row_links, graph_in, tables_of, TablesOfSize}, specs.Sound.{sound}, specs.Valid.{Valid}}
use Rattle.mesh.{proofs.Tables.Laws.{bytes_links_table}, proofs.Images.Tables.{valid_graph_in}}
use Rattle.text.specs.Text.{bytes_of}
use Rattle.calls.{specs.Script.{up_line, script_of}, specs.Book.{Call}, specs.Runs.{after}, specs.Switches.{switched, tables_after}, specs.Worked.{up, down}}
use Rattle.calls.{proofs.WorkedState.{compute}, proofs.Rebuilt.{ups}}
use Rattle.player.specs.Play.{cleared}
use Rattle.playback.specs.{Plays.{calls_in}, Cases.{m1_left, m1_script, OrderDiffers}}
use Rattle.playback.proofs.ScriptPlays.{script_calls, script_came_up}

unfoldable compute_tables : Unit {0}
unfolding compute neighbours_in put_digit put_bit put_link row_links graph_in switched tables_after cleared m1_left m1_script up_line script_of ups
compute_tables = tt

abbrev m1_links : List Link
m1_links = link_of 0 2 ∷ link_of 1 2 ∷ []

history : tables_after 4 (up 0 1 ∷ up 1 2 ∷ up 0 2 ∷ down 0 1 ∷ []) (cleared 4) ≡ m1_left
unfolding compute_tables
history = refl

m1_sound : sound 4 m1_left ≡ true
unfolding compute_tables
m1_sound = refl

m1_graph : graph_in 4 m1_left.links ≡ graph 4 m1_links
unfolding compute_tables
m1_graph = refl

m1_size : TablesOfSize 4 m1_left
unfolding compute_tables
m1_size = record { links_length = refl; numbers_length = refl; order_length = refl; links_bytes = bytes_links_table (graph 4 m1_links) }

m1_text : script_of (graph 4 m1_links) ≡ flat_map bytes_of m1_script
unfolding compute_tables
m1_text = refl

-- what two links leave of a cleared site
order_after : (tables_after 4 (ups m1_links) (cleared 4)).order ≡ 3 ∷ 1 ∷ 0 ∷ 2 ∷ []
unfolding compute_tables
order_after = refl

m1_valid : Valid max_neighbours (graph 4 m1_links) m1_left.order
unfolding sound
m1_valid = subst (λ (g : Graph). Valid max_neighbours g m1_left.order) m1_graph (valid_graph_in max_neighbours 4 m1_left (omega arith) m1_sound)

pub order_differs : OrderDiffers
unfolding m1_left tables_of
order_differs = record {
  history = history;
  is_sound = m1_sound;
  size = m1_size;
  script = ap script_of m1_graph ∙ m1_text;
  order = refl;
  order_played =
      ap (λ (bs : List ℕ). (after (calls_in 4 bs) (cleared 4)).order) (sym m1_text)
      ∙ ap (λ (cs : List Call). (after cs (cleared 4)).order) (script_calls 4 (omega arith) (omega arith) m1_links m1_left.order m1_valid)
      ∙ ap (λ (u : Tables). u.order) (script_came_up 4 (omega arith) (omega arith) m1_links m1_left.order m1_valid).tables ∙ order_after;
}
