-- Question 11 over tables, as document 01 puts it, and the round trip of tables.
--   valid_graph_in       sound tables are a valid site's
--   tables_of_graph_in   sound tables are the tables of the site that they mark
--   is_image_tables      accepted are exactly the images of sound tables with this n
--   tables_read_written  sound tables, written and read
use Rattle.std.specs.Prelude.{◌≡◌, ◌↔◌, ◌&&◌, ◌≤◌, ◌<◌}
use Rattle.lists.{specs.Kit.{refl, sym, ap, ap₂, ◌∙◌, true, List, ℕ, arith, le_trans, le_of_eq, leb}, proofs.Tests.{and_left}}
use Rattle.lists.{proofs.Tests.{and_right}, specs.Facts.{Bytes}}
use Rattle.mesh.specs.{Limits.{max_radios, max_neighbours}, Graph.{Graph}, Cores.{number, numbers}, Tables.{Tables, tables, graph_in, tables_of}}
use Rattle.mesh.specs.{Tables.{TablesOfSize}, Sound.{symmetric, irreflexive, within, few, rows_proper, number_in, sound_within, sound}}
use Rattle.mesh.specs.{Image.{image_of, image_order, image_graph, is_image_within, is_image, TablesImage}, Valid.{Valid}}
use Rattle.mesh.proofs.{GraphLaws.{linked_self, neighbours_in_subset, degree_in}, Cores.KOrders.{k_order_certificate, certificate_k_order}}
use Rattle.mesh.proofs.{Cores.Peeling.{length_numbers, get_d_numbers}, Tables.Laws.{length_links_table, bytes_links_table}, Tables.Rows.{few_of}}
use Rattle.mesh.proofs.{Tables.ReadBack.{proper_graph_in, ascending_graph_in, graph_in_links_table, links_table_graph_in, degree_graph_in}}
use Rattle.mesh.proofs.{Tables.Soundness.{sound_certificate, sound_right, valid_sound}, Tables.Sites.{image_valid}, Tables.Older.{sound_within_more}}
use Rattle.mesh.proofs.{Images.Sites.{length_order, get_d_order_less, read_written_graph, read_written_order, is_image_within_image_of, written_read}}

-- ---- sites and tables

-- sound tables are a valid site's
pub valid_graph_in : (most n : ℕ) (t : Tables) → n ≤ max_radios → sound_within most n t ≡ true → Valid most (graph_in n t.links) t.order
unfolding graph_in rows_proper
valid_graph_in most n t small h =
    let r = sound_certificate most n t h in
    let s = symmetric n t.links in
    let i = irreflexive n t.links in
    let w = within n t.links in
    let f = few most n t.links in
    let first = and_left (s && i) (w && f) r.0 in
    let second = and_right (s && i) (w && f) r.0 in
    let marks = graph_in n t.links in
    record {
      links_proper = proper_graph_in n t.links;
      links_ascending = ascending_graph_in n t.links;
      degrees = λ v l. le_trans (le_of_eq (degree_graph_in n t.links small (and_left s i first) (and_right s i first) (and_left w f second) v l))
          (few_of most n t.links (and_right w f second) v l);
      k_order = certificate_k_order marks (number_in t.numbers) t.order (linked_self marks (proper_graph_in n t.links)) r.1;
    }

-- sound tables are the tables of the site that they mark
pub tables_of_graph_in : (n : ℕ) (t : Tables) → n ≤ max_radios → TablesOfSize n t → sound n t ≡ true → tables_of (graph_in n t.links) t.order ≡ t
unfolding sound tables_of rows_proper
tables_of_graph_in n t small z h =
    let r = sound_right max_neighbours n t z.numbers_length h in
    let s = symmetric n t.links in
    let i = irreflexive n t.links in
    let w = within n t.links in
    let f = few max_neighbours n t.links in
    let first = and_left (s && i) (w && f) r.rows in
    let second = and_right (s && i) (w && f) r.rows in
    ap₂ (λ (l k : List ℕ). tables l k t.order)
    (links_table_graph_in n t.links small z.links_length z.links_bytes (and_left s i first) (and_right s i first) (and_left w f second))
    (sym r.core_numbers)

-- a core number is at most the degree
pub number_most : (most : ℕ) (g : Graph) (xs : List ℕ) → Valid most g xs → (v : ℕ) → v < g.n → number g v ≤ most
number_most most g xs k v l =
    le_trans ((k_order_certificate g xs k.k_order).enough v l)
    (le_trans (neighbours_in_subset g v (λ w. leb (number g v) (number g w)) (λ w. true) (λ w m q. refl))
    (le_trans (le_of_eq (sym (degree_in g v))) (k.degrees v l)))

pub bytes_numbers : (g : Graph) (xs : List ℕ) → Valid max_neighbours g xs → Bytes (numbers g)
bytes_numbers g xs k v l =
    let h : v < g.n = omega (arith, length_numbers g) in
    omega (arith, get_d_numbers g v h, number_most max_neighbours g xs k v h)

-- ---- question 11 over tables

-- an image written from sound tables is accepted, whatever else the tables hold; within a smaller bound, so it was
pub is_image_within_sound : (most n : ℕ) (t : Tables) → n ≤ max_radios → most ≤ max_neighbours → sound_within most n t ≡ true
    → is_image_within most n (image_of (graph_in n t.links) t.order) ≡ true
unfolding graph_in
is_image_within_sound most n t small l h =
    is_image_within_image_of (graph_in n t.links) t.order small
    (valid_graph_in max_neighbours n t small (sound_within_more most max_neighbours n t l h)) most (valid_graph_in most n t small h)

pub is_image_sound : (n : ℕ) (t : Tables) → n ≤ max_radios → sound n t ≡ true → is_image n (image_of (graph_in n t.links) t.order) ≡ true
unfolding sound is_image
is_image_sound n t small h = is_image_within_sound max_neighbours n t small (omega arith) h

pub is_image_tables : (n : ℕ) (bs : List ℕ) → n ≤ max_radios → (is_image n bs ≡ true) ↔ TablesImage n bs
unfolding sound graph_in tables_of image_graph
is_image_tables n bs small = (there, back)
  where
    there : is_image n bs ≡ true → TablesImage n bs
    there h =
        let g = image_graph n bs in
        let xs = image_order n bs in
        let v = image_valid n bs small h in
        record {
          tables = tables_of g xs;
          size = record {
            links_length = length_links_table g;
            numbers_length = length_numbers g;
            order_length = length_order g xs small v;
            links_bytes = bytes_links_table g;
          };
          is_sound = valid_sound max_neighbours g xs small v;
          numbers_bytes = bytes_numbers g xs v;
          order_words = λ j l. omega (arith, get_d_order_less g xs small v j l);
          written = ap (λ (k : Graph). image_of k xs) (graph_in_links_table g small v.links_proper v.links_ascending) ∙ written_read n bs h;
        }

    back : TablesImage n bs → is_image n bs ≡ true
    back t = ap (is_image n) (sym t.written) ∙ is_image_sound n t.tables small t.is_sound

-- sound tables, written and read, are the same tables
pub tables_read_written : (n : ℕ) (t : Tables) → n ≤ max_radios → TablesOfSize n t → sound n t ≡ true
    → let bs = image_of (graph_in n t.links) t.order in tables_of (image_graph n bs) (image_order n bs) ≡ t
unfolding graph_in sound
tables_read_written n t small z h =
    let v = valid_graph_in max_neighbours n t small h in
    ap₂ tables_of (read_written_graph (graph_in n t.links) t.order small v) (read_written_order (graph_in n t.links) t.order small v)
    ∙ tables_of_graph_in n t small z h
