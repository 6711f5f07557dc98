-- Worked cases played on the book's pairs and the order, for computing: the outcomes read the links table bit by bit and put question 3
-- at each call, which takes too long. That both come to the same is `by_state` in WorkedLaws.antt.
--   State            the book's pairs, the order, and the answers so far
--   state_after      link calls made one after the other
--   state_right      is a row right on pairs and order
--   compute          what a proof of rows unfolds
use Rattle.std.specs.Prelude.{◌&&◌, ◌∷◌, ◌++◌, ◌*◌, ◌-◌}
use Rattle.lists.specs.{Kit.{Bool, true, cond, List, [], flat_map, ℕ, zero, suc, eqb, length, drop, take}, Lists.{range, count}}
use Rattle.lists.specs.{Lists.{filter, member, all, same, head_or}}
use Rattle.mesh.specs.{Limits.{max_neighbours, former_neighbours, row_bytes}, Graph.{Link, graph, radios, other_ends, linked, neighbours_among, degree, link}}
use Rattle.mesh.specs.{Graph.{link_before, same_link, with_link, without_link, new_links, relinked, proper, ascending}, Cores.{survivors, peeled, cores_from}}
use Rattle.mesh.specs.{Cores.{cores, depth, number, numbers}, Levels.{changed, step_of, lower_level, stretch_start, stretch_length, first_fitting, without}}
use Rattle.mesh.specs.{Levels.{laid_out, stretch_up, stretch_down, new_stretch, with_stretch, new_order}, Orders.{each_once, rising, few_later}}
use Rattle.mesh.specs.{Tables.{tables, digit, byte_at, marked, from_digits, bit_row, bit_table, links_table, tables_of}, Sound.{symmetric, irreflexive, within}}
use Rattle.mesh.specs.{Sound.{row_degree, few, rows_proper, enough, sound_within, sound}, Connected.{at_least, reached, core_of, greatest, backbone}}
use Rattle.mesh.specs.{Tree.{shell, node_name, parent_name, nodes_at, tree, node_names}, Staircase.{weight, filter_links, falling, joined, keep, staircase}}
use Rattle.mesh.specs.{Staircase.{link_entries, weighs, least, goes_before}, Image.{word, long, weighted_sum, check_sum, block, blocks_for, order_blocks}}
use Rattle.mesh.specs.{Image.{block_count, link_bytes, order_payload, links_payload, block_at, image_of, word_at, entry_at, image_order, image_link}}
use Rattle.mesh.specs.{Image.{image_links, image_graph, whole_blocks, block_check, checks_good, is_image_within, is_image, other_size}}
use Rattle.calls.specs.{Questions.{ask, Lengths, lengths_of, size_good, site_lengths, is_radio, are_radios, ends_differ, can_switch, has_room, has_level}}
use Rattle.calls.specs.{Questions.{same_step, image_length, lent_refusal, tables_refusal, ends_refusal, blocks_refusal, image_refusal}}
use Rattle.calls.specs.{Questions.{read_refusal, site_refusal}, Script.{up_line, script_of}, Switches.{Switch}}
use Rattle.calls.specs.{Outcomes.{value_outcome, check_outcome}, Book.{Answer, counted, reported}, Replay.{step_text, link_line, numbers_line}}
use Rattle.calls.specs.{Replay.{order_line}}
use Rattle.calls.specs.{Replay.{closing_lines, bad_line, answer_line, lines}, Worked.{risen, fallen, unchanged, refused, Want, last_answers, all_numbers}}
use Rattle.calls.specs.{Worked.{whole_order, shell_tree, connected_core, backbone_radios, image_checks, printed, soundness, staircase_list, formerly}}
use Rattle.calls.specs.{Worked.{script, bad_text, image_reading, same_answers, same_nodes, block_checks, put_in, is_value, Row}}
use Rattle.text.specs.Text.{bytes_of, digit_byte, digits_in, decimal, further_fields, printed_line}
use Rattle.calls.specs.Chains.{level_refusal}
use Rattle.calls.specs.Questions.{by_number}
use Rattle.calls.specs.Chains.{staircase_length}

pub record State : Type 0 where
  pub pairs : List Link
  pub order : List ℕ
  pub answers : List Answer

abbrev pub state : (pairs : List Link) → (order : List ℕ) → (answers : List Answer) → State
state ps xs hs = record { pairs = ps; order = xs; answers = hs }

-- the state after a call with this number
unfoldable pub carried_out : (number : ℕ) → (n : ℕ) → Switch → State → State
carried_out zero n c q =
    let g = graph n q.pairs in
    state
    (new_links c.up c.a c.b q.pairs)
    (new_order c.up c.a c.b g q.order)
    (q.answers ++ (reported c.up (changed c.up c.a c.b g) ∷ []))
carried_out (suc x) n c q = state q.pairs q.order (q.answers ++ (counted (suc x) 0 ∷ []))

unfoldable pub state_played : (n : ℕ) → Switch → State → State
state_played n c q =
    carried_out (ends_refusal max_neighbours c.up n c.a c.b (graph n q.pairs)) n c q

unfoldable pub state_after : (n : ℕ) → List Switch → State → State
state_after n [] q = q
state_after n (c ∷ cs) q = state_after n cs (state_played n c q)

-- the lengths of the tables of n radios
abbrev pub right_lengths : (n : ℕ) → Lengths
right_lengths n = record { links = row_bytes * n; numbers = n; order = n }

unfoldable pub state_meets : (n : ℕ) → State → Want → Bool
state_meets n q (last_answers hs) = same_answers (drop (length q.answers - length hs) q.answers) hs
state_meets n q (all_numbers ns) = same (numbers (graph n q.pairs)) ns
state_meets n q (whole_order xs) = same q.order xs
state_meets n q (shell_tree ns vs) =
    let g = graph n q.pairs in same_nodes (tree g) ns && same (node_names g) vs
state_meets n q (connected_core v k r xs) =
    let g = graph n q.pairs in
    let R = level_refusal n v k g in eqb R r && same (by_number R (core_of g v k) (λ x. [])) xs
state_meets n q (backbone_radios xs) = same (backbone (graph n q.pairs)) xs
state_meets n q (image_checks m cs) =
    let g = graph n q.pairs in
    eqb (image_length g) m && same (block_checks (length cs) (image_of g q.order)) (flat_map long cs)
state_meets n q (printed ls) = same (lines q.answers (numbers (graph n q.pairs)) q.order) (flat_map bytes_of ls)
state_meets n q (soundness ps ns xs b) =
    is_value (check_outcome n (tables (put_in ps (links_table (graph n q.pairs))) ns xs)) 0 (cond b 1 0)
state_meets n q (staircase_list k r xs) =
    let R = site_refusal n (right_lengths n) (staircase_length n k) true 0 in
    eqb R r && same (by_number R (link_entries (staircase (graph n q.pairs))) (λ x. [])) xs
state_meets n q (formerly a b r) = eqb (ends_refusal former_neighbours true n a b (graph n q.pairs)) r
state_meets n q (script ls) = same (script_of (graph n q.pairs)) (flat_map bytes_of ls)
state_meets n q (bad_text l x) = same (bad_line l) (bytes_of x)
state_meets n q (image_reading m k ps r) =
    eqb (read_refusal m (right_lengths m) (take k (put_in ps (image_of (graph n q.pairs) q.order)))) r

unfoldable pub state_meets_all : (n : ℕ) → State → List Want → Bool
state_meets_all n q [] = true
state_meets_all n q (w ∷ ws) = state_meets n q w && state_meets_all n q ws

unfoldable pub state_right : Row → Bool
state_right r =
    let q = state_after r.n r.calls (state [] (range 0 r.n) []) in size_good r.n && state_meets_all r.n q r.wants

unfoldable pub all_state_right : List Row → Bool
all_state_right [] = true
all_state_right (r ∷ rs) = state_right r && all_state_right rs

-- everything that rows compute with
unfoldable pub compute : Unit {0}
unfolding range count filter member all same head_or radios other_ends linked neighbours_among degree link link_before same_link with_link without_link
    new_links relinked survivors peeled cores_from cores depth number numbers changed step_of lower_level stretch_start stretch_length first_fitting without
    laid_out stretch_up stretch_down new_stretch with_stretch new_order at_least reached core_of greatest backbone shell node_name parent_name nodes_at tree
    node_names word long weighted_sum check_sum block blocks_for order_blocks block_count link_bytes order_payload links_payload block_at image_of
    word_at entry_at image_order image_link image_links image_graph whole_blocks block_check checks_good is_image_within is_image other_size weight
    filter_links falling joined keep staircase link_entries weighs least goes_before site_refusal up_line script_of bad_line proper ascending
    each_once rising few_later digit byte_at marked from_digits bit_row bit_table links_table tables_of symmetric irreflexive within
    row_degree few rows_proper enough sound_within sound ask is_radio are_radios ends_differ can_switch has_room has_level image_length
    ends_refusal image_refusal digit_byte digits_in decimal step_text further_fields printed_line link_line numbers_line order_line
    closing_lines risen fallen unchanged refused same_step same_answers same_nodes block_checks put_in answer_line flat_map
    counted reported blocks_refusal is_value lines by_number value_outcome check_outcome tables_refusal lent_refusal
    size_good site_lengths lengths_of read_refusal carried_out state_played state_after state_meets state_meets_all
    state_right all_state_right
compute = tt
