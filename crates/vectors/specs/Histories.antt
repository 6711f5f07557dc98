-- Link histories from cleared sites, with every answer and what they leave. Written by `python3 oracle/vectors.py`,
-- whose expected values come from document 01 alone, by all sets of radios; not to be changed by hand.
--   refusals        calls that are refused
--   cliques         cliques built and torn down
--   joins           parts that join
--   rises           links going up
--   falls           links going down
--   trees           shell trees
--   printing        numbers of two and three digits
--   tables          soundness, with damaged tables
--   images          image reading, with damaged images
--   random_small    random calls at 2 to 5 radios
--   random_middle   random calls at 6 and 7 radios
--   random_large    random calls at 8 radios
--   histories       all of them, 64 rows
-- That every row is right is `histories_right` in proofs/Histories.antt. Definitions only.
use Rattle.std.specs.Prelude.{◌∷◌, ◌++◌}
use Rattle.lists.specs.Kit.{true, false, List, []}
use Rattle.mesh.specs.Tree.{root_name, node, root}
use Rattle.calls.specs.Worked.{Row, row, up, down, risen, fallen, unchanged, refused, last_answers, all_numbers, whole_order, shell_tree, connected_core}
use Rattle.calls.specs.Worked.{backbone_radios, image_checks, printed, put, soundness, image_reading}

unfoldable pub refusals : List Row
refusals =
    -- one radio, no call
    row 1 [] (
    last_answers []
    ∷ printed (
    "numbers 0\n" ∷ "order 0\n" ∷ []) ∷ all_numbers (0 ∷ []) ∷ whole_order (0 ∷ []) ∷ shell_tree (root ∷ []) (root_name ∷ []) ∷ backbone_radios []
    ∷ connected_core 0 0 0 (0 ∷ []) ∷ connected_core 0 1 8 [] ∷ connected_core 1 0 4 [] ∷ image_checks 1024 (5 ∷ 4 ∷ []) ∷ [])
    -- one radio: every call is refused
    ∷ row 1 (
    up 0 0 ∷ up 0 1 ∷ up 1 0 ∷ up 1 1 ∷ down 0 0 ∷ down 0 1 ∷ []) (
    last_answers (
    refused 5 ∷ refused 4 ∷ refused 4 ∷ refused 4 ∷ refused 5 ∷ refused 4 ∷ [])
    ∷ printed (
    "5 0\n" ∷ "4 0\n" ∷ "4 0\n" ∷ "4 0\n" ∷ "5 0\n" ∷ "4 0\n" ∷ "numbers 0\n" ∷ "order 0\n" ∷ []) ∷ all_numbers (0 ∷ []) ∷ whole_order (0 ∷ [])
    ∷ shell_tree (root ∷ []) (root_name ∷ []) ∷ backbone_radios [] ∷ connected_core 0 0 0 (0 ∷ []) ∷ connected_core 0 1 8 [] ∷ connected_core 1 0 4 []
    ∷ image_checks 1024 (5 ∷ 4 ∷ []) ∷ [])
    -- a link is taken up once and down once, ends in either order
    ∷ row 2 (
    down 0 1 ∷ up 0 1 ∷ up 0 1 ∷ up 1 0 ∷ down 1 0 ∷ down 0 1 ∷ up 1 0 ∷ []) (
    last_answers (
    refused 6 ∷ risen (0 ∷ 1 ∷ []) ∷ refused 6 ∷ refused 6 ∷ fallen (0 ∷ 1 ∷ []) ∷ refused 6 ∷ risen (0 ∷ 1 ∷ []) ∷ [])
    ∷ printed (
    "6 0\n" ∷ "0 +1 0 1\n" ∷ "6 0\n" ∷ "6 0\n" ∷ "0 -1 0 1\n" ∷ "6 0\n" ∷ "0 +1 0 1\n" ∷ "numbers 1 1\n" ∷ "order 0 1\n" ∷ [])
    ∷ all_numbers (1 ∷ 1 ∷ []) ∷ whole_order (0 ∷ 1 ∷ []) ∷ shell_tree (root ∷ node 0 1 root_name ∷ []) (0 ∷ 0 ∷ []) ∷ backbone_radios (0 ∷ 1 ∷ [])
    ∷ connected_core 1 0 0 (0 ∷ 1 ∷ []) ∷ connected_core 0 1 0 (0 ∷ 1 ∷ []) ∷ connected_core 1 1 0 (0 ∷ 1 ∷ []) ∷ connected_core 0 2 8 []
    ∷ connected_core 2 0 4 [] ∷ image_checks 1536 (17 ∷ 11 ∷ 15 ∷ []) ∷ [])
    -- 4 before 5, 5 before 6, and a refused call changes nothing
    ∷ row 4 (
    up 0 1 ∷ up 1 2 ∷ up 4 4 ∷ down 9 9 ∷ up 2 2 ∷ down 2 2 ∷ up 0 4 ∷ down 65535 0 ∷ up 1 0 ∷ down 0 2 ∷ up 2 3 ∷ []) (
    last_answers (
    risen (0 ∷ 1 ∷ []) ∷ risen (2 ∷ []) ∷ refused 4 ∷ refused 4 ∷ refused 5 ∷ refused 5 ∷ refused 4 ∷ refused 4 ∷ refused 6 ∷ refused 6 ∷ risen (3 ∷ []) ∷ [])
    ∷ printed (
    "0 +1 0 1\n" ∷ "0 +1 2\n" ∷ "4 0\n" ∷ "4 0\n" ∷ "5 0\n" ∷ "5 0\n" ∷ "4 0\n" ∷ "4 0\n" ∷ "6 0\n" ∷ "6 0\n" ∷ "0 +1 3\n" ∷ "numbers 1 1 1 1\n"
    ∷ "order 3 2 0 1\n" ∷ [])
    ∷ all_numbers (1 ∷ 1 ∷ 1 ∷ 1 ∷ []) ∷ whole_order (3 ∷ 2 ∷ 0 ∷ 1 ∷ []) ∷ shell_tree (root ∷ node 0 1 root_name ∷ []) (0 ∷ 0 ∷ 0 ∷ 0 ∷ [])
    ∷ backbone_radios (0 ∷ 1 ∷ 2 ∷ 3 ∷ []) ∷ connected_core 3 0 0 (0 ∷ 1 ∷ 2 ∷ 3 ∷ []) ∷ connected_core 0 1 0 (0 ∷ 1 ∷ 2 ∷ 3 ∷ [])
    ∷ connected_core 2 1 0 (0 ∷ 1 ∷ 2 ∷ 3 ∷ []) ∷ connected_core 0 2 8 [] ∷ connected_core 4 0 4 [] ∷ image_checks 1536 (41 ∷ 44 ∷ 117 ∷ []) ∷ [])
    -- eight radios, no link
    ∷ row 8 (
    up 8 0 ∷ down 0 7 ∷ up 7 7 ∷ []) (
    last_answers (
    refused 4 ∷ refused 6 ∷ refused 5 ∷ [])
    ∷ printed (
    "4 0\n" ∷ "6 0\n" ∷ "5 0\n" ∷ "numbers 0 0 0 0 0 0 0 0\n" ∷ "order 0 1 2 3 4 5 6 7\n" ∷ []) ∷ all_numbers (0 ∷ 0 ∷ 0 ∷ 0 ∷ 0 ∷ 0 ∷ 0 ∷ 0 ∷ [])
    ∷ whole_order (0 ∷ 1 ∷ 2 ∷ 3 ∷ 4 ∷ 5 ∷ 6 ∷ 7 ∷ [])
    ∷ shell_tree (root ∷ []) (root_name ∷ root_name ∷ root_name ∷ root_name ∷ root_name ∷ root_name ∷ root_name ∷ root_name ∷ []) ∷ backbone_radios []
    ∷ connected_core 7 0 0 (7 ∷ []) ∷ connected_core 0 0 0 (0 ∷ []) ∷ connected_core 4 1 8 [] ∷ connected_core 0 1 8 [] ∷ connected_core 8 0 4 []
    ∷ image_checks 1024 (40 ∷ 424 ∷ []) ∷ [])
    ∷ []

unfoldable pub cliques : List Row
cliques =
    -- a clique of 4 built and torn down to nothing
    row 4 (
    up 0 1 ∷ up 0 2 ∷ up 0 3 ∷ up 1 2 ∷ up 1 3 ∷ up 2 3 ∷ down 0 1 ∷ down 0 2 ∷ down 0 3 ∷ down 1 2 ∷ down 1 3 ∷ down 2 3 ∷ []) (
    last_answers (
    risen (0 ∷ 1 ∷ []) ∷ risen (2 ∷ []) ∷ risen (3 ∷ []) ∷ risen (0 ∷ 1 ∷ 2 ∷ []) ∷ risen (3 ∷ []) ∷ risen (0 ∷ 1 ∷ 2 ∷ 3 ∷ []) ∷ fallen (0 ∷ 1 ∷ 2 ∷ 3 ∷ [])
    ∷ fallen (0 ∷ []) ∷ fallen (0 ∷ []) ∷ fallen (1 ∷ 2 ∷ 3 ∷ []) ∷ fallen (1 ∷ []) ∷ fallen (2 ∷ 3 ∷ []) ∷ [])
    ∷ printed (
    "0 +1 0 1\n" ∷ "0 +1 2\n" ∷ "0 +1 3\n" ∷ "0 +1 0 1 2\n" ∷ "0 +1 3\n" ∷ "0 +1 0 1 2 3\n" ∷ "0 -1 0 1 2 3\n" ∷ "0 -1 0\n" ∷ "0 -1 0\n" ∷ "0 -1 1 2 3\n"
    ∷ "0 -1 1\n" ∷ "0 -1 2 3\n" ∷ "numbers 0 0 0 0\n" ∷ "order 0 1 2 3\n" ∷ [])
    ∷ all_numbers (0 ∷ 0 ∷ 0 ∷ 0 ∷ []) ∷ whole_order (0 ∷ 1 ∷ 2 ∷ 3 ∷ []) ∷ shell_tree (root ∷ []) (root_name ∷ root_name ∷ root_name ∷ root_name ∷ [])
    ∷ backbone_radios [] ∷ connected_core 3 0 0 (3 ∷ []) ∷ connected_core 0 0 0 (0 ∷ []) ∷ connected_core 2 1 8 [] ∷ connected_core 0 1 8 []
    ∷ connected_core 4 0 4 [] ∷ image_checks 1024 (20 ∷ 62 ∷ []) ∷ [])
    -- a clique of 5 built, and torn down from its last radio
    ∷ row 5 (
    up 0 1 ∷ up 0 2 ∷ up 0 3 ∷ up 0 4 ∷ up 1 2 ∷ up 1 3 ∷ up 1 4 ∷ up 2 3 ∷ up 2 4 ∷ up 3 4 ∷ down 3 4 ∷ down 2 4 ∷ down 1 4 ∷ down 0 4 ∷ []) (
    last_answers (
    risen (0 ∷ 1 ∷ []) ∷ risen (2 ∷ []) ∷ risen (3 ∷ []) ∷ risen (4 ∷ []) ∷ risen (0 ∷ 1 ∷ 2 ∷ []) ∷ risen (3 ∷ []) ∷ risen (4 ∷ [])
    ∷ risen (0 ∷ 1 ∷ 2 ∷ 3 ∷ []) ∷ risen (4 ∷ []) ∷ risen (0 ∷ 1 ∷ 2 ∷ 3 ∷ 4 ∷ []) ∷ fallen (0 ∷ 1 ∷ 2 ∷ 3 ∷ 4 ∷ []) ∷ fallen (4 ∷ []) ∷ fallen (4 ∷ [])
    ∷ fallen (4 ∷ []) ∷ [])
    ∷ printed (
    "0 +1 0 1\n" ∷ "0 +1 2\n" ∷ "0 +1 3\n" ∷ "0 +1 4\n" ∷ "0 +1 0 1 2\n" ∷ "0 +1 3\n" ∷ "0 +1 4\n" ∷ "0 +1 0 1 2 3\n" ∷ "0 +1 4\n" ∷ "0 +1 0 1 2 3 4\n"
    ∷ "0 -1 0 1 2 3 4\n" ∷ "0 -1 4\n" ∷ "0 -1 4\n" ∷ "0 -1 4\n" ∷ "numbers 3 3 3 3 0\n" ∷ "order 4 3 2 0 1\n" ∷ [])
    ∷ all_numbers (3 ∷ 3 ∷ 3 ∷ 3 ∷ 0 ∷ []) ∷ whole_order (4 ∷ 3 ∷ 2 ∷ 0 ∷ 1 ∷ []) ∷ shell_tree (root ∷ node 0 3 root_name ∷ []) (0 ∷ 0 ∷ 0 ∷ 0 ∷ root_name ∷ [])
    ∷ backbone_radios (0 ∷ 1 ∷ 2 ∷ 3 ∷ []) ∷ connected_core 4 0 0 (4 ∷ []) ∷ connected_core 0 3 0 (0 ∷ 1 ∷ 2 ∷ 3 ∷ [])
    ∷ connected_core 2 1 0 (0 ∷ 1 ∷ 2 ∷ 3 ∷ []) ∷ connected_core 0 4 8 [] ∷ connected_core 5 0 4 [] ∷ image_checks 1536 (67 ∷ 76 ∷ 358 ∷ []) ∷ [])
    -- a clique of 6, one link down
    ∷ row 6 (
    up 0 1 ∷ up 0 2 ∷ up 0 3 ∷ up 0 4 ∷ up 0 5 ∷ up 1 2 ∷ up 1 3 ∷ up 1 4 ∷ up 1 5 ∷ up 2 3 ∷ up 2 4 ∷ up 2 5 ∷ up 3 4 ∷ up 3 5 ∷ up 4 5 ∷ down 2 4 ∷ []) (
    last_answers (
    risen (0 ∷ 1 ∷ []) ∷ risen (2 ∷ []) ∷ risen (3 ∷ []) ∷ risen (4 ∷ []) ∷ risen (5 ∷ []) ∷ risen (0 ∷ 1 ∷ 2 ∷ []) ∷ risen (3 ∷ []) ∷ risen (4 ∷ [])
    ∷ risen (5 ∷ []) ∷ risen (0 ∷ 1 ∷ 2 ∷ 3 ∷ []) ∷ risen (4 ∷ []) ∷ risen (5 ∷ []) ∷ risen (0 ∷ 1 ∷ 2 ∷ 3 ∷ 4 ∷ []) ∷ risen (5 ∷ [])
    ∷ risen (0 ∷ 1 ∷ 2 ∷ 3 ∷ 4 ∷ 5 ∷ []) ∷ fallen (0 ∷ 1 ∷ 2 ∷ 3 ∷ 4 ∷ 5 ∷ []) ∷ [])
    ∷ printed (
    "0 +1 0 1\n" ∷ "0 +1 2\n" ∷ "0 +1 3\n" ∷ "0 +1 4\n" ∷ "0 +1 5\n" ∷ "0 +1 0 1 2\n" ∷ "0 +1 3\n" ∷ "0 +1 4\n" ∷ "0 +1 5\n" ∷ "0 +1 0 1 2 3\n" ∷ "0 +1 4\n"
    ∷ "0 +1 5\n" ∷ "0 +1 0 1 2 3 4\n" ∷ "0 +1 5\n" ∷ "0 +1 0 1 2 3 4 5\n" ∷ "0 -1 0 1 2 3 4 5\n" ∷ "numbers 4 4 4 4 4 4\n" ∷ "order 4 5 3 2 0 1\n" ∷ [])
    ∷ all_numbers (4 ∷ 4 ∷ 4 ∷ 4 ∷ 4 ∷ 4 ∷ []) ∷ whole_order (4 ∷ 5 ∷ 3 ∷ 2 ∷ 0 ∷ 1 ∷ [])
    ∷ shell_tree (root ∷ node 0 4 root_name ∷ []) (0 ∷ 0 ∷ 0 ∷ 0 ∷ 0 ∷ 0 ∷ []) ∷ backbone_radios (0 ∷ 1 ∷ 2 ∷ 3 ∷ 4 ∷ 5 ∷ [])
    ∷ connected_core 5 0 0 (0 ∷ 1 ∷ 2 ∷ 3 ∷ 4 ∷ 5 ∷ []) ∷ connected_core 0 4 0 (0 ∷ 1 ∷ 2 ∷ 3 ∷ 4 ∷ 5 ∷ []) ∷ connected_core 3 1 0 (0 ∷ 1 ∷ 2 ∷ 3 ∷ 4 ∷ 5 ∷ [])
    ∷ connected_core 0 5 8 [] ∷ connected_core 6 0 4 [] ∷ image_checks 1536 (128 ∷ 123 ∷ 2723 ∷ []) ∷ [])
    -- a clique of 8
    ∷ row 8 (
    up 0 1 ∷ up 0 2 ∷ up 0 3 ∷ up 0 4 ∷ up 0 5 ∷ up 0 6 ∷ up 0 7 ∷ up 1 2 ∷ up 1 3 ∷ up 1 4 ∷ up 1 5 ∷ up 1 6 ∷ up 1 7 ∷ up 2 3 ∷ up 2 4 ∷ up 2 5 ∷ up 2 6
    ∷ up 2 7 ∷ up 3 4 ∷ up 3 5 ∷ up 3 6 ∷ up 3 7 ∷ up 4 5 ∷ up 4 6 ∷ up 4 7 ∷ up 5 6 ∷ up 5 7 ∷ up 6 7 ∷ []) (
    last_answers (
    risen (0 ∷ 1 ∷ []) ∷ risen (2 ∷ []) ∷ risen (3 ∷ []) ∷ risen (4 ∷ []) ∷ risen (5 ∷ []) ∷ risen (6 ∷ []) ∷ risen (7 ∷ []) ∷ risen (0 ∷ 1 ∷ 2 ∷ [])
    ∷ risen (3 ∷ []) ∷ risen (4 ∷ []) ∷ risen (5 ∷ []) ∷ risen (6 ∷ []) ∷ risen (7 ∷ []) ∷ risen (0 ∷ 1 ∷ 2 ∷ 3 ∷ []) ∷ risen (4 ∷ []) ∷ risen (5 ∷ [])
    ∷ risen (6 ∷ []) ∷ risen (7 ∷ []) ∷ risen (0 ∷ 1 ∷ 2 ∷ 3 ∷ 4 ∷ []) ∷ risen (5 ∷ []) ∷ risen (6 ∷ []) ∷ risen (7 ∷ []) ∷ risen (0 ∷ 1 ∷ 2 ∷ 3 ∷ 4 ∷ 5 ∷ [])
    ∷ risen (6 ∷ []) ∷ risen (7 ∷ []) ∷ risen (0 ∷ 1 ∷ 2 ∷ 3 ∷ 4 ∷ 5 ∷ 6 ∷ []) ∷ risen (7 ∷ []) ∷ risen (0 ∷ 1 ∷ 2 ∷ 3 ∷ 4 ∷ 5 ∷ 6 ∷ 7 ∷ []) ∷ [])
    ∷ printed (
    "0 +1 0 1\n" ∷ "0 +1 2\n" ∷ "0 +1 3\n" ∷ "0 +1 4\n" ∷ "0 +1 5\n" ∷ "0 +1 6\n" ∷ "0 +1 7\n" ∷ "0 +1 0 1 2\n" ∷ "0 +1 3\n" ∷ "0 +1 4\n" ∷ "0 +1 5\n"
    ∷ "0 +1 6\n" ∷ "0 +1 7\n" ∷ "0 +1 0 1 2 3\n" ∷ "0 +1 4\n" ∷ "0 +1 5\n" ∷ "0 +1 6\n" ∷ "0 +1 7\n" ∷ "0 +1 0 1 2 3 4\n" ∷ "0 +1 5\n" ∷ "0 +1 6\n" ∷ "0 +1 7\n"
    ∷ "0 +1 0 1 2 3 4 5\n" ∷ "0 +1 6\n" ∷ "0 +1 7\n" ∷ "0 +1 0 1 2 3 4 5 6\n" ∷ "0 +1 7\n" ∷ "0 +1 0 1 2 3 4 5 6 7\n" ∷ "numbers 7 7 7 7 7 7 7 7\n"
    ∷ "order 7 6 5 4 3 2 0 1\n" ∷ [])
    ∷ all_numbers (7 ∷ 7 ∷ 7 ∷ 7 ∷ 7 ∷ 7 ∷ 7 ∷ 7 ∷ []) ∷ whole_order (7 ∷ 6 ∷ 5 ∷ 4 ∷ 3 ∷ 2 ∷ 0 ∷ 1 ∷ [])
    ∷ shell_tree (root ∷ node 0 7 root_name ∷ []) (0 ∷ 0 ∷ 0 ∷ 0 ∷ 0 ∷ 0 ∷ 0 ∷ 0 ∷ []) ∷ backbone_radios (0 ∷ 1 ∷ 2 ∷ 3 ∷ 4 ∷ 5 ∷ 6 ∷ 7 ∷ [])
    ∷ connected_core 7 0 0 (0 ∷ 1 ∷ 2 ∷ 3 ∷ 4 ∷ 5 ∷ 6 ∷ 7 ∷ []) ∷ connected_core 0 7 0 (0 ∷ 1 ∷ 2 ∷ 3 ∷ 4 ∷ 5 ∷ 6 ∷ 7 ∷ [])
    ∷ connected_core 4 1 0 (0 ∷ 1 ∷ 2 ∷ 3 ∷ 4 ∷ 5 ∷ 6 ∷ 7 ∷ []) ∷ connected_core 0 8 8 [] ∷ connected_core 8 0 4 [] ∷ image_checks 1536 (236 ∷ 258 ∷ 14372 ∷ [])
    ∷ [])
    -- two cliques of 4 torn down in turn
    ∷ row 8 (
    up 0 2 ∷ up 0 4 ∷ up 0 6 ∷ up 2 4 ∷ up 2 6 ∷ up 4 6 ∷ up 1 3 ∷ up 1 5 ∷ up 1 7 ∷ up 3 5 ∷ up 3 7 ∷ up 5 7 ∷ down 0 2 ∷ down 1 3 ∷ down 4 6 ∷ down 5 7
    ∷ down 0 6 ∷ []) (
    last_answers (
    risen (0 ∷ 2 ∷ []) ∷ risen (4 ∷ []) ∷ risen (6 ∷ []) ∷ risen (0 ∷ 2 ∷ 4 ∷ []) ∷ risen (6 ∷ []) ∷ risen (0 ∷ 2 ∷ 4 ∷ 6 ∷ []) ∷ risen (1 ∷ 3 ∷ [])
    ∷ risen (5 ∷ []) ∷ risen (7 ∷ []) ∷ risen (1 ∷ 3 ∷ 5 ∷ []) ∷ risen (7 ∷ []) ∷ risen (1 ∷ 3 ∷ 5 ∷ 7 ∷ []) ∷ fallen (0 ∷ 2 ∷ 4 ∷ 6 ∷ [])
    ∷ fallen (1 ∷ 3 ∷ 5 ∷ 7 ∷ []) ∷ unchanged ∷ unchanged ∷ fallen (0 ∷ 2 ∷ 4 ∷ 6 ∷ []) ∷ [])
    ∷ printed (
    "0 +1 0 2\n" ∷ "0 +1 4\n" ∷ "0 +1 6\n" ∷ "0 +1 0 2 4\n" ∷ "0 +1 6\n" ∷ "0 +1 0 2 4 6\n" ∷ "0 +1 1 3\n" ∷ "0 +1 5\n" ∷ "0 +1 7\n" ∷ "0 +1 1 3 5\n"
    ∷ "0 +1 7\n" ∷ "0 +1 1 3 5 7\n" ∷ "0 -1 0 2 4 6\n" ∷ "0 -1 1 3 5 7\n" ∷ "0 0\n" ∷ "0 0\n" ∷ "0 -1 0 2 4 6\n" ∷ "numbers 1 2 1 2 1 2 1 2\n"
    ∷ "order 0 6 4 2 1 7 5 3\n" ∷ [])
    ∷ all_numbers (1 ∷ 2 ∷ 1 ∷ 2 ∷ 1 ∷ 2 ∷ 1 ∷ 2 ∷ []) ∷ whole_order (0 ∷ 6 ∷ 4 ∷ 2 ∷ 1 ∷ 7 ∷ 5 ∷ 3 ∷ [])
    ∷ shell_tree (root ∷ node 0 1 root_name ∷ node 1 2 root_name ∷ []) (0 ∷ 1 ∷ 0 ∷ 1 ∷ 0 ∷ 1 ∷ 0 ∷ 1 ∷ [])
    ∷ backbone_radios (0 ∷ 1 ∷ 2 ∷ 3 ∷ 4 ∷ 5 ∷ 6 ∷ 7 ∷ []) ∷ connected_core 7 0 0 (1 ∷ 3 ∷ 5 ∷ 7 ∷ []) ∷ connected_core 1 2 0 (1 ∷ 3 ∷ 5 ∷ 7 ∷ [])
    ∷ connected_core 4 1 0 (0 ∷ 2 ∷ 4 ∷ 6 ∷ []) ∷ connected_core 0 2 8 [] ∷ connected_core 8 0 4 [] ∷ image_checks 1536 (89 ∷ 364 ∷ 1022 ∷ []) ∷ [])
    -- two cliques of 4 with one radio in both
    ∷ row 7 (
    up 0 1 ∷ up 0 2 ∷ up 0 3 ∷ up 1 2 ∷ up 1 3 ∷ up 2 3 ∷ up 3 4 ∷ up 3 5 ∷ up 3 6 ∷ up 4 5 ∷ up 4 6 ∷ up 5 6 ∷ []) (
    last_answers (
    risen (0 ∷ 1 ∷ []) ∷ risen (2 ∷ []) ∷ risen (3 ∷ []) ∷ risen (0 ∷ 1 ∷ 2 ∷ []) ∷ risen (3 ∷ []) ∷ risen (0 ∷ 1 ∷ 2 ∷ 3 ∷ []) ∷ risen (4 ∷ [])
    ∷ risen (5 ∷ []) ∷ risen (6 ∷ []) ∷ risen (4 ∷ 5 ∷ []) ∷ risen (6 ∷ []) ∷ risen (4 ∷ 5 ∷ 6 ∷ []) ∷ [])
    ∷ printed (
    "0 +1 0 1\n" ∷ "0 +1 2\n" ∷ "0 +1 3\n" ∷ "0 +1 0 1 2\n" ∷ "0 +1 3\n" ∷ "0 +1 0 1 2 3\n" ∷ "0 +1 4\n" ∷ "0 +1 5\n" ∷ "0 +1 6\n" ∷ "0 +1 4 5\n" ∷ "0 +1 6\n"
    ∷ "0 +1 4 5 6\n" ∷ "numbers 3 3 3 3 3 3 3\n" ∷ "order 6 5 4 3 2 0 1\n" ∷ [])
    ∷ all_numbers (3 ∷ 3 ∷ 3 ∷ 3 ∷ 3 ∷ 3 ∷ 3 ∷ []) ∷ whole_order (6 ∷ 5 ∷ 4 ∷ 3 ∷ 2 ∷ 0 ∷ 1 ∷ [])
    ∷ shell_tree (root ∷ node 0 3 root_name ∷ []) (0 ∷ 0 ∷ 0 ∷ 0 ∷ 0 ∷ 0 ∷ 0 ∷ []) ∷ backbone_radios (0 ∷ 1 ∷ 2 ∷ 3 ∷ 4 ∷ 5 ∷ 6 ∷ [])
    ∷ connected_core 6 0 0 (0 ∷ 1 ∷ 2 ∷ 3 ∷ 4 ∷ 5 ∷ 6 ∷ []) ∷ connected_core 0 3 0 (0 ∷ 1 ∷ 2 ∷ 3 ∷ 4 ∷ 5 ∷ 6 ∷ [])
    ∷ connected_core 3 1 0 (0 ∷ 1 ∷ 2 ∷ 3 ∷ 4 ∷ 5 ∷ 6 ∷ []) ∷ connected_core 0 4 8 [] ∷ connected_core 7 0 4 [] ∷ image_checks 1536 (119 ∷ 181 ∷ 2580 ∷ []) ∷
    [])
    -- three against three, then a link inside a side
    ∷ row 6 (
    up 0 3 ∷ up 0 4 ∷ up 0 5 ∷ up 1 3 ∷ up 1 4 ∷ up 1 5 ∷ up 2 3 ∷ up 2 4 ∷ up 2 5 ∷ up 0 1 ∷ down 0 3 ∷ []) (
    last_answers (
    risen (0 ∷ 3 ∷ []) ∷ risen (4 ∷ []) ∷ risen (5 ∷ []) ∷ risen (1 ∷ []) ∷ risen (0 ∷ 1 ∷ 3 ∷ 4 ∷ []) ∷ risen (5 ∷ []) ∷ risen (2 ∷ []) ∷ risen (2 ∷ [])
    ∷ risen (0 ∷ 1 ∷ 2 ∷ 3 ∷ 4 ∷ 5 ∷ []) ∷ unchanged ∷ fallen (0 ∷ 1 ∷ 2 ∷ 3 ∷ 4 ∷ 5 ∷ []) ∷ [])
    ∷ printed (
    "0 +1 0 3\n" ∷ "0 +1 4\n" ∷ "0 +1 5\n" ∷ "0 +1 1\n" ∷ "0 +1 0 1 3 4\n" ∷ "0 +1 5\n" ∷ "0 +1 2\n" ∷ "0 +1 2\n" ∷ "0 +1 0 1 2 3 4 5\n" ∷ "0 0\n"
    ∷ "0 -1 0 1 2 3 4 5\n" ∷ "numbers 2 2 2 2 2 2\n" ∷ "order 3 2 5 1 4 0\n" ∷ [])
    ∷ all_numbers (2 ∷ 2 ∷ 2 ∷ 2 ∷ 2 ∷ 2 ∷ []) ∷ whole_order (3 ∷ 2 ∷ 5 ∷ 1 ∷ 4 ∷ 0 ∷ [])
    ∷ shell_tree (root ∷ node 0 2 root_name ∷ []) (0 ∷ 0 ∷ 0 ∷ 0 ∷ 0 ∷ 0 ∷ []) ∷ backbone_radios (0 ∷ 1 ∷ 2 ∷ 3 ∷ 4 ∷ 5 ∷ [])
    ∷ connected_core 5 0 0 (0 ∷ 1 ∷ 2 ∷ 3 ∷ 4 ∷ 5 ∷ []) ∷ connected_core 0 2 0 (0 ∷ 1 ∷ 2 ∷ 3 ∷ 4 ∷ 5 ∷ []) ∷ connected_core 3 1 0 (0 ∷ 1 ∷ 2 ∷ 3 ∷ 4 ∷ 5 ∷ [])
    ∷ connected_core 0 3 8 [] ∷ connected_core 6 0 4 [] ∷ image_checks 1536 (93 ∷ 141 ∷ 1107 ∷ []) ∷ [])
    ∷ []

unfoldable pub joins : List Row
joins =
    -- two pairs join, and part again
    row 4 (
    up 0 1 ∷ up 2 3 ∷ up 1 2 ∷ down 1 2 ∷ []) (
    last_answers (
    risen (0 ∷ 1 ∷ []) ∷ risen (2 ∷ 3 ∷ []) ∷ unchanged ∷ unchanged ∷ [])
    ∷ printed (
    "0 +1 0 1\n" ∷ "0 +1 2 3\n" ∷ "0 0\n" ∷ "0 0\n" ∷ "numbers 1 1 1 1\n" ∷ "order 3 2 0 1\n" ∷ []) ∷ all_numbers (1 ∷ 1 ∷ 1 ∷ 1 ∷ [])
    ∷ whole_order (3 ∷ 2 ∷ 0 ∷ 1 ∷ []) ∷ shell_tree (root ∷ node 0 1 root_name ∷ node 2 1 root_name ∷ []) (0 ∷ 0 ∷ 2 ∷ 2 ∷ [])
    ∷ backbone_radios (0 ∷ 1 ∷ 2 ∷ 3 ∷ []) ∷ connected_core 3 0 0 (2 ∷ 3 ∷ []) ∷ connected_core 0 1 0 (0 ∷ 1 ∷ []) ∷ connected_core 2 1 0 (2 ∷ 3 ∷ [])
    ∷ connected_core 0 2 8 [] ∷ connected_core 4 0 4 [] ∷ image_checks 1536 (34 ∷ 44 ∷ 66 ∷ []) ∷ [])
    -- two triangles join by one link, by two, by three
    ∷ row 6 (
    up 0 1 ∷ up 1 2 ∷ up 0 2 ∷ up 3 4 ∷ up 4 5 ∷ up 3 5 ∷ up 0 3 ∷ up 1 4 ∷ up 2 5 ∷ []) (
    last_answers (
    risen (0 ∷ 1 ∷ []) ∷ risen (2 ∷ []) ∷ risen (0 ∷ 1 ∷ 2 ∷ []) ∷ risen (3 ∷ 4 ∷ []) ∷ risen (5 ∷ []) ∷ risen (3 ∷ 4 ∷ 5 ∷ []) ∷ unchanged ∷ unchanged
    ∷ risen (0 ∷ 1 ∷ 2 ∷ 3 ∷ 4 ∷ 5 ∷ []) ∷ [])
    ∷ printed (
    "0 +1 0 1\n" ∷ "0 +1 2\n" ∷ "0 +1 0 1 2\n" ∷ "0 +1 3 4\n" ∷ "0 +1 5\n" ∷ "0 +1 3 4 5\n" ∷ "0 0\n" ∷ "0 0\n" ∷ "0 +1 0 1 2 3 4 5\n" ∷ "numbers 3 3 3 3 3 3\n"
    ∷ "order 5 3 4 2 0 1\n" ∷ [])
    ∷ all_numbers (3 ∷ 3 ∷ 3 ∷ 3 ∷ 3 ∷ 3 ∷ []) ∷ whole_order (5 ∷ 3 ∷ 4 ∷ 2 ∷ 0 ∷ 1 ∷ [])
    ∷ shell_tree (root ∷ node 0 3 root_name ∷ []) (0 ∷ 0 ∷ 0 ∷ 0 ∷ 0 ∷ 0 ∷ []) ∷ backbone_radios (0 ∷ 1 ∷ 2 ∷ 3 ∷ 4 ∷ 5 ∷ [])
    ∷ connected_core 5 0 0 (0 ∷ 1 ∷ 2 ∷ 3 ∷ 4 ∷ 5 ∷ []) ∷ connected_core 0 3 0 (0 ∷ 1 ∷ 2 ∷ 3 ∷ 4 ∷ 5 ∷ []) ∷ connected_core 3 1 0 (0 ∷ 1 ∷ 2 ∷ 3 ∷ 4 ∷ 5 ∷ [])
    ∷ connected_core 0 4 8 [] ∷ connected_core 6 0 4 [] ∷ image_checks 1536 (93 ∷ 123 ∷ 1263 ∷ []) ∷ [])
    -- two triangles joined, the joint goes down
    ∷ row 7 (
    up 0 1 ∷ up 1 2 ∷ up 0 2 ∷ up 4 5 ∷ up 5 6 ∷ up 4 6 ∷ up 2 3 ∷ up 3 4 ∷ down 2 3 ∷ down 3 4 ∷ []) (
    last_answers (
    risen (0 ∷ 1 ∷ []) ∷ risen (2 ∷ []) ∷ risen (0 ∷ 1 ∷ 2 ∷ []) ∷ risen (4 ∷ 5 ∷ []) ∷ risen (6 ∷ []) ∷ risen (4 ∷ 5 ∷ 6 ∷ []) ∷ risen (3 ∷ [])
    ∷ risen (3 ∷ []) ∷ fallen (3 ∷ []) ∷ fallen (3 ∷ []) ∷ [])
    ∷ printed (
    "0 +1 0 1\n" ∷ "0 +1 2\n" ∷ "0 +1 0 1 2\n" ∷ "0 +1 4 5\n" ∷ "0 +1 6\n" ∷ "0 +1 4 5 6\n" ∷ "0 +1 3\n" ∷ "0 +1 3\n" ∷ "0 -1 3\n" ∷ "0 -1 3\n"
    ∷ "numbers 2 2 2 0 2 2 2\n" ∷ "order 3 6 4 5 2 0 1\n" ∷ [])
    ∷ all_numbers (2 ∷ 2 ∷ 2 ∷ 0 ∷ 2 ∷ 2 ∷ 2 ∷ []) ∷ whole_order (3 ∷ 6 ∷ 4 ∷ 5 ∷ 2 ∷ 0 ∷ 1 ∷ [])
    ∷ shell_tree (root ∷ node 0 2 root_name ∷ node 4 2 root_name ∷ []) (0 ∷ 0 ∷ 0 ∷ root_name ∷ 4 ∷ 4 ∷ 4 ∷ []) ∷ backbone_radios (0 ∷ 1 ∷ 2 ∷ 4 ∷ 5 ∷ 6 ∷ [])
    ∷ connected_core 6 0 0 (4 ∷ 5 ∷ 6 ∷ []) ∷ connected_core 0 2 0 (0 ∷ 1 ∷ 2 ∷ []) ∷ connected_core 3 1 8 [] ∷ connected_core 0 3 8 []
    ∷ connected_core 7 0 4 [] ∷ image_checks 1536 (77 ∷ 195 ∷ 752 ∷ []) ∷ [])
    -- a triangle and a clique of 4 join
    ∷ row 8 (
    up 5 6 ∷ up 6 7 ∷ up 5 7 ∷ up 0 1 ∷ up 0 2 ∷ up 0 3 ∷ up 1 2 ∷ up 1 3 ∷ up 2 3 ∷ up 3 5 ∷ up 2 4 ∷ up 4 7 ∷ []) (
    last_answers (
    risen (5 ∷ 6 ∷ []) ∷ risen (7 ∷ []) ∷ risen (5 ∷ 6 ∷ 7 ∷ []) ∷ risen (0 ∷ 1 ∷ []) ∷ risen (2 ∷ []) ∷ risen (3 ∷ []) ∷ risen (0 ∷ 1 ∷ 2 ∷ [])
    ∷ risen (3 ∷ []) ∷ risen (0 ∷ 1 ∷ 2 ∷ 3 ∷ []) ∷ unchanged ∷ risen (4 ∷ []) ∷ risen (4 ∷ []) ∷ [])
    ∷ printed (
    "0 +1 5 6\n" ∷ "0 +1 7\n" ∷ "0 +1 5 6 7\n" ∷ "0 +1 0 1\n" ∷ "0 +1 2\n" ∷ "0 +1 3\n" ∷ "0 +1 0 1 2\n" ∷ "0 +1 3\n" ∷ "0 +1 0 1 2 3\n" ∷ "0 0\n" ∷ "0 +1 4\n"
    ∷ "0 +1 4\n" ∷ "numbers 3 3 3 3 2 2 2 2\n" ∷ "order 4 7 5 6 3 2 0 1\n" ∷ [])
    ∷ all_numbers (3 ∷ 3 ∷ 3 ∷ 3 ∷ 2 ∷ 2 ∷ 2 ∷ 2 ∷ []) ∷ whole_order (4 ∷ 7 ∷ 5 ∷ 6 ∷ 3 ∷ 2 ∷ 0 ∷ 1 ∷ [])
    ∷ shell_tree (root ∷ node 4 2 root_name ∷ node 0 3 4 ∷ []) (0 ∷ 0 ∷ 0 ∷ 0 ∷ 4 ∷ 4 ∷ 4 ∷ 4 ∷ []) ∷ backbone_radios (0 ∷ 1 ∷ 2 ∷ 3 ∷ [])
    ∷ connected_core 7 0 0 (0 ∷ 1 ∷ 2 ∷ 3 ∷ 4 ∷ 5 ∷ 6 ∷ 7 ∷ []) ∷ connected_core 0 3 0 (0 ∷ 1 ∷ 2 ∷ 3 ∷ [])
    ∷ connected_core 4 1 0 (0 ∷ 1 ∷ 2 ∷ 3 ∷ 4 ∷ 5 ∷ 6 ∷ 7 ∷ []) ∷ connected_core 0 4 8 [] ∷ connected_core 8 0 4 [] ∷ image_checks 1536 (124 ∷ 272 ∷ 2903 ∷ [])
    ∷ [])
    -- three pairs join to a ring
    ∷ row 6 (
    up 0 1 ∷ up 2 3 ∷ up 4 5 ∷ up 1 2 ∷ up 3 4 ∷ up 5 0 ∷ []) (
    last_answers (
    risen (0 ∷ 1 ∷ []) ∷ risen (2 ∷ 3 ∷ []) ∷ risen (4 ∷ 5 ∷ []) ∷ unchanged ∷ unchanged ∷ risen (0 ∷ 1 ∷ 2 ∷ 3 ∷ 4 ∷ 5 ∷ []) ∷ [])
    ∷ printed (
    "0 +1 0 1\n" ∷ "0 +1 2 3\n" ∷ "0 +1 4 5\n" ∷ "0 0\n" ∷ "0 0\n" ∷ "0 +1 0 1 2 3 4 5\n" ∷ "numbers 2 2 2 2 2 2\n" ∷ "order 5 4 3 2 0 1\n" ∷ [])
    ∷ all_numbers (2 ∷ 2 ∷ 2 ∷ 2 ∷ 2 ∷ 2 ∷ []) ∷ whole_order (5 ∷ 4 ∷ 3 ∷ 2 ∷ 0 ∷ 1 ∷ [])
    ∷ shell_tree (root ∷ node 0 2 root_name ∷ []) (0 ∷ 0 ∷ 0 ∷ 0 ∷ 0 ∷ 0 ∷ []) ∷ backbone_radios (0 ∷ 1 ∷ 2 ∷ 3 ∷ 4 ∷ 5 ∷ [])
    ∷ connected_core 5 0 0 (0 ∷ 1 ∷ 2 ∷ 3 ∷ 4 ∷ 5 ∷ []) ∷ connected_core 0 2 0 (0 ∷ 1 ∷ 2 ∷ 3 ∷ 4 ∷ 5 ∷ []) ∷ connected_core 3 1 0 (0 ∷ 1 ∷ 2 ∷ 3 ∷ 4 ∷ 5 ∷ [])
    ∷ connected_core 0 3 8 [] ∷ connected_core 6 0 4 [] ∷ image_checks 1536 (72 ∷ 121 ∷ 594 ∷ []) ∷ [])
    ∷ []

unfoldable pub rises : List Row
rises =
    -- equal ends in two subcores, both rise: two radios held by one triangle
    row 5 (
    up 0 1 ∷ up 1 2 ∷ up 0 2 ∷ up 0 3 ∷ up 1 4 ∷ up 3 4 ∷ []) (
    last_answers (
    risen (0 ∷ 1 ∷ []) ∷ risen (2 ∷ []) ∷ risen (0 ∷ 1 ∷ 2 ∷ []) ∷ risen (3 ∷ []) ∷ risen (4 ∷ []) ∷ risen (3 ∷ 4 ∷ []) ∷ [])
    ∷ printed (
    "0 +1 0 1\n" ∷ "0 +1 2\n" ∷ "0 +1 0 1 2\n" ∷ "0 +1 3\n" ∷ "0 +1 4\n" ∷ "0 +1 3 4\n" ∷ "numbers 2 2 2 2 2\n" ∷ "order 4 3 2 0 1\n" ∷ [])
    ∷ all_numbers (2 ∷ 2 ∷ 2 ∷ 2 ∷ 2 ∷ []) ∷ whole_order (4 ∷ 3 ∷ 2 ∷ 0 ∷ 1 ∷ []) ∷ shell_tree (root ∷ node 0 2 root_name ∷ []) (0 ∷ 0 ∷ 0 ∷ 0 ∷ 0 ∷ [])
    ∷ backbone_radios (0 ∷ 1 ∷ 2 ∷ 3 ∷ 4 ∷ []) ∷ connected_core 4 0 0 (0 ∷ 1 ∷ 2 ∷ 3 ∷ 4 ∷ []) ∷ connected_core 0 2 0 (0 ∷ 1 ∷ 2 ∷ 3 ∷ 4 ∷ [])
    ∷ connected_core 2 1 0 (0 ∷ 1 ∷ 2 ∷ 3 ∷ 4 ∷ []) ∷ connected_core 0 3 8 [] ∷ connected_core 5 0 4 [] ∷ image_checks 1536 (67 ∷ 76 ∷ 433 ∷ []) ∷ [])
    -- equal ends in two subcores of several radios, all rise
    ∷ row 7 (
    up 0 1 ∷ up 1 2 ∷ up 0 2 ∷ up 0 3 ∷ up 3 4 ∷ up 1 5 ∷ up 5 6 ∷ up 4 6 ∷ []) (
    last_answers (
    risen (0 ∷ 1 ∷ []) ∷ risen (2 ∷ []) ∷ risen (0 ∷ 1 ∷ 2 ∷ []) ∷ risen (3 ∷ []) ∷ risen (4 ∷ []) ∷ risen (5 ∷ []) ∷ risen (6 ∷ [])
    ∷ risen (3 ∷ 4 ∷ 5 ∷ 6 ∷ []) ∷ [])
    ∷ printed (
    "0 +1 0 1\n" ∷ "0 +1 2\n" ∷ "0 +1 0 1 2\n" ∷ "0 +1 3\n" ∷ "0 +1 4\n" ∷ "0 +1 5\n" ∷ "0 +1 6\n" ∷ "0 +1 3 4 5 6\n" ∷ "numbers 2 2 2 2 2 2 2\n"
    ∷ "order 6 5 4 3 2 0 1\n" ∷ [])
    ∷ all_numbers (2 ∷ 2 ∷ 2 ∷ 2 ∷ 2 ∷ 2 ∷ 2 ∷ []) ∷ whole_order (6 ∷ 5 ∷ 4 ∷ 3 ∷ 2 ∷ 0 ∷ 1 ∷ [])
    ∷ shell_tree (root ∷ node 0 2 root_name ∷ []) (0 ∷ 0 ∷ 0 ∷ 0 ∷ 0 ∷ 0 ∷ 0 ∷ []) ∷ backbone_radios (0 ∷ 1 ∷ 2 ∷ 3 ∷ 4 ∷ 5 ∷ 6 ∷ [])
    ∷ connected_core 6 0 0 (0 ∷ 1 ∷ 2 ∷ 3 ∷ 4 ∷ 5 ∷ 6 ∷ []) ∷ connected_core 0 2 0 (0 ∷ 1 ∷ 2 ∷ 3 ∷ 4 ∷ 5 ∷ 6 ∷ [])
    ∷ connected_core 3 1 0 (0 ∷ 1 ∷ 2 ∷ 3 ∷ 4 ∷ 5 ∷ 6 ∷ []) ∷ connected_core 0 3 8 [] ∷ connected_core 7 0 4 [] ∷ image_checks 1536 (91 ∷ 181 ∷ 1133 ∷ []) ∷ [])
    -- equal ends in two subcores, level 2, both rise
    ∷ row 6 (
    up 0 1 ∷ up 0 2 ∷ up 0 3 ∷ up 1 2 ∷ up 1 3 ∷ up 2 3 ∷ up 0 4 ∷ up 1 4 ∷ up 2 5 ∷ up 3 5 ∷ up 4 5 ∷ []) (
    last_answers (
    risen (0 ∷ 1 ∷ []) ∷ risen (2 ∷ []) ∷ risen (3 ∷ []) ∷ risen (0 ∷ 1 ∷ 2 ∷ []) ∷ risen (3 ∷ []) ∷ risen (0 ∷ 1 ∷ 2 ∷ 3 ∷ []) ∷ risen (4 ∷ [])
    ∷ risen (4 ∷ []) ∷ risen (5 ∷ []) ∷ risen (5 ∷ []) ∷ risen (4 ∷ 5 ∷ []) ∷ [])
    ∷ printed (
    "0 +1 0 1\n" ∷ "0 +1 2\n" ∷ "0 +1 3\n" ∷ "0 +1 0 1 2\n" ∷ "0 +1 3\n" ∷ "0 +1 0 1 2 3\n" ∷ "0 +1 4\n" ∷ "0 +1 4\n" ∷ "0 +1 5\n" ∷ "0 +1 5\n" ∷ "0 +1 4 5\n"
    ∷ "numbers 3 3 3 3 3 3\n" ∷ "order 5 4 3 2 0 1\n" ∷ [])
    ∷ all_numbers (3 ∷ 3 ∷ 3 ∷ 3 ∷ 3 ∷ 3 ∷ []) ∷ whole_order (5 ∷ 4 ∷ 3 ∷ 2 ∷ 0 ∷ 1 ∷ [])
    ∷ shell_tree (root ∷ node 0 3 root_name ∷ []) (0 ∷ 0 ∷ 0 ∷ 0 ∷ 0 ∷ 0 ∷ []) ∷ backbone_radios (0 ∷ 1 ∷ 2 ∷ 3 ∷ 4 ∷ 5 ∷ [])
    ∷ connected_core 5 0 0 (0 ∷ 1 ∷ 2 ∷ 3 ∷ 4 ∷ 5 ∷ []) ∷ connected_core 0 3 0 (0 ∷ 1 ∷ 2 ∷ 3 ∷ 4 ∷ 5 ∷ []) ∷ connected_core 3 1 0 (0 ∷ 1 ∷ 2 ∷ 3 ∷ 4 ∷ 5 ∷ [])
    ∷ connected_core 0 4 8 [] ∷ connected_core 6 0 4 [] ∷ image_checks 1536 (107 ∷ 121 ∷ 1677 ∷ []) ∷ [])
    -- a long path is looked at, three radios rise
    ∷ row 8 (
    up 0 1 ∷ up 1 2 ∷ up 2 3 ∷ up 3 4 ∷ up 4 5 ∷ up 5 6 ∷ up 6 7 ∷ up 5 7 ∷ []) (
    last_answers (
    risen (0 ∷ 1 ∷ []) ∷ risen (2 ∷ []) ∷ risen (3 ∷ []) ∷ risen (4 ∷ []) ∷ risen (5 ∷ []) ∷ risen (6 ∷ []) ∷ risen (7 ∷ []) ∷ risen (5 ∷ 6 ∷ 7 ∷ []) ∷ [])
    ∷ printed (
    "0 +1 0 1\n" ∷ "0 +1 2\n" ∷ "0 +1 3\n" ∷ "0 +1 4\n" ∷ "0 +1 5\n" ∷ "0 +1 6\n" ∷ "0 +1 7\n" ∷ "0 +1 5 6 7\n" ∷ "numbers 1 1 1 1 1 2 2 2\n"
    ∷ "order 0 1 2 3 4 7 6 5\n" ∷ [])
    ∷ all_numbers (1 ∷ 1 ∷ 1 ∷ 1 ∷ 1 ∷ 2 ∷ 2 ∷ 2 ∷ []) ∷ whole_order (0 ∷ 1 ∷ 2 ∷ 3 ∷ 4 ∷ 7 ∷ 6 ∷ 5 ∷ [])
    ∷ shell_tree (root ∷ node 0 1 root_name ∷ node 5 2 0 ∷ []) (0 ∷ 0 ∷ 0 ∷ 0 ∷ 0 ∷ 5 ∷ 5 ∷ 5 ∷ []) ∷ backbone_radios (5 ∷ 6 ∷ 7 ∷ [])
    ∷ connected_core 7 0 0 (0 ∷ 1 ∷ 2 ∷ 3 ∷ 4 ∷ 5 ∷ 6 ∷ 7 ∷ []) ∷ connected_core 5 2 0 (5 ∷ 6 ∷ 7 ∷ [])
    ∷ connected_core 4 1 0 (0 ∷ 1 ∷ 2 ∷ 3 ∷ 4 ∷ 5 ∷ 6 ∷ 7 ∷ []) ∷ connected_core 0 2 8 [] ∷ connected_core 8 0 4 [] ∷ image_checks 1536 (96 ∷ 416 ∷ 1535 ∷ [])
    ∷ [])
    -- a ring closes, all rise
    ∷ row 8 (
    up 3 1 ∷ up 1 4 ∷ up 4 0 ∷ up 0 5 ∷ up 5 2 ∷ up 2 6 ∷ up 6 7 ∷ up 7 3 ∷ []) (
    last_answers (
    risen (1 ∷ 3 ∷ []) ∷ risen (4 ∷ []) ∷ risen (0 ∷ []) ∷ risen (5 ∷ []) ∷ risen (2 ∷ []) ∷ risen (6 ∷ []) ∷ risen (7 ∷ [])
    ∷ risen (0 ∷ 1 ∷ 2 ∷ 3 ∷ 4 ∷ 5 ∷ 6 ∷ 7 ∷ []) ∷ [])
    ∷ printed (
    "0 +1 1 3\n" ∷ "0 +1 4\n" ∷ "0 +1 0\n" ∷ "0 +1 5\n" ∷ "0 +1 2\n" ∷ "0 +1 6\n" ∷ "0 +1 7\n" ∷ "0 +1 0 1 2 3 4 5 6 7\n" ∷ "numbers 2 2 2 2 2 2 2 2\n"
    ∷ "order 7 6 2 5 0 4 1 3\n" ∷ [])
    ∷ all_numbers (2 ∷ 2 ∷ 2 ∷ 2 ∷ 2 ∷ 2 ∷ 2 ∷ 2 ∷ []) ∷ whole_order (7 ∷ 6 ∷ 2 ∷ 5 ∷ 0 ∷ 4 ∷ 1 ∷ 3 ∷ [])
    ∷ shell_tree (root ∷ node 0 2 root_name ∷ []) (0 ∷ 0 ∷ 0 ∷ 0 ∷ 0 ∷ 0 ∷ 0 ∷ 0 ∷ []) ∷ backbone_radios (0 ∷ 1 ∷ 2 ∷ 3 ∷ 4 ∷ 5 ∷ 6 ∷ 7 ∷ [])
    ∷ connected_core 7 0 0 (0 ∷ 1 ∷ 2 ∷ 3 ∷ 4 ∷ 5 ∷ 6 ∷ 7 ∷ []) ∷ connected_core 0 2 0 (0 ∷ 1 ∷ 2 ∷ 3 ∷ 4 ∷ 5 ∷ 6 ∷ 7 ∷ [])
    ∷ connected_core 4 1 0 (0 ∷ 1 ∷ 2 ∷ 3 ∷ 4 ∷ 5 ∷ 6 ∷ 7 ∷ []) ∷ connected_core 0 3 8 [] ∷ connected_core 8 0 4 [] ∷ image_checks 1536 (96 ∷ 288 ∷ 1358 ∷ [])
    ∷ [])
    -- ends of different numbers, the lower level alone changes
    ∷ row 6 (
    up 0 1 ∷ up 0 2 ∷ up 0 3 ∷ up 1 2 ∷ up 1 3 ∷ up 2 3 ∷ up 4 5 ∷ up 4 0 ∷ up 5 1 ∷ []) (
    last_answers (
    risen (0 ∷ 1 ∷ []) ∷ risen (2 ∷ []) ∷ risen (3 ∷ []) ∷ risen (0 ∷ 1 ∷ 2 ∷ []) ∷ risen (3 ∷ []) ∷ risen (0 ∷ 1 ∷ 2 ∷ 3 ∷ []) ∷ risen (4 ∷ 5 ∷ []) ∷ unchanged
    ∷ risen (4 ∷ 5 ∷ []) ∷ [])
    ∷ printed (
    "0 +1 0 1\n" ∷ "0 +1 2\n" ∷ "0 +1 3\n" ∷ "0 +1 0 1 2\n" ∷ "0 +1 3\n" ∷ "0 +1 0 1 2 3\n" ∷ "0 +1 4 5\n" ∷ "0 0\n" ∷ "0 +1 4 5\n" ∷ "numbers 3 3 3 3 2 2\n"
    ∷ "order 5 4 3 2 0 1\n" ∷ [])
    ∷ all_numbers (3 ∷ 3 ∷ 3 ∷ 3 ∷ 2 ∷ 2 ∷ []) ∷ whole_order (5 ∷ 4 ∷ 3 ∷ 2 ∷ 0 ∷ 1 ∷ [])
    ∷ shell_tree (root ∷ node 4 2 root_name ∷ node 0 3 4 ∷ []) (0 ∷ 0 ∷ 0 ∷ 0 ∷ 4 ∷ 4 ∷ []) ∷ backbone_radios (0 ∷ 1 ∷ 2 ∷ 3 ∷ [])
    ∷ connected_core 5 0 0 (0 ∷ 1 ∷ 2 ∷ 3 ∷ 4 ∷ 5 ∷ []) ∷ connected_core 0 3 0 (0 ∷ 1 ∷ 2 ∷ 3 ∷ []) ∷ connected_core 3 1 0 (0 ∷ 1 ∷ 2 ∷ 3 ∷ 4 ∷ 5 ∷ [])
    ∷ connected_core 0 4 8 [] ∷ connected_core 6 0 4 [] ∷ image_checks 1536 (93 ∷ 121 ∷ 1029 ∷ []) ∷ [])
    -- no radio rises, level 1 is laid out anew
    ∷ row 6 (
    up 0 1 ∷ up 2 3 ∷ up 4 5 ∷ up 1 4 ∷ up 0 3 ∷ []) (
    last_answers (
    risen (0 ∷ 1 ∷ []) ∷ risen (2 ∷ 3 ∷ []) ∷ risen (4 ∷ 5 ∷ []) ∷ unchanged ∷ unchanged ∷ [])
    ∷ printed (
    "0 +1 0 1\n" ∷ "0 +1 2 3\n" ∷ "0 +1 4 5\n" ∷ "0 0\n" ∷ "0 0\n" ∷ "numbers 1 1 1 1 1 1\n" ∷ "order 5 4 2 3 0 1\n" ∷ [])
    ∷ all_numbers (1 ∷ 1 ∷ 1 ∷ 1 ∷ 1 ∷ 1 ∷ []) ∷ whole_order (5 ∷ 4 ∷ 2 ∷ 3 ∷ 0 ∷ 1 ∷ [])
    ∷ shell_tree (root ∷ node 0 1 root_name ∷ []) (0 ∷ 0 ∷ 0 ∷ 0 ∷ 0 ∷ 0 ∷ []) ∷ backbone_radios (0 ∷ 1 ∷ 2 ∷ 3 ∷ 4 ∷ 5 ∷ [])
    ∷ connected_core 5 0 0 (0 ∷ 1 ∷ 2 ∷ 3 ∷ 4 ∷ 5 ∷ []) ∷ connected_core 0 1 0 (0 ∷ 1 ∷ 2 ∷ 3 ∷ 4 ∷ 5 ∷ []) ∷ connected_core 3 1 0 (0 ∷ 1 ∷ 2 ∷ 3 ∷ 4 ∷ 5 ∷ [])
    ∷ connected_core 0 2 8 [] ∷ connected_core 6 0 4 [] ∷ image_checks 1536 (65 ∷ 123 ∷ 411 ∷ []) ∷ [])
    ∷ []

unfoldable pub falls : List Row
falls =
    -- a link goes down, and a whole ring falls with it
    row 8 (
    up 0 1 ∷ up 1 2 ∷ up 2 3 ∷ up 3 4 ∷ up 4 5 ∷ up 5 6 ∷ up 6 7 ∷ up 7 0 ∷ down 3 4 ∷ []) (
    last_answers (
    risen (0 ∷ 1 ∷ []) ∷ risen (2 ∷ []) ∷ risen (3 ∷ []) ∷ risen (4 ∷ []) ∷ risen (5 ∷ []) ∷ risen (6 ∷ []) ∷ risen (7 ∷ [])
    ∷ risen (0 ∷ 1 ∷ 2 ∷ 3 ∷ 4 ∷ 5 ∷ 6 ∷ 7 ∷ []) ∷ fallen (0 ∷ 1 ∷ 2 ∷ 3 ∷ 4 ∷ 5 ∷ 6 ∷ 7 ∷ []) ∷ [])
    ∷ printed (
    "0 +1 0 1\n" ∷ "0 +1 2\n" ∷ "0 +1 3\n" ∷ "0 +1 4\n" ∷ "0 +1 5\n" ∷ "0 +1 6\n" ∷ "0 +1 7\n" ∷ "0 +1 0 1 2 3 4 5 6 7\n" ∷ "0 -1 0 1 2 3 4 5 6 7\n"
    ∷ "numbers 1 1 1 1 1 1 1 1\n" ∷ "order 4 5 6 7 3 2 0 1\n" ∷ [])
    ∷ all_numbers (1 ∷ 1 ∷ 1 ∷ 1 ∷ 1 ∷ 1 ∷ 1 ∷ 1 ∷ []) ∷ whole_order (4 ∷ 5 ∷ 6 ∷ 7 ∷ 3 ∷ 2 ∷ 0 ∷ 1 ∷ [])
    ∷ shell_tree (root ∷ node 0 1 root_name ∷ []) (0 ∷ 0 ∷ 0 ∷ 0 ∷ 0 ∷ 0 ∷ 0 ∷ 0 ∷ []) ∷ backbone_radios (0 ∷ 1 ∷ 2 ∷ 3 ∷ 4 ∷ 5 ∷ 6 ∷ 7 ∷ [])
    ∷ connected_core 7 0 0 (0 ∷ 1 ∷ 2 ∷ 3 ∷ 4 ∷ 5 ∷ 6 ∷ 7 ∷ []) ∷ connected_core 0 1 0 (0 ∷ 1 ∷ 2 ∷ 3 ∷ 4 ∷ 5 ∷ 6 ∷ 7 ∷ [])
    ∷ connected_core 4 1 0 (0 ∷ 1 ∷ 2 ∷ 3 ∷ 4 ∷ 5 ∷ 6 ∷ 7 ∷ []) ∷ connected_core 0 2 8 [] ∷ connected_core 8 0 4 [] ∷ image_checks 1536 (89 ∷ 278 ∷ 1103 ∷ [])
    ∷ [])
    -- links up, then down to nothing, in the same order
    ∷ row 5 (
    up 0 1 ∷ up 1 2 ∷ up 2 3 ∷ up 3 4 ∷ down 0 1 ∷ down 1 2 ∷ down 2 3 ∷ down 3 4 ∷ []) (
    last_answers (
    risen (0 ∷ 1 ∷ []) ∷ risen (2 ∷ []) ∷ risen (3 ∷ []) ∷ risen (4 ∷ []) ∷ fallen (0 ∷ []) ∷ fallen (1 ∷ []) ∷ fallen (2 ∷ []) ∷ fallen (3 ∷ 4 ∷ []) ∷ [])
    ∷ printed (
    "0 +1 0 1\n" ∷ "0 +1 2\n" ∷ "0 +1 3\n" ∷ "0 +1 4\n" ∷ "0 -1 0\n" ∷ "0 -1 1\n" ∷ "0 -1 2\n" ∷ "0 -1 3 4\n" ∷ "numbers 0 0 0 0 0\n" ∷ "order 0 1 2 4 3\n" ∷
    [])
    ∷ all_numbers (0 ∷ 0 ∷ 0 ∷ 0 ∷ 0 ∷ []) ∷ whole_order (0 ∷ 1 ∷ 2 ∷ 4 ∷ 3 ∷ [])
    ∷ shell_tree (root ∷ []) (root_name ∷ root_name ∷ root_name ∷ root_name ∷ root_name ∷ []) ∷ backbone_radios [] ∷ connected_core 4 0 0 (4 ∷ [])
    ∷ connected_core 0 0 0 (0 ∷ []) ∷ connected_core 2 1 8 [] ∷ connected_core 0 1 8 [] ∷ connected_core 5 0 4 [] ∷ image_checks 1024 (25 ∷ 112 ∷ []) ∷ [])
    -- links up, then down to nothing, in the other order
    ∷ row 5 (
    up 4 2 ∷ up 2 0 ∷ up 0 1 ∷ up 1 3 ∷ down 1 3 ∷ down 0 1 ∷ down 2 0 ∷ down 4 2 ∷ []) (
    last_answers (
    risen (2 ∷ 4 ∷ []) ∷ risen (0 ∷ []) ∷ risen (1 ∷ []) ∷ risen (3 ∷ []) ∷ fallen (3 ∷ []) ∷ fallen (1 ∷ []) ∷ fallen (0 ∷ []) ∷ fallen (2 ∷ 4 ∷ []) ∷ [])
    ∷ printed (
    "0 +1 2 4\n" ∷ "0 +1 0\n" ∷ "0 +1 1\n" ∷ "0 +1 3\n" ∷ "0 -1 3\n" ∷ "0 -1 1\n" ∷ "0 -1 0\n" ∷ "0 -1 2 4\n" ∷ "numbers 0 0 0 0 0\n" ∷ "order 3 1 0 2 4\n" ∷
    [])
    ∷ all_numbers (0 ∷ 0 ∷ 0 ∷ 0 ∷ 0 ∷ []) ∷ whole_order (3 ∷ 1 ∷ 0 ∷ 2 ∷ 4 ∷ [])
    ∷ shell_tree (root ∷ []) (root_name ∷ root_name ∷ root_name ∷ root_name ∷ root_name ∷ []) ∷ backbone_radios [] ∷ connected_core 4 0 0 (4 ∷ [])
    ∷ connected_core 0 0 0 (0 ∷ []) ∷ connected_core 2 1 8 [] ∷ connected_core 0 1 8 [] ∷ connected_core 5 0 4 [] ∷ image_checks 1024 (25 ∷ 100 ∷ []) ∷ [])
    -- a wheel loses a spoke, then a link of its rim
    ∷ row 7 (
    up 1 2 ∷ up 2 3 ∷ up 3 4 ∷ up 4 5 ∷ up 5 6 ∷ up 6 1 ∷ up 0 1 ∷ up 0 2 ∷ up 0 3 ∷ up 0 4 ∷ up 0 5 ∷ up 0 6 ∷ down 0 3 ∷ down 5 6 ∷ []) (
    last_answers (
    risen (1 ∷ 2 ∷ []) ∷ risen (3 ∷ []) ∷ risen (4 ∷ []) ∷ risen (5 ∷ []) ∷ risen (6 ∷ []) ∷ risen (1 ∷ 2 ∷ 3 ∷ 4 ∷ 5 ∷ 6 ∷ []) ∷ risen (0 ∷ [])
    ∷ risen (0 ∷ []) ∷ unchanged ∷ unchanged ∷ unchanged ∷ risen (0 ∷ 1 ∷ 2 ∷ 3 ∷ 4 ∷ 5 ∷ 6 ∷ []) ∷ fallen (0 ∷ 1 ∷ 2 ∷ 3 ∷ 4 ∷ 5 ∷ 6 ∷ []) ∷ unchanged ∷ [])
    ∷ printed (
    "0 +1 1 2\n" ∷ "0 +1 3\n" ∷ "0 +1 4\n" ∷ "0 +1 5\n" ∷ "0 +1 6\n" ∷ "0 +1 1 2 3 4 5 6\n" ∷ "0 +1 0\n" ∷ "0 +1 0\n" ∷ "0 0\n" ∷ "0 0\n" ∷ "0 0\n"
    ∷ "0 +1 0 1 2 3 4 5 6\n" ∷ "0 -1 0 1 2 3 4 5 6\n" ∷ "0 0\n" ∷ "numbers 2 2 2 2 2 2 2\n" ∷ "order 3 4 5 6 0 1 2\n" ∷ [])
    ∷ all_numbers (2 ∷ 2 ∷ 2 ∷ 2 ∷ 2 ∷ 2 ∷ 2 ∷ []) ∷ whole_order (3 ∷ 4 ∷ 5 ∷ 6 ∷ 0 ∷ 1 ∷ 2 ∷ [])
    ∷ shell_tree (root ∷ node 0 2 root_name ∷ []) (0 ∷ 0 ∷ 0 ∷ 0 ∷ 0 ∷ 0 ∷ 0 ∷ []) ∷ backbone_radios (0 ∷ 1 ∷ 2 ∷ 3 ∷ 4 ∷ 5 ∷ 6 ∷ [])
    ∷ connected_core 6 0 0 (0 ∷ 1 ∷ 2 ∷ 3 ∷ 4 ∷ 5 ∷ 6 ∷ []) ∷ connected_core 0 2 0 (0 ∷ 1 ∷ 2 ∷ 3 ∷ 4 ∷ 5 ∷ 6 ∷ [])
    ∷ connected_core 3 1 0 (0 ∷ 1 ∷ 2 ∷ 3 ∷ 4 ∷ 5 ∷ 6 ∷ []) ∷ connected_core 0 3 8 [] ∷ connected_core 7 0 4 [] ∷ image_checks 1536 (105 ∷ 207 ∷ 1441 ∷ []) ∷
    [])
    -- a star loses its links one by one
    ∷ row 6 (
    up 5 0 ∷ up 5 1 ∷ up 5 2 ∷ up 5 3 ∷ up 5 4 ∷ down 5 0 ∷ down 5 1 ∷ down 5 2 ∷ down 5 3 ∷ down 5 4 ∷ []) (
    last_answers (
    risen (0 ∷ 5 ∷ []) ∷ risen (1 ∷ []) ∷ risen (2 ∷ []) ∷ risen (3 ∷ []) ∷ risen (4 ∷ []) ∷ fallen (0 ∷ []) ∷ fallen (1 ∷ []) ∷ fallen (2 ∷ [])
    ∷ fallen (3 ∷ []) ∷ fallen (4 ∷ 5 ∷ []) ∷ [])
    ∷ printed (
    "0 +1 0 5\n" ∷ "0 +1 1\n" ∷ "0 +1 2\n" ∷ "0 +1 3\n" ∷ "0 +1 4\n" ∷ "0 -1 0\n" ∷ "0 -1 1\n" ∷ "0 -1 2\n" ∷ "0 -1 3\n" ∷ "0 -1 4 5\n"
    ∷ "numbers 0 0 0 0 0 0\n" ∷ "order 0 1 2 3 4 5\n" ∷ [])
    ∷ all_numbers (0 ∷ 0 ∷ 0 ∷ 0 ∷ 0 ∷ 0 ∷ []) ∷ whole_order (0 ∷ 1 ∷ 2 ∷ 3 ∷ 4 ∷ 5 ∷ [])
    ∷ shell_tree (root ∷ []) (root_name ∷ root_name ∷ root_name ∷ root_name ∷ root_name ∷ root_name ∷ []) ∷ backbone_radios [] ∷ connected_core 5 0 0 (5 ∷ [])
    ∷ connected_core 0 0 0 (0 ∷ []) ∷ connected_core 3 1 8 [] ∷ connected_core 0 1 8 [] ∷ connected_core 6 0 4 [] ∷ image_checks 1024 (30 ∷ 189 ∷ []) ∷ [])
    -- a triangle opens at the end of a tail
    ∷ row 6 (
    up 3 4 ∷ up 4 5 ∷ up 3 5 ∷ up 0 1 ∷ up 1 2 ∷ up 2 3 ∷ down 4 5 ∷ []) (
    last_answers (
    risen (3 ∷ 4 ∷ []) ∷ risen (5 ∷ []) ∷ risen (3 ∷ 4 ∷ 5 ∷ []) ∷ risen (0 ∷ 1 ∷ []) ∷ risen (2 ∷ []) ∷ unchanged ∷ fallen (3 ∷ 4 ∷ 5 ∷ []) ∷ [])
    ∷ printed (
    "0 +1 3 4\n" ∷ "0 +1 5\n" ∷ "0 +1 3 4 5\n" ∷ "0 +1 0 1\n" ∷ "0 +1 2\n" ∷ "0 0\n" ∷ "0 -1 3 4 5\n" ∷ "numbers 1 1 1 1 1 1\n" ∷ "order 0 1 2 5 3 4\n" ∷ [])
    ∷ all_numbers (1 ∷ 1 ∷ 1 ∷ 1 ∷ 1 ∷ 1 ∷ []) ∷ whole_order (0 ∷ 1 ∷ 2 ∷ 5 ∷ 3 ∷ 4 ∷ [])
    ∷ shell_tree (root ∷ node 0 1 root_name ∷ []) (0 ∷ 0 ∷ 0 ∷ 0 ∷ 0 ∷ 0 ∷ []) ∷ backbone_radios (0 ∷ 1 ∷ 2 ∷ 3 ∷ 4 ∷ 5 ∷ [])
    ∷ connected_core 5 0 0 (0 ∷ 1 ∷ 2 ∷ 3 ∷ 4 ∷ 5 ∷ []) ∷ connected_core 0 1 0 (0 ∷ 1 ∷ 2 ∷ 3 ∷ 4 ∷ 5 ∷ []) ∷ connected_core 3 1 0 (0 ∷ 1 ∷ 2 ∷ 3 ∷ 4 ∷ 5 ∷ [])
    ∷ connected_core 0 2 8 [] ∷ connected_core 6 0 4 [] ∷ image_checks 1536 (65 ∷ 183 ∷ 422 ∷ []) ∷ [])
    -- one part of a level falls, the other stays
    ∷ row 6 (
    up 0 1 ∷ up 1 2 ∷ up 0 2 ∷ up 3 4 ∷ up 4 5 ∷ up 3 5 ∷ down 4 5 ∷ []) (
    last_answers (
    risen (0 ∷ 1 ∷ []) ∷ risen (2 ∷ []) ∷ risen (0 ∷ 1 ∷ 2 ∷ []) ∷ risen (3 ∷ 4 ∷ []) ∷ risen (5 ∷ []) ∷ risen (3 ∷ 4 ∷ 5 ∷ []) ∷ fallen (3 ∷ 4 ∷ 5 ∷ []) ∷ [])
    ∷ printed (
    "0 +1 0 1\n" ∷ "0 +1 2\n" ∷ "0 +1 0 1 2\n" ∷ "0 +1 3 4\n" ∷ "0 +1 5\n" ∷ "0 +1 3 4 5\n" ∷ "0 -1 3 4 5\n" ∷ "numbers 2 2 2 1 1 1\n" ∷ "order 5 3 4 2 0 1\n"
    ∷ [])
    ∷ all_numbers (2 ∷ 2 ∷ 2 ∷ 1 ∷ 1 ∷ 1 ∷ []) ∷ whole_order (5 ∷ 3 ∷ 4 ∷ 2 ∷ 0 ∷ 1 ∷ [])
    ∷ shell_tree (root ∷ node 3 1 root_name ∷ node 0 2 root_name ∷ []) (0 ∷ 0 ∷ 0 ∷ 3 ∷ 3 ∷ 3 ∷ []) ∷ backbone_radios (0 ∷ 1 ∷ 2 ∷ 3 ∷ 4 ∷ 5 ∷ [])
    ∷ connected_core 5 0 0 (3 ∷ 4 ∷ 5 ∷ []) ∷ connected_core 0 2 0 (0 ∷ 1 ∷ 2 ∷ []) ∷ connected_core 3 1 0 (3 ∷ 4 ∷ 5 ∷ []) ∷ connected_core 0 3 8 []
    ∷ connected_core 6 0 4 [] ∷ image_checks 1536 (65 ∷ 123 ∷ 385 ∷ []) ∷ [])
    -- a link goes down and nothing falls
    ∷ row 5 (
    up 0 1 ∷ up 0 2 ∷ up 0 3 ∷ up 1 2 ∷ up 1 3 ∷ up 2 3 ∷ up 0 4 ∷ up 1 4 ∷ up 2 4 ∷ down 3 0 ∷ []) (
    last_answers (
    risen (0 ∷ 1 ∷ []) ∷ risen (2 ∷ []) ∷ risen (3 ∷ []) ∷ risen (0 ∷ 1 ∷ 2 ∷ []) ∷ risen (3 ∷ []) ∷ risen (0 ∷ 1 ∷ 2 ∷ 3 ∷ []) ∷ risen (4 ∷ [])
    ∷ risen (4 ∷ []) ∷ risen (4 ∷ []) ∷ fallen (3 ∷ []) ∷ [])
    ∷ printed (
    "0 +1 0 1\n" ∷ "0 +1 2\n" ∷ "0 +1 3\n" ∷ "0 +1 0 1 2\n" ∷ "0 +1 3\n" ∷ "0 +1 0 1 2 3\n" ∷ "0 +1 4\n" ∷ "0 +1 4\n" ∷ "0 +1 4\n" ∷ "0 -1 3\n"
    ∷ "numbers 3 3 3 2 3\n" ∷ "order 3 4 2 0 1\n" ∷ [])
    ∷ all_numbers (3 ∷ 3 ∷ 3 ∷ 2 ∷ 3 ∷ []) ∷ whole_order (3 ∷ 4 ∷ 2 ∷ 0 ∷ 1 ∷ [])
    ∷ shell_tree (root ∷ node 3 2 root_name ∷ node 0 3 3 ∷ []) (0 ∷ 0 ∷ 0 ∷ 3 ∷ 0 ∷ []) ∷ backbone_radios (0 ∷ 1 ∷ 2 ∷ 4 ∷ [])
    ∷ connected_core 4 0 0 (0 ∷ 1 ∷ 2 ∷ 3 ∷ 4 ∷ []) ∷ connected_core 0 3 0 (0 ∷ 1 ∷ 2 ∷ 4 ∷ []) ∷ connected_core 2 1 0 (0 ∷ 1 ∷ 2 ∷ 3 ∷ 4 ∷ [])
    ∷ connected_core 0 4 8 [] ∷ connected_core 5 0 4 [] ∷ image_checks 1536 (81 ∷ 78 ∷ 732 ∷ []) ∷ [])
    ∷ []

unfoldable pub trees : List Row
trees =
    -- an empty level is skipped: level 3 under level 1
    row 5 (
    up 1 2 ∷ up 1 3 ∷ up 1 4 ∷ up 2 3 ∷ up 2 4 ∷ up 3 4 ∷ up 0 1 ∷ []) (
    last_answers (
    risen (1 ∷ 2 ∷ []) ∷ risen (3 ∷ []) ∷ risen (4 ∷ []) ∷ risen (1 ∷ 2 ∷ 3 ∷ []) ∷ risen (4 ∷ []) ∷ risen (1 ∷ 2 ∷ 3 ∷ 4 ∷ []) ∷ risen (0 ∷ []) ∷ [])
    ∷ printed (
    "0 +1 1 2\n" ∷ "0 +1 3\n" ∷ "0 +1 4\n" ∷ "0 +1 1 2 3\n" ∷ "0 +1 4\n" ∷ "0 +1 1 2 3 4\n" ∷ "0 +1 0\n" ∷ "numbers 1 3 3 3 3\n" ∷ "order 0 4 3 1 2\n" ∷ [])
    ∷ all_numbers (1 ∷ 3 ∷ 3 ∷ 3 ∷ 3 ∷ []) ∷ whole_order (0 ∷ 4 ∷ 3 ∷ 1 ∷ 2 ∷ [])
    ∷ shell_tree (root ∷ node 0 1 root_name ∷ node 1 3 0 ∷ []) (0 ∷ 1 ∷ 1 ∷ 1 ∷ 1 ∷ []) ∷ backbone_radios (1 ∷ 2 ∷ 3 ∷ 4 ∷ [])
    ∷ connected_core 4 0 0 (0 ∷ 1 ∷ 2 ∷ 3 ∷ 4 ∷ []) ∷ connected_core 1 3 0 (1 ∷ 2 ∷ 3 ∷ 4 ∷ []) ∷ connected_core 2 1 0 (0 ∷ 1 ∷ 2 ∷ 3 ∷ 4 ∷ [])
    ∷ connected_core 0 2 8 [] ∷ connected_core 5 0 4 [] ∷ image_checks 1536 (74 ∷ 96 ∷ 677 ∷ []) ∷ [])
    -- empty levels are skipped: level 4 under level 1
    ∷ row 7 (
    up 0 1 ∷ up 0 2 ∷ up 0 3 ∷ up 0 4 ∷ up 1 2 ∷ up 1 3 ∷ up 1 4 ∷ up 2 3 ∷ up 2 4 ∷ up 3 4 ∷ up 4 5 ∷ up 5 6 ∷ []) (
    last_answers (
    risen (0 ∷ 1 ∷ []) ∷ risen (2 ∷ []) ∷ risen (3 ∷ []) ∷ risen (4 ∷ []) ∷ risen (0 ∷ 1 ∷ 2 ∷ []) ∷ risen (3 ∷ []) ∷ risen (4 ∷ [])
    ∷ risen (0 ∷ 1 ∷ 2 ∷ 3 ∷ []) ∷ risen (4 ∷ []) ∷ risen (0 ∷ 1 ∷ 2 ∷ 3 ∷ 4 ∷ []) ∷ risen (5 ∷ []) ∷ risen (6 ∷ []) ∷ [])
    ∷ printed (
    "0 +1 0 1\n" ∷ "0 +1 2\n" ∷ "0 +1 3\n" ∷ "0 +1 4\n" ∷ "0 +1 0 1 2\n" ∷ "0 +1 3\n" ∷ "0 +1 4\n" ∷ "0 +1 0 1 2 3\n" ∷ "0 +1 4\n" ∷ "0 +1 0 1 2 3 4\n"
    ∷ "0 +1 5\n" ∷ "0 +1 6\n" ∷ "numbers 4 4 4 4 4 1 1\n" ∷ "order 6 5 4 3 2 0 1\n" ∷ [])
    ∷ all_numbers (4 ∷ 4 ∷ 4 ∷ 4 ∷ 4 ∷ 1 ∷ 1 ∷ []) ∷ whole_order (6 ∷ 5 ∷ 4 ∷ 3 ∷ 2 ∷ 0 ∷ 1 ∷ [])
    ∷ shell_tree (root ∷ node 5 1 root_name ∷ node 0 4 5 ∷ []) (0 ∷ 0 ∷ 0 ∷ 0 ∷ 0 ∷ 5 ∷ 5 ∷ []) ∷ backbone_radios (0 ∷ 1 ∷ 2 ∷ 3 ∷ 4 ∷ [])
    ∷ connected_core 6 0 0 (0 ∷ 1 ∷ 2 ∷ 3 ∷ 4 ∷ 5 ∷ 6 ∷ []) ∷ connected_core 0 4 0 (0 ∷ 1 ∷ 2 ∷ 3 ∷ 4 ∷ [])
    ∷ connected_core 3 1 0 (0 ∷ 1 ∷ 2 ∷ 3 ∷ 4 ∷ 5 ∷ 6 ∷ []) ∷ connected_core 0 5 8 [] ∷ connected_core 7 0 4 [] ∷ image_checks 1536 (119 ∷ 181 ∷ 2146 ∷ []) ∷
    [])
    -- levels 3 and 2 under one node of level 1
    ∷ row 8 (
    up 0 1 ∷ up 0 2 ∷ up 0 3 ∷ up 1 2 ∷ up 1 3 ∷ up 2 3 ∷ up 3 7 ∷ up 7 4 ∷ up 4 5 ∷ up 5 6 ∷ up 4 6 ∷ down 4 7 ∷ up 7 6 ∷ []) (
    last_answers (
    risen (0 ∷ 1 ∷ []) ∷ risen (2 ∷ []) ∷ risen (3 ∷ []) ∷ risen (0 ∷ 1 ∷ 2 ∷ []) ∷ risen (3 ∷ []) ∷ risen (0 ∷ 1 ∷ 2 ∷ 3 ∷ []) ∷ risen (7 ∷ [])
    ∷ risen (4 ∷ []) ∷ risen (5 ∷ []) ∷ risen (6 ∷ []) ∷ risen (4 ∷ 5 ∷ 6 ∷ 7 ∷ []) ∷ fallen (7 ∷ []) ∷ risen (7 ∷ []) ∷ [])
    ∷ printed (
    "0 +1 0 1\n" ∷ "0 +1 2\n" ∷ "0 +1 3\n" ∷ "0 +1 0 1 2\n" ∷ "0 +1 3\n" ∷ "0 +1 0 1 2 3\n" ∷ "0 +1 7\n" ∷ "0 +1 4\n" ∷ "0 +1 5\n" ∷ "0 +1 6\n"
    ∷ "0 +1 4 5 6 7\n" ∷ "0 -1 7\n" ∷ "0 +1 7\n" ∷ "numbers 3 3 3 3 2 2 2 2\n" ∷ "order 7 6 5 4 3 2 0 1\n" ∷ [])
    ∷ all_numbers (3 ∷ 3 ∷ 3 ∷ 3 ∷ 2 ∷ 2 ∷ 2 ∷ 2 ∷ []) ∷ whole_order (7 ∷ 6 ∷ 5 ∷ 4 ∷ 3 ∷ 2 ∷ 0 ∷ 1 ∷ [])
    ∷ shell_tree (root ∷ node 4 2 root_name ∷ node 0 3 4 ∷ []) (0 ∷ 0 ∷ 0 ∷ 0 ∷ 4 ∷ 4 ∷ 4 ∷ 4 ∷ []) ∷ backbone_radios (0 ∷ 1 ∷ 2 ∷ 3 ∷ [])
    ∷ connected_core 7 0 0 (0 ∷ 1 ∷ 2 ∷ 3 ∷ 4 ∷ 5 ∷ 6 ∷ 7 ∷ []) ∷ connected_core 0 3 0 (0 ∷ 1 ∷ 2 ∷ 3 ∷ [])
    ∷ connected_core 4 1 0 (0 ∷ 1 ∷ 2 ∷ 3 ∷ 4 ∷ 5 ∷ 6 ∷ 7 ∷ []) ∷ connected_core 0 4 8 [] ∷ connected_core 8 0 4 [] ∷ image_checks 1536 (117 ∷ 258 ∷ 2413 ∷ [])
    ∷ [])
    -- level 3 under level 2, and a part of level 1 beside it
    ∷ row 8 (
    up 2 3 ∷ up 2 4 ∷ up 2 5 ∷ up 3 4 ∷ up 3 5 ∷ up 4 5 ∷ up 2 1 ∷ up 3 1 ∷ up 0 6 ∷ []) (
    last_answers (
    risen (2 ∷ 3 ∷ []) ∷ risen (4 ∷ []) ∷ risen (5 ∷ []) ∷ risen (2 ∷ 3 ∷ 4 ∷ []) ∷ risen (5 ∷ []) ∷ risen (2 ∷ 3 ∷ 4 ∷ 5 ∷ []) ∷ risen (1 ∷ [])
    ∷ risen (1 ∷ []) ∷ risen (0 ∷ 6 ∷ []) ∷ [])
    ∷ printed (
    "0 +1 2 3\n" ∷ "0 +1 4\n" ∷ "0 +1 5\n" ∷ "0 +1 2 3 4\n" ∷ "0 +1 5\n" ∷ "0 +1 2 3 4 5\n" ∷ "0 +1 1\n" ∷ "0 +1 1\n" ∷ "0 +1 0 6\n"
    ∷ "numbers 1 2 3 3 3 3 1 0\n" ∷ "order 7 0 6 1 5 4 2 3\n" ∷ [])
    ∷ all_numbers (1 ∷ 2 ∷ 3 ∷ 3 ∷ 3 ∷ 3 ∷ 1 ∷ 0 ∷ []) ∷ whole_order (7 ∷ 0 ∷ 6 ∷ 1 ∷ 5 ∷ 4 ∷ 2 ∷ 3 ∷ [])
    ∷ shell_tree (root ∷ node 0 1 root_name ∷ node 1 2 root_name ∷ node 2 3 1 ∷ []) (0 ∷ 1 ∷ 2 ∷ 2 ∷ 2 ∷ 2 ∷ 0 ∷ root_name ∷ [])
    ∷ backbone_radios (0 ∷ 2 ∷ 3 ∷ 4 ∷ 5 ∷ 6 ∷ []) ∷ connected_core 7 0 0 (7 ∷ []) ∷ connected_core 2 3 0 (2 ∷ 3 ∷ 4 ∷ 5 ∷ [])
    ∷ connected_core 4 1 0 (1 ∷ 2 ∷ 3 ∷ 4 ∷ 5 ∷ []) ∷ connected_core 0 2 8 [] ∷ connected_core 8 0 4 [] ∷ image_checks 1536 (103 ∷ 320 ∷ 1377 ∷ []) ∷ [])
    -- levels 1, 2 and 3, one inside the other, names not in order
    ∷ row 7 (
    up 3 4 ∷ up 3 5 ∷ up 3 6 ∷ up 4 5 ∷ up 4 6 ∷ up 5 6 ∷ up 3 1 ∷ up 6 1 ∷ up 1 2 ∷ up 2 6 ∷ up 0 1 ∷ []) (
    last_answers (
    risen (3 ∷ 4 ∷ []) ∷ risen (5 ∷ []) ∷ risen (6 ∷ []) ∷ risen (3 ∷ 4 ∷ 5 ∷ []) ∷ risen (6 ∷ []) ∷ risen (3 ∷ 4 ∷ 5 ∷ 6 ∷ []) ∷ risen (1 ∷ [])
    ∷ risen (1 ∷ []) ∷ risen (2 ∷ []) ∷ risen (2 ∷ []) ∷ risen (0 ∷ []) ∷ [])
    ∷ printed (
    "0 +1 3 4\n" ∷ "0 +1 5\n" ∷ "0 +1 6\n" ∷ "0 +1 3 4 5\n" ∷ "0 +1 6\n" ∷ "0 +1 3 4 5 6\n" ∷ "0 +1 1\n" ∷ "0 +1 1\n" ∷ "0 +1 2\n" ∷ "0 +1 2\n" ∷ "0 +1 0\n"
    ∷ "numbers 1 2 2 3 3 3 3\n" ∷ "order 0 2 1 6 5 3 4\n" ∷ [])
    ∷ all_numbers (1 ∷ 2 ∷ 2 ∷ 3 ∷ 3 ∷ 3 ∷ 3 ∷ []) ∷ whole_order (0 ∷ 2 ∷ 1 ∷ 6 ∷ 5 ∷ 3 ∷ 4 ∷ [])
    ∷ shell_tree (root ∷ node 0 1 root_name ∷ node 1 2 0 ∷ node 3 3 1 ∷ []) (0 ∷ 1 ∷ 1 ∷ 3 ∷ 3 ∷ 3 ∷ 3 ∷ []) ∷ backbone_radios (3 ∷ 4 ∷ 5 ∷ 6 ∷ [])
    ∷ connected_core 6 0 0 (0 ∷ 1 ∷ 2 ∷ 3 ∷ 4 ∷ 5 ∷ 6 ∷ []) ∷ connected_core 3 3 0 (3 ∷ 4 ∷ 5 ∷ 6 ∷ []) ∷ connected_core 3 1 0 (0 ∷ 1 ∷ 2 ∷ 3 ∷ 4 ∷ 5 ∷ 6 ∷ [])
    ∷ connected_core 0 2 8 [] ∷ connected_core 7 0 4 [] ∷ image_checks 1536 (112 ∷ 271 ∷ 2421 ∷ []) ∷ [])
    -- two nodes of level 2 under one of level 1, tied by a path
    ∷ row 8 (
    up 0 1 ∷ up 1 2 ∷ up 0 2 ∷ up 5 6 ∷ up 6 7 ∷ up 5 7 ∷ up 2 3 ∷ up 3 4 ∷ up 4 5 ∷ down 3 4 ∷ up 4 3 ∷ []) (
    last_answers (
    risen (0 ∷ 1 ∷ []) ∷ risen (2 ∷ []) ∷ risen (0 ∷ 1 ∷ 2 ∷ []) ∷ risen (5 ∷ 6 ∷ []) ∷ risen (7 ∷ []) ∷ risen (5 ∷ 6 ∷ 7 ∷ []) ∷ risen (3 ∷ [])
    ∷ risen (4 ∷ []) ∷ risen (3 ∷ 4 ∷ []) ∷ fallen (3 ∷ 4 ∷ []) ∷ risen (3 ∷ 4 ∷ []) ∷ [])
    ∷ printed (
    "0 +1 0 1\n" ∷ "0 +1 2\n" ∷ "0 +1 0 1 2\n" ∷ "0 +1 5 6\n" ∷ "0 +1 7\n" ∷ "0 +1 5 6 7\n" ∷ "0 +1 3\n" ∷ "0 +1 4\n" ∷ "0 +1 3 4\n" ∷ "0 -1 3 4\n"
    ∷ "0 +1 3 4\n" ∷ "numbers 2 2 2 2 2 2 2 2\n" ∷ "order 4 3 7 5 6 2 0 1\n" ∷ [])
    ∷ all_numbers (2 ∷ 2 ∷ 2 ∷ 2 ∷ 2 ∷ 2 ∷ 2 ∷ 2 ∷ []) ∷ whole_order (4 ∷ 3 ∷ 7 ∷ 5 ∷ 6 ∷ 2 ∷ 0 ∷ 1 ∷ [])
    ∷ shell_tree (root ∷ node 0 2 root_name ∷ []) (0 ∷ 0 ∷ 0 ∷ 0 ∷ 0 ∷ 0 ∷ 0 ∷ 0 ∷ []) ∷ backbone_radios (0 ∷ 1 ∷ 2 ∷ 3 ∷ 4 ∷ 5 ∷ 6 ∷ 7 ∷ [])
    ∷ connected_core 7 0 0 (0 ∷ 1 ∷ 2 ∷ 3 ∷ 4 ∷ 5 ∷ 6 ∷ 7 ∷ []) ∷ connected_core 0 2 0 (0 ∷ 1 ∷ 2 ∷ 3 ∷ 4 ∷ 5 ∷ 6 ∷ 7 ∷ [])
    ∷ connected_core 4 1 0 (0 ∷ 1 ∷ 2 ∷ 3 ∷ 4 ∷ 5 ∷ 6 ∷ 7 ∷ []) ∷ connected_core 0 3 8 [] ∷ connected_core 8 0 4 [] ∷ image_checks 1536 (103 ∷ 290 ∷ 1797 ∷ [])
    ∷ [])
    -- a node falls apart when its tie goes down
    ∷ row 7 (
    up 0 1 ∷ up 1 2 ∷ up 0 2 ∷ up 4 5 ∷ up 5 6 ∷ up 4 6 ∷ up 2 3 ∷ up 3 4 ∷ up 0 4 ∷ down 0 4 ∷ down 3 4 ∷ []) (
    last_answers (
    risen (0 ∷ 1 ∷ []) ∷ risen (2 ∷ []) ∷ risen (0 ∷ 1 ∷ 2 ∷ []) ∷ risen (4 ∷ 5 ∷ []) ∷ risen (6 ∷ []) ∷ risen (4 ∷ 5 ∷ 6 ∷ []) ∷ risen (3 ∷ [])
    ∷ risen (3 ∷ []) ∷ unchanged ∷ unchanged ∷ fallen (3 ∷ []) ∷ [])
    ∷ printed (
    "0 +1 0 1\n" ∷ "0 +1 2\n" ∷ "0 +1 0 1 2\n" ∷ "0 +1 4 5\n" ∷ "0 +1 6\n" ∷ "0 +1 4 5 6\n" ∷ "0 +1 3\n" ∷ "0 +1 3\n" ∷ "0 0\n" ∷ "0 0\n" ∷ "0 -1 3\n"
    ∷ "numbers 2 2 2 1 2 2 2\n" ∷ "order 3 6 4 5 2 0 1\n" ∷ [])
    ∷ all_numbers (2 ∷ 2 ∷ 2 ∷ 1 ∷ 2 ∷ 2 ∷ 2 ∷ []) ∷ whole_order (3 ∷ 6 ∷ 4 ∷ 5 ∷ 2 ∷ 0 ∷ 1 ∷ [])
    ∷ shell_tree (root ∷ node 3 1 root_name ∷ node 0 2 3 ∷ node 4 2 root_name ∷ []) (0 ∷ 0 ∷ 0 ∷ 3 ∷ 4 ∷ 4 ∷ 4 ∷ [])
    ∷ backbone_radios (0 ∷ 1 ∷ 2 ∷ 4 ∷ 5 ∷ 6 ∷ []) ∷ connected_core 6 0 0 (4 ∷ 5 ∷ 6 ∷ []) ∷ connected_core 0 2 0 (0 ∷ 1 ∷ 2 ∷ [])
    ∷ connected_core 3 1 0 (0 ∷ 1 ∷ 2 ∷ 3 ∷ []) ∷ connected_core 0 3 8 [] ∷ connected_core 7 0 4 [] ∷ image_checks 1536 (84 ∷ 195 ∷ 963 ∷ []) ∷ [])
    ∷ []

unfoldable pub printing : List Row
printing =
    -- two digits
    row 12 (
    up 9 10 ∷ up 11 10 ∷ up 9 11 ∷ up 0 11 ∷ down 10 9 ∷ up 12 3 ∷ []) (
    last_answers (
    risen (9 ∷ 10 ∷ []) ∷ risen (11 ∷ []) ∷ risen (9 ∷ 10 ∷ 11 ∷ []) ∷ risen (0 ∷ []) ∷ fallen (9 ∷ 10 ∷ 11 ∷ []) ∷ refused 4 ∷ [])
    ∷ printed (
    "0 +1 9 10\n" ∷ "0 +1 11\n" ∷ "0 +1 9 10 11\n" ∷ "0 +1 0\n" ∷ "0 -1 9 10 11\n" ∷ "4 0\n" ∷ "numbers 1 0 0 0 0 0 0 0 0 1 1 1\n"
    ∷ "order 1 2 3 4 5 6 7 8 0 9 11 10\n" ∷ [])
    ∷ [])
    -- three digits
    ∷ row 101 (
    up 99 100 ∷ []) (
    last_answers (
    risen (99 ∷ 100 ∷ []) ∷ [])
    ∷ printed (
    "0 +1 99 100\n"
    ∷ "numbers 0 0 0 0 0 0 0 0 0 0 0 0 0 0 0 0 0 0 0 0 0 0 0 0 0 0 0 0 0 0 0 0 0 0 0 0 0 0 0 0 0 0 0 0 0 0 0 0 0 0 0 0 0 0 0 0 0 0 0 0 0 0 0 0 0 0 0 0 0 0 0 0 0 0 0 0 0 0 0 0 0 0 0 0 0 0 0 0 0 0 0 0 0 0 0 0 0 0 0 1 1\n"
    ∷ "order 0 1 2 3 4 5 6 7 8 9 10 11 12 13 14 15 16 17 18 19 20 21 22 23 24 25 26 27 28 29 30 31 32 33 34 35 36 37 38 39 40 41 42 43 44 45 46 47 48 49 50 51 52 53 54 55 56 57 58 59 60 61 62 63 64 65 66 67 68 69 70 71 72 73 74 75 76 77 78 79 80 81 82 83 84 85 86 87 88 89 90 91 92 93 94 95 96 97 98 99 100\n"
    ∷ [])
    ∷ [])
    ∷ []

unfoldable pub tables : List Row
tables =
    -- a pair, a radio beside it
    row 3 (
    up 2 0 ∷ []) (
    last_answers (
    risen (0 ∷ 2 ∷ []) ∷ [])
    ∷ printed (
    "0 +1 0 2\n" ∷ "numbers 1 0 1\n" ∷ "order 1 0 2\n" ∷ []) ∷ soundness [] (1 ∷ 0 ∷ 1 ∷ []) (1 ∷ 0 ∷ 2 ∷ []) true
    ∷ soundness [] (2 ∷ 0 ∷ 1 ∷ []) (1 ∷ 0 ∷ 2 ∷ []) false ∷ soundness [] (1 ∷ 0 ∷ 0 ∷ []) (1 ∷ 0 ∷ 2 ∷ []) false
    ∷ soundness [] (1 ∷ 0 ∷ 1 ∷ []) (2 ∷ 0 ∷ 1 ∷ []) false ∷ soundness [] (1 ∷ 0 ∷ 1 ∷ []) (1 ∷ 0 ∷ 1 ∷ []) false
    ∷ soundness (put 0 0 ∷ []) (1 ∷ 0 ∷ 1 ∷ []) (1 ∷ 0 ∷ 2 ∷ []) false ∷ soundness (put 0 5 ∷ []) (1 ∷ 0 ∷ 1 ∷ []) (1 ∷ 0 ∷ 2 ∷ []) false
    ∷ soundness (put 128 9 ∷ []) (1 ∷ 0 ∷ 1 ∷ []) (1 ∷ 0 ∷ 2 ∷ []) false ∷ [])
    -- a triangle
    ∷ row 3 (
    up 0 1 ∷ up 1 2 ∷ up 0 2 ∷ []) (
    last_answers (
    risen (0 ∷ 1 ∷ []) ∷ risen (2 ∷ []) ∷ risen (0 ∷ 1 ∷ 2 ∷ []) ∷ [])
    ∷ printed (
    "0 +1 0 1\n" ∷ "0 +1 2\n" ∷ "0 +1 0 1 2\n" ∷ "numbers 2 2 2\n" ∷ "order 2 0 1\n" ∷ []) ∷ soundness [] (2 ∷ 2 ∷ 2 ∷ []) (2 ∷ 0 ∷ 1 ∷ []) true
    ∷ soundness [] (3 ∷ 2 ∷ 2 ∷ []) (2 ∷ 0 ∷ 1 ∷ []) false ∷ soundness [] (2 ∷ 2 ∷ 1 ∷ []) (2 ∷ 0 ∷ 1 ∷ []) false
    ∷ soundness [] (2 ∷ 2 ∷ 2 ∷ []) (1 ∷ 0 ∷ 2 ∷ []) true ∷ soundness [] (2 ∷ 2 ∷ 2 ∷ []) (2 ∷ 0 ∷ 2 ∷ []) false
    ∷ soundness (put 0 2 ∷ []) (2 ∷ 2 ∷ 2 ∷ []) (2 ∷ 0 ∷ 1 ∷ []) false ∷ soundness (put 0 7 ∷ []) (2 ∷ 2 ∷ 2 ∷ []) (2 ∷ 0 ∷ 1 ∷ []) false
    ∷ soundness (put 128 11 ∷ []) (2 ∷ 2 ∷ 2 ∷ []) (2 ∷ 0 ∷ 1 ∷ []) false ∷ [])
    ∷ []

unfoldable pub images : List Row
images =
    -- one radio
    row 1 [] (
    last_answers []
    ∷ printed (
    "numbers 0\n" ∷ "order 0\n" ∷ []) ∷ image_reading 1 1024 [] 0 ∷ image_reading 2 1024 [] 15 ∷ image_reading 1 1023 [] 9
    ∷ image_reading 1 0 [] 9 ∷ image_reading 1 512 [] 11 ∷ image_reading 1 1024 (put 4 2 ∷ []) 10
    ∷ image_reading 1 1024 (put 900 1 ∷ put 1020 137 ∷ put 1021 1 ∷ []) 11 ∷ image_reading 1 1024 (put 516 0 ∷ put 518 0 ∷ []) 0
    ∷ image_reading 1 1024 (put 6 1 ∷ put 508 12 ∷ []) 11 ∷ image_reading 1 1024 (put 4 0 ∷ put 508 0 ∷ []) 11
    ∷ image_reading 1 1024 (put 4 1 ∷ put 5 2 ∷ put 508 17 ∷ []) 11 ∷ image_reading 1 1024 (put 4 2 ∷ put 508 10 ∷ []) 11
    ∷ image_reading 2 1024 (put 4 2 ∷ put 508 10 ∷ []) 11 ∷ image_reading 2 1024 (put 516 1 ∷ put 1020 9 ∷ []) 11 ∷ [])
    -- two radios, one link
    ∷ row 2 (
    up 0 1 ∷ []) (
    last_answers (
    risen (0 ∷ 1 ∷ []) ∷ [])
    ∷ printed (
    "0 +1 0 1\n" ∷ "numbers 1 1\n" ∷ "order 0 1\n" ∷ []) ∷ image_reading 2 1536 [] 0 ∷ image_reading 3 1536 [] 15 ∷ image_reading 2 1535 [] 9
    ∷ image_reading 2 0 [] 9 ∷ image_reading 2 1024 [] 11 ∷ image_reading 2 1536 (put 4 1 ∷ []) 10
    ∷ image_reading 2 1536 (put 900 1 ∷ put 1020 144 ∷ put 1021 1 ∷ []) 11 ∷ image_reading 2 1536 (put 516 1 ∷ put 518 0 ∷ put 1020 9 ∷ []) 0
    ∷ image_reading 2 1536 (put 6 2 ∷ put 508 24 ∷ []) 11 ∷ image_reading 2 1536 (put 4 0 ∷ put 508 7 ∷ []) 11
    ∷ image_reading 2 1536 (put 4 1 ∷ put 5 2 ∷ put 508 24 ∷ []) 11 ∷ image_reading 2 1536 (put 4 3 ∷ put 508 22 ∷ []) 11
    ∷ image_reading 3 1536 (put 4 3 ∷ put 508 22 ∷ []) 11 ∷ image_reading 3 1536 (put 516 2 ∷ put 1020 21 ∷ []) 11
    ∷ image_reading 2 1536 (put 1028 1 ∷ put 1532 20 ∷ []) 11 ∷ [])
    ∷ []

unfoldable pub random_small : List Row
random_small =
    -- random, seed 101
    row 2 (
    down 1 0 ∷ up 0 1 ∷ up 1 0 ∷ up 0 1 ∷ down 0 1 ∷ down 0 1 ∷ up 0 1 ∷ down 0 1 ∷ []) (
    last_answers (
    refused 6 ∷ risen (0 ∷ 1 ∷ []) ∷ refused 6 ∷ refused 6 ∷ fallen (0 ∷ 1 ∷ []) ∷ refused 6 ∷ risen (0 ∷ 1 ∷ []) ∷ fallen (0 ∷ 1 ∷ []) ∷ [])
    ∷ printed (
    "6 0\n" ∷ "0 +1 0 1\n" ∷ "6 0\n" ∷ "6 0\n" ∷ "0 -1 0 1\n" ∷ "6 0\n" ∷ "0 +1 0 1\n" ∷ "0 -1 0 1\n" ∷ "numbers 0 0\n" ∷ "order 0 1\n" ∷ [])
    ∷ all_numbers (0 ∷ 0 ∷ []) ∷ whole_order (0 ∷ 1 ∷ []) ∷ shell_tree (root ∷ []) (root_name ∷ root_name ∷ []) ∷ backbone_radios []
    ∷ connected_core 1 0 0 (1 ∷ []) ∷ connected_core 0 0 0 (0 ∷ []) ∷ connected_core 1 1 8 [] ∷ connected_core 0 1 8 [] ∷ connected_core 2 0 4 []
    ∷ image_checks 1024 (10 ∷ 11 ∷ []) ∷ [])
    -- random, seed 102
    ∷ row 3 (
    up 0 2 ∷ up 2 0 ∷ down 0 2 ∷ up 0 2 ∷ down 0 2 ∷ up 1 0 ∷ up 2 3 ∷ down 0 1 ∷ up 1 0 ∷ up 1 2 ∷ []) (
    last_answers (
    risen (0 ∷ 2 ∷ []) ∷ refused 6 ∷ fallen (0 ∷ 2 ∷ []) ∷ risen (0 ∷ 2 ∷ []) ∷ fallen (0 ∷ 2 ∷ []) ∷ risen (0 ∷ 1 ∷ []) ∷ refused 4 ∷ fallen (0 ∷ 1 ∷ [])
    ∷ risen (0 ∷ 1 ∷ []) ∷ risen (2 ∷ []) ∷ [])
    ∷ printed (
    "0 +1 0 2\n" ∷ "6 0\n" ∷ "0 -1 0 2\n" ∷ "0 +1 0 2\n" ∷ "0 -1 0 2\n" ∷ "0 +1 0 1\n" ∷ "4 0\n" ∷ "0 -1 0 1\n" ∷ "0 +1 0 1\n" ∷ "0 +1 2\n" ∷ "numbers 1 1 1\n"
    ∷ "order 2 1 0\n" ∷ [])
    ∷ all_numbers (1 ∷ 1 ∷ 1 ∷ []) ∷ whole_order (2 ∷ 1 ∷ 0 ∷ []) ∷ shell_tree (root ∷ node 0 1 root_name ∷ []) (0 ∷ 0 ∷ 0 ∷ [])
    ∷ backbone_radios (0 ∷ 1 ∷ 2 ∷ []) ∷ connected_core 2 0 0 (0 ∷ 1 ∷ 2 ∷ []) ∷ connected_core 0 1 0 (0 ∷ 1 ∷ 2 ∷ []) ∷ connected_core 1 1 0 (0 ∷ 1 ∷ 2 ∷ [])
    ∷ connected_core 0 2 8 [] ∷ connected_core 3 0 4 [] ∷ image_checks 1536 (29 ∷ 21 ∷ 46 ∷ []) ∷ [])
    -- random, seed 103
    ∷ row 3 (
    down 2 0 ∷ down 2 0 ∷ down 1 0 ∷ up 2 0 ∷ up 2 0 ∷ down 0 2 ∷ up 2 0 ∷ up 0 1 ∷ down 0 1 ∷ down 0 2 ∷ up 0 1 ∷ down 0 2 ∷ []) (
    last_answers (
    refused 6 ∷ refused 6 ∷ refused 6 ∷ risen (0 ∷ 2 ∷ []) ∷ refused 6 ∷ fallen (0 ∷ 2 ∷ []) ∷ risen (0 ∷ 2 ∷ []) ∷ risen (1 ∷ []) ∷ fallen (1 ∷ [])
    ∷ fallen (0 ∷ 2 ∷ []) ∷ risen (0 ∷ 1 ∷ []) ∷ refused 6 ∷ [])
    ∷ printed (
    "6 0\n" ∷ "6 0\n" ∷ "6 0\n" ∷ "0 +1 0 2\n" ∷ "6 0\n" ∷ "0 -1 0 2\n" ∷ "0 +1 0 2\n" ∷ "0 +1 1\n" ∷ "0 -1 1\n" ∷ "0 -1 0 2\n" ∷ "0 +1 0 1\n" ∷ "6 0\n"
    ∷ "numbers 1 1 0\n" ∷ "order 2 1 0\n" ∷ [])
    ∷ all_numbers (1 ∷ 1 ∷ 0 ∷ []) ∷ whole_order (2 ∷ 1 ∷ 0 ∷ []) ∷ shell_tree (root ∷ node 0 1 root_name ∷ []) (0 ∷ 0 ∷ root_name ∷ [])
    ∷ backbone_radios (0 ∷ 1 ∷ []) ∷ connected_core 2 0 0 (2 ∷ []) ∷ connected_core 0 1 0 (0 ∷ 1 ∷ []) ∷ connected_core 1 1 0 (0 ∷ 1 ∷ [])
    ∷ connected_core 0 2 8 [] ∷ connected_core 3 0 4 [] ∷ image_checks 1536 (22 ∷ 21 ∷ 15 ∷ []) ∷ [])
    -- random, seed 104
    ∷ row 4 (
    down 1 3 ∷ up 0 3 ∷ up 0 2 ∷ down 0 3 ∷ up 1 2 ∷ up 3 4 ∷ up 0 3 ∷ up 0 3 ∷ up 0 1 ∷ up 0 3 ∷ down 0 2 ∷ down 0 1 ∷ []) (
    last_answers (
    refused 6 ∷ risen (0 ∷ 3 ∷ []) ∷ risen (2 ∷ []) ∷ fallen (3 ∷ []) ∷ risen (1 ∷ []) ∷ refused 4 ∷ risen (3 ∷ []) ∷ refused 6 ∷ risen (0 ∷ 1 ∷ 2 ∷ [])
    ∷ refused 6 ∷ fallen (0 ∷ 1 ∷ 2 ∷ []) ∷ unchanged ∷ [])
    ∷ printed (
    "6 0\n" ∷ "0 +1 0 3\n" ∷ "0 +1 2\n" ∷ "0 -1 3\n" ∷ "0 +1 1\n" ∷ "4 0\n" ∷ "0 +1 3\n" ∷ "6 0\n" ∷ "0 +1 0 1 2\n" ∷ "6 0\n" ∷ "0 -1 0 1 2\n" ∷ "0 0\n"
    ∷ "numbers 1 1 1 1\n" ∷ "order 3 2 1 0\n" ∷ [])
    ∷ all_numbers (1 ∷ 1 ∷ 1 ∷ 1 ∷ []) ∷ whole_order (3 ∷ 2 ∷ 1 ∷ 0 ∷ [])
    ∷ shell_tree (root ∷ node 0 1 root_name ∷ node 1 1 root_name ∷ []) (0 ∷ 1 ∷ 1 ∷ 0 ∷ []) ∷ backbone_radios (0 ∷ 1 ∷ 2 ∷ 3 ∷ [])
    ∷ connected_core 3 0 0 (0 ∷ 3 ∷ []) ∷ connected_core 0 1 0 (0 ∷ 3 ∷ []) ∷ connected_core 2 1 0 (1 ∷ 2 ∷ []) ∷ connected_core 0 2 8 []
    ∷ connected_core 4 0 4 [] ∷ image_checks 1536 (34 ∷ 42 ∷ 60 ∷ []) ∷ [])
    -- random, seed 105
    ∷ row 4 (
    down 0 3 ∷ up 2 1 ∷ up 1 0 ∷ down 1 2 ∷ down 0 1 ∷ down 2 0 ∷ down 0 1 ∷ down 1 2 ∷ down 3 2 ∷ up 0 2 ∷ up 2 3 ∷ up 3 1 ∷ down 0 2 ∷ up 1 3 ∷ down 1 3
    ∷ up 2 3 ∷ []) (
    last_answers (
    refused 6 ∷ risen (1 ∷ 2 ∷ []) ∷ risen (0 ∷ []) ∷ fallen (2 ∷ []) ∷ fallen (0 ∷ 1 ∷ []) ∷ refused 6 ∷ refused 6 ∷ refused 6 ∷ refused 6 ∷ risen (0 ∷ 2 ∷ [])
    ∷ risen (3 ∷ []) ∷ risen (1 ∷ []) ∷ fallen (0 ∷ []) ∷ refused 6 ∷ fallen (1 ∷ []) ∷ refused 6 ∷ [])
    ∷ printed (
    "6 0\n" ∷ "0 +1 1 2\n" ∷ "0 +1 0\n" ∷ "0 -1 2\n" ∷ "0 -1 0 1\n" ∷ "6 0\n" ∷ "6 0\n" ∷ "6 0\n" ∷ "6 0\n" ∷ "0 +1 0 2\n" ∷ "0 +1 3\n" ∷ "0 +1 1\n"
    ∷ "0 -1 0\n" ∷ "6 0\n" ∷ "0 -1 1\n" ∷ "6 0\n" ∷ "numbers 0 0 1 1\n" ∷ "order 0 1 3 2\n" ∷ [])
    ∷ all_numbers (0 ∷ 0 ∷ 1 ∷ 1 ∷ []) ∷ whole_order (0 ∷ 1 ∷ 3 ∷ 2 ∷ []) ∷ shell_tree (root ∷ node 2 1 root_name ∷ []) (root_name ∷ root_name ∷ 2 ∷ 2 ∷ [])
    ∷ backbone_radios (2 ∷ 3 ∷ []) ∷ connected_core 3 0 0 (2 ∷ 3 ∷ []) ∷ connected_core 2 1 0 (2 ∷ 3 ∷ []) ∷ connected_core 0 1 8 [] ∷ connected_core 4 0 4 []
    ∷ image_checks 1536 (27 ∷ 60 ∷ 39 ∷ []) ∷ [])
    -- random, seed 106
    ∷ row 5 (
    down 0 3 ∷ up 0 1 ∷ down 0 1 ∷ up 2 3 ∷ up 2 3 ∷ up 2 1 ∷ up 0 5 ∷ up 2 3 ∷ up 2 3 ∷ up 1 3 ∷ up 2 1 ∷ down 2 3 ∷ down 1 2 ∷ up 3 1 ∷ []) (
    last_answers (
    refused 6 ∷ risen (0 ∷ 1 ∷ []) ∷ fallen (0 ∷ 1 ∷ []) ∷ risen (2 ∷ 3 ∷ []) ∷ refused 6 ∷ risen (1 ∷ []) ∷ refused 4 ∷ refused 6 ∷ refused 6
    ∷ risen (1 ∷ 2 ∷ 3 ∷ []) ∷ refused 6 ∷ fallen (1 ∷ 2 ∷ 3 ∷ []) ∷ fallen (2 ∷ []) ∷ refused 6 ∷ [])
    ∷ printed (
    "6 0\n" ∷ "0 +1 0 1\n" ∷ "0 -1 0 1\n" ∷ "0 +1 2 3\n" ∷ "6 0\n" ∷ "0 +1 1\n" ∷ "4 0\n" ∷ "6 0\n" ∷ "6 0\n" ∷ "0 +1 1 2 3\n" ∷ "6 0\n" ∷ "0 -1 1 2 3\n"
    ∷ "0 -1 2\n" ∷ "6 0\n" ∷ "numbers 0 1 0 1 0\n" ∷ "order 4 0 2 1 3\n" ∷ [])
    ∷ all_numbers (0 ∷ 1 ∷ 0 ∷ 1 ∷ 0 ∷ []) ∷ whole_order (4 ∷ 0 ∷ 2 ∷ 1 ∷ 3 ∷ [])
    ∷ shell_tree (root ∷ node 1 1 root_name ∷ []) (root_name ∷ 1 ∷ root_name ∷ 1 ∷ root_name ∷ []) ∷ backbone_radios (1 ∷ 3 ∷ [])
    ∷ connected_core 4 0 0 (4 ∷ []) ∷ connected_core 1 1 0 (1 ∷ 3 ∷ []) ∷ connected_core 2 1 8 [] ∷ connected_core 0 1 8 [] ∷ connected_core 5 0 4 []
    ∷ image_checks 1536 (32 ∷ 92 ∷ 34 ∷ []) ∷ [])
    -- random, seed 107
    ∷ row 5 (
    up 3 4 ∷ up 3 0 ∷ up 2 4 ∷ up 1 4 ∷ up 2 0 ∷ up 3 1 ∷ up 1 2 ∷ up 1 0 ∷ up 2 4 ∷ down 3 5 ∷ down 1 2 ∷ up 3 1 ∷ up 1 2 ∷ up 4 3 ∷ up 4 0 ∷ up 0 2 ∷ []) (
    last_answers (
    risen (3 ∷ 4 ∷ []) ∷ risen (0 ∷ []) ∷ risen (2 ∷ []) ∷ risen (1 ∷ []) ∷ risen (0 ∷ 2 ∷ 3 ∷ 4 ∷ []) ∷ risen (1 ∷ []) ∷ unchanged
    ∷ risen (0 ∷ 1 ∷ 2 ∷ 3 ∷ 4 ∷ []) ∷ refused 6 ∷ refused 4 ∷ fallen (0 ∷ 1 ∷ 2 ∷ 3 ∷ 4 ∷ []) ∷ refused 6 ∷ risen (0 ∷ 1 ∷ 2 ∷ 3 ∷ 4 ∷ []) ∷ refused 6
    ∷ unchanged ∷ refused 6 ∷ [])
    ∷ printed (
    "0 +1 3 4\n" ∷ "0 +1 0\n" ∷ "0 +1 2\n" ∷ "0 +1 1\n" ∷ "0 +1 0 2 3 4\n" ∷ "0 +1 1\n" ∷ "0 0\n" ∷ "0 +1 0 1 2 3 4\n" ∷ "6 0\n" ∷ "4 0\n" ∷ "0 -1 0 1 2 3 4\n"
    ∷ "6 0\n" ∷ "0 +1 0 1 2 3 4\n" ∷ "6 0\n" ∷ "0 0\n" ∷ "6 0\n" ∷ "numbers 3 3 3 3 3\n" ∷ "order 2 0 1 3 4\n" ∷ [])
    ∷ all_numbers (3 ∷ 3 ∷ 3 ∷ 3 ∷ 3 ∷ []) ∷ whole_order (2 ∷ 0 ∷ 1 ∷ 3 ∷ 4 ∷ []) ∷ shell_tree (root ∷ node 0 3 root_name ∷ []) (0 ∷ 0 ∷ 0 ∷ 0 ∷ 0 ∷ [])
    ∷ backbone_radios (0 ∷ 1 ∷ 2 ∷ 3 ∷ 4 ∷ []) ∷ connected_core 4 0 0 (0 ∷ 1 ∷ 2 ∷ 3 ∷ 4 ∷ []) ∷ connected_core 0 3 0 (0 ∷ 1 ∷ 2 ∷ 3 ∷ 4 ∷ [])
    ∷ connected_core 2 1 0 (0 ∷ 1 ∷ 2 ∷ 3 ∷ 4 ∷ []) ∷ connected_core 0 4 8 [] ∷ connected_core 5 0 4 [] ∷ image_checks 1536 (88 ∷ 108 ∷ 957 ∷ []) ∷ [])
    -- random, seed 108
    ∷ row 5 (
    up 3 2 ∷ up 2 1 ∷ up 2 1 ∷ up 4 3 ∷ up 3 1 ∷ down 1 2 ∷ up 1 4 ∷ up 1 0 ∷ down 2 3 ∷ up 3 0 ∷ up 1 4 ∷ up 0 1 ∷ down 0 1 ∷ up 4 1 ∷ down 0 3 ∷ down 1 4
    ∷ down 3 4 ∷ down 1 3 ∷ up 1 4 ∷ up 4 1 ∷ []) (
    last_answers (
    risen (2 ∷ 3 ∷ []) ∷ risen (1 ∷ []) ∷ refused 6 ∷ risen (4 ∷ []) ∷ risen (1 ∷ 2 ∷ 3 ∷ []) ∷ fallen (1 ∷ 2 ∷ 3 ∷ []) ∷ risen (1 ∷ 3 ∷ 4 ∷ [])
    ∷ risen (0 ∷ []) ∷ fallen (2 ∷ []) ∷ risen (0 ∷ []) ∷ refused 6 ∷ refused 6 ∷ fallen (0 ∷ []) ∷ refused 6 ∷ fallen (0 ∷ []) ∷ fallen (1 ∷ 3 ∷ 4 ∷ [])
    ∷ fallen (4 ∷ []) ∷ fallen (1 ∷ 3 ∷ []) ∷ risen (1 ∷ 4 ∷ []) ∷ refused 6 ∷ [])
    ∷ printed (
    "0 +1 2 3\n" ∷ "0 +1 1\n" ∷ "6 0\n" ∷ "0 +1 4\n" ∷ "0 +1 1 2 3\n" ∷ "0 -1 1 2 3\n" ∷ "0 +1 1 3 4\n" ∷ "0 +1 0\n" ∷ "0 -1 2\n" ∷ "0 +1 0\n" ∷ "6 0\n"
    ∷ "6 0\n" ∷ "0 -1 0\n" ∷ "6 0\n" ∷ "0 -1 0\n" ∷ "0 -1 1 3 4\n" ∷ "0 -1 4\n" ∷ "0 -1 1 3\n" ∷ "0 +1 1 4\n" ∷ "6 0\n" ∷ "numbers 0 1 0 0 1\n"
    ∷ "order 2 0 3 4 1\n" ∷ [])
    ∷ all_numbers (0 ∷ 1 ∷ 0 ∷ 0 ∷ 1 ∷ []) ∷ whole_order (2 ∷ 0 ∷ 3 ∷ 4 ∷ 1 ∷ [])
    ∷ shell_tree (root ∷ node 1 1 root_name ∷ []) (root_name ∷ 1 ∷ root_name ∷ root_name ∷ 1 ∷ []) ∷ backbone_radios (1 ∷ 4 ∷ [])
    ∷ connected_core 4 0 0 (1 ∷ 4 ∷ []) ∷ connected_core 1 1 0 (1 ∷ 4 ∷ []) ∷ connected_core 2 1 8 [] ∷ connected_core 0 1 8 [] ∷ connected_core 5 0 4 []
    ∷ image_checks 1536 (32 ∷ 98 ∷ 41 ∷ []) ∷ [])
    -- random, seed 109
    ∷ row 5 (
    up 4 0 ∷ up 2 0 ∷ down 0 2 ∷ down 0 4 ∷ up 0 2 ∷ up 1 3 ∷ down 1 3 ∷ up 0 3 ∷ down 0 2 ∷ down 0 3 ∷ up 3 0 ∷ down 0 3 ∷ up 4 2 ∷ up 4 3 ∷ up 4 0 ∷ up 1 0
    ∷ up 4 1 ∷ down 1 4 ∷ down 3 4 ∷ up 2 3 ∷ down 0 0 ∷ up 3 0 ∷ up 0 3 ∷ up 1 0 ∷ []) (
    last_answers (
    risen (0 ∷ 4 ∷ []) ∷ risen (2 ∷ []) ∷ fallen (2 ∷ []) ∷ fallen (0 ∷ 4 ∷ []) ∷ risen (0 ∷ 2 ∷ []) ∷ risen (1 ∷ 3 ∷ []) ∷ fallen (1 ∷ 3 ∷ []) ∷ risen (3 ∷ [])
    ∷ fallen (2 ∷ []) ∷ fallen (0 ∷ 3 ∷ []) ∷ risen (0 ∷ 3 ∷ []) ∷ fallen (0 ∷ 3 ∷ []) ∷ risen (2 ∷ 4 ∷ []) ∷ risen (3 ∷ []) ∷ risen (0 ∷ []) ∷ risen (1 ∷ [])
    ∷ risen (0 ∷ 1 ∷ 4 ∷ []) ∷ fallen (0 ∷ 1 ∷ 4 ∷ []) ∷ fallen (3 ∷ []) ∷ risen (3 ∷ []) ∷ refused 5 ∷ risen (0 ∷ 2 ∷ 3 ∷ 4 ∷ []) ∷ refused 6 ∷ refused 6 ∷ [])
    ∷ printed (
    "0 +1 0 4\n" ∷ "0 +1 2\n" ∷ "0 -1 2\n" ∷ "0 -1 0 4\n" ∷ "0 +1 0 2\n" ∷ "0 +1 1 3\n" ∷ "0 -1 1 3\n" ∷ "0 +1 3\n" ∷ "0 -1 2\n" ∷ "0 -1 0 3\n" ∷ "0 +1 0 3\n"
    ∷ "0 -1 0 3\n" ∷ "0 +1 2 4\n" ∷ "0 +1 3\n" ∷ "0 +1 0\n" ∷ "0 +1 1\n" ∷ "0 +1 0 1 4\n" ∷ "0 -1 0 1 4\n" ∷ "0 -1 3\n" ∷ "0 +1 3\n" ∷ "5 0\n"
    ∷ "0 +1 0 2 3 4\n" ∷ "6 0\n" ∷ "6 0\n" ∷ "numbers 2 1 2 2 2\n" ∷ "order 1 3 2 0 4\n" ∷ [])
    ∷ all_numbers (2 ∷ 1 ∷ 2 ∷ 2 ∷ 2 ∷ []) ∷ whole_order (1 ∷ 3 ∷ 2 ∷ 0 ∷ 4 ∷ [])
    ∷ shell_tree (root ∷ node 1 1 root_name ∷ node 0 2 1 ∷ []) (0 ∷ 1 ∷ 0 ∷ 0 ∷ 0 ∷ []) ∷ backbone_radios (0 ∷ 2 ∷ 3 ∷ 4 ∷ [])
    ∷ connected_core 4 0 0 (0 ∷ 1 ∷ 2 ∷ 3 ∷ 4 ∷ []) ∷ connected_core 0 2 0 (0 ∷ 2 ∷ 3 ∷ 4 ∷ []) ∷ connected_core 2 1 0 (0 ∷ 1 ∷ 2 ∷ 3 ∷ 4 ∷ [])
    ∷ connected_core 0 3 8 [] ∷ connected_core 5 0 4 [] ∷ image_checks 1536 (60 ∷ 100 ∷ 333 ∷ []) ∷ [])
    ∷ []

unfoldable pub random_middle : List Row
random_middle =
    -- random, seed 201
    row 6 (
    up 0 2 ∷ up 5 3 ∷ up 3 4 ∷ up 4 3 ∷ up 5 1 ∷ up 4 2 ∷ down 3 5 ∷ down 2 4 ∷ up 2 4 ∷ up 3 1 ∷ up 0 3 ∷ down 0 3 ∷ down 1 5 ∷ up 0 2 ∷ up 4 0 ∷ up 4 2 ∷ [])
    (
    last_answers (
    risen (0 ∷ 2 ∷ []) ∷ risen (3 ∷ 5 ∷ []) ∷ risen (4 ∷ []) ∷ refused 6 ∷ risen (1 ∷ []) ∷ unchanged ∷ unchanged ∷ unchanged ∷ unchanged ∷ unchanged
    ∷ risen (0 ∷ 2 ∷ 3 ∷ 4 ∷ []) ∷ fallen (0 ∷ 2 ∷ 3 ∷ 4 ∷ []) ∷ fallen (5 ∷ []) ∷ refused 6 ∷ risen (0 ∷ 2 ∷ 4 ∷ []) ∷ refused 6 ∷ [])
    ∷ printed (
    "0 +1 0 2\n" ∷ "0 +1 3 5\n" ∷ "0 +1 4\n" ∷ "6 0\n" ∷ "0 +1 1\n" ∷ "0 0\n" ∷ "0 0\n" ∷ "0 0\n" ∷ "0 0\n" ∷ "0 0\n" ∷ "0 +1 0 2 3 4\n" ∷ "0 -1 0 2 3 4\n"
    ∷ "0 -1 5\n" ∷ "6 0\n" ∷ "0 +1 0 2 4\n" ∷ "6 0\n" ∷ "numbers 2 1 2 1 2 0\n" ∷ "order 5 1 3 4 0 2\n" ∷ [])
    ∷ all_numbers (2 ∷ 1 ∷ 2 ∷ 1 ∷ 2 ∷ 0 ∷ []) ∷ whole_order (5 ∷ 1 ∷ 3 ∷ 4 ∷ 0 ∷ 2 ∷ [])
    ∷ shell_tree (root ∷ node 1 1 root_name ∷ node 0 2 1 ∷ []) (0 ∷ 1 ∷ 0 ∷ 1 ∷ 0 ∷ root_name ∷ []) ∷ backbone_radios (0 ∷ 2 ∷ 4 ∷ [])
    ∷ connected_core 5 0 0 (5 ∷ []) ∷ connected_core 0 2 0 (0 ∷ 2 ∷ 4 ∷ []) ∷ connected_core 3 1 0 (0 ∷ 1 ∷ 2 ∷ 3 ∷ 4 ∷ []) ∷ connected_core 0 3 8 []
    ∷ connected_core 6 0 4 [] ∷ image_checks 1536 (65 ∷ 137 ∷ 389 ∷ []) ∷ [])
    -- random, seed 202
    ∷ row 6 (
    down 3 1 ∷ up 0 3 ∷ up 4 2 ∷ up 4 5 ∷ up 3 1 ∷ up 5 0 ∷ up 3 5 ∷ down 4 5 ∷ down 2 0 ∷ up 0 2 ∷ up 5 1 ∷ up 5 2 ∷ up 3 1 ∷ down 2 5 ∷ up 2 5 ∷ up 2 5
    ∷ up 2 0 ∷ up 4 3 ∷ up 2 1 ∷ up 3 2 ∷ []) (
    last_answers (
    refused 6 ∷ risen (0 ∷ 3 ∷ []) ∷ risen (2 ∷ 4 ∷ []) ∷ risen (5 ∷ []) ∷ risen (1 ∷ []) ∷ unchanged ∷ risen (0 ∷ 3 ∷ 5 ∷ []) ∷ unchanged ∷ refused 6
    ∷ unchanged ∷ risen (1 ∷ []) ∷ risen (2 ∷ []) ∷ refused 6 ∷ fallen (2 ∷ []) ∷ risen (2 ∷ []) ∷ refused 6 ∷ refused 6 ∷ risen (4 ∷ [])
    ∷ risen (0 ∷ 1 ∷ 2 ∷ 3 ∷ 5 ∷ []) ∷ unchanged ∷ [])
    ∷ printed (
    "6 0\n" ∷ "0 +1 0 3\n" ∷ "0 +1 2 4\n" ∷ "0 +1 5\n" ∷ "0 +1 1\n" ∷ "0 0\n" ∷ "0 +1 0 3 5\n" ∷ "0 0\n" ∷ "6 0\n" ∷ "0 0\n" ∷ "0 +1 1\n" ∷ "0 +1 2\n" ∷ "6 0\n"
    ∷ "0 -1 2\n" ∷ "0 +1 2\n" ∷ "6 0\n" ∷ "6 0\n" ∷ "0 +1 4\n" ∷ "0 +1 0 1 2 3 5\n" ∷ "0 0\n" ∷ "numbers 3 3 3 3 2 3\n" ∷ "order 4 1 2 5 0 3\n" ∷ [])
    ∷ all_numbers (3 ∷ 3 ∷ 3 ∷ 3 ∷ 2 ∷ 3 ∷ []) ∷ whole_order (4 ∷ 1 ∷ 2 ∷ 5 ∷ 0 ∷ 3 ∷ [])
    ∷ shell_tree (root ∷ node 4 2 root_name ∷ node 0 3 4 ∷ []) (0 ∷ 0 ∷ 0 ∷ 0 ∷ 4 ∷ 0 ∷ []) ∷ backbone_radios (0 ∷ 1 ∷ 2 ∷ 3 ∷ 5 ∷ [])
    ∷ connected_core 5 0 0 (0 ∷ 1 ∷ 2 ∷ 3 ∷ 4 ∷ 5 ∷ []) ∷ connected_core 0 3 0 (0 ∷ 1 ∷ 2 ∷ 3 ∷ 5 ∷ []) ∷ connected_core 3 1 0 (0 ∷ 1 ∷ 2 ∷ 3 ∷ 4 ∷ 5 ∷ [])
    ∷ connected_core 0 4 8 [] ∷ connected_core 6 0 4 [] ∷ image_checks 1536 (107 ∷ 149 ∷ 1726 ∷ []) ∷ [])
    -- random, seed 203
    ∷ row 6 (
    up 4 1 ∷ up 2 4 ∷ up 1 2 ∷ up 1 0 ∷ up 2 4 ∷ up 1 3 ∷ up 0 3 ∷ up 1 0 ∷ up 3 4 ∷ up 2 0 ∷ up 3 2 ∷ up 5 2 ∷ up 1 0 ∷ up 5 0 ∷ up 2 5 ∷ up 0 5 ∷ down 2 3
    ∷ up 0 2 ∷ down 0 5 ∷ up 3 2 ∷ down 2 4 ∷ up 1 3 ∷ up 1 4 ∷ up 6 1 ∷ []) (
    last_answers (
    risen (1 ∷ 4 ∷ []) ∷ risen (2 ∷ []) ∷ risen (1 ∷ 2 ∷ 4 ∷ []) ∷ risen (0 ∷ []) ∷ refused 6 ∷ risen (3 ∷ []) ∷ risen (0 ∷ 3 ∷ []) ∷ refused 6 ∷ unchanged
    ∷ risen (0 ∷ 1 ∷ 2 ∷ 3 ∷ 4 ∷ []) ∷ unchanged ∷ risen (5 ∷ []) ∷ refused 6 ∷ risen (5 ∷ []) ∷ refused 6 ∷ refused 6 ∷ unchanged ∷ refused 6 ∷ fallen (5 ∷ [])
    ∷ unchanged ∷ fallen (4 ∷ []) ∷ refused 6 ∷ refused 6 ∷ refused 4 ∷ [])
    ∷ printed (
    "0 +1 1 4\n" ∷ "0 +1 2\n" ∷ "0 +1 1 2 4\n" ∷ "0 +1 0\n" ∷ "6 0\n" ∷ "0 +1 3\n" ∷ "0 +1 0 3\n" ∷ "6 0\n" ∷ "0 0\n" ∷ "0 +1 0 1 2 3 4\n" ∷ "0 0\n"
    ∷ "0 +1 5\n" ∷ "6 0\n" ∷ "0 +1 5\n" ∷ "6 0\n" ∷ "6 0\n" ∷ "0 0\n" ∷ "6 0\n" ∷ "0 -1 5\n" ∷ "0 0\n" ∷ "0 -1 4\n" ∷ "6 0\n" ∷ "6 0\n" ∷ "4 0\n"
    ∷ "numbers 3 3 3 3 2 1\n" ∷ "order 5 4 0 3 2 1\n" ∷ [])
    ∷ all_numbers (3 ∷ 3 ∷ 3 ∷ 3 ∷ 2 ∷ 1 ∷ []) ∷ whole_order (5 ∷ 4 ∷ 0 ∷ 3 ∷ 2 ∷ 1 ∷ [])
    ∷ shell_tree (root ∷ node 5 1 root_name ∷ node 4 2 5 ∷ node 0 3 4 ∷ []) (0 ∷ 0 ∷ 0 ∷ 0 ∷ 4 ∷ 5 ∷ []) ∷ backbone_radios (0 ∷ 1 ∷ 2 ∷ 3 ∷ [])
    ∷ connected_core 5 0 0 (0 ∷ 1 ∷ 2 ∷ 3 ∷ 4 ∷ 5 ∷ []) ∷ connected_core 0 3 0 (0 ∷ 1 ∷ 2 ∷ 3 ∷ []) ∷ connected_core 3 1 0 (0 ∷ 1 ∷ 2 ∷ 3 ∷ 4 ∷ 5 ∷ [])
    ∷ connected_core 0 4 8 [] ∷ connected_core 6 0 4 [] ∷ image_checks 1536 (93 ∷ 131 ∷ 1019 ∷ []) ∷ [])
    -- random, seed 204
    ∷ row 7 (
    up 3 2 ∷ up 0 5 ∷ up 3 0 ∷ up 4 2 ∷ down 2 3 ∷ down 0 5 ∷ up 5 2 ∷ up 5 4 ∷ up 4 6 ∷ up 4 0 ∷ up 1 3 ∷ up 7 2 ∷ down 2 4 ∷ up 5 3 ∷ up 4 3 ∷ down 4 6
    ∷ up 3 4 ∷ up 4 6 ∷ []) (
    last_answers (
    risen (2 ∷ 3 ∷ []) ∷ risen (0 ∷ 5 ∷ []) ∷ unchanged ∷ risen (4 ∷ []) ∷ unchanged ∷ fallen (5 ∷ []) ∷ risen (5 ∷ []) ∷ risen (2 ∷ 4 ∷ 5 ∷ [])
    ∷ risen (6 ∷ []) ∷ unchanged ∷ risen (1 ∷ []) ∷ refused 4 ∷ fallen (2 ∷ 4 ∷ 5 ∷ []) ∷ risen (0 ∷ 3 ∷ 4 ∷ 5 ∷ []) ∷ unchanged ∷ fallen (6 ∷ []) ∷ refused 6
    ∷ risen (6 ∷ []) ∷ [])
    ∷ printed (
    "0 +1 2 3\n" ∷ "0 +1 0 5\n" ∷ "0 0\n" ∷ "0 +1 4\n" ∷ "0 0\n" ∷ "0 -1 5\n" ∷ "0 +1 5\n" ∷ "0 +1 2 4 5\n" ∷ "0 +1 6\n" ∷ "0 0\n" ∷ "0 +1 1\n" ∷ "4 0\n"
    ∷ "0 -1 2 4 5\n" ∷ "0 +1 0 3 4 5\n" ∷ "0 0\n" ∷ "0 -1 6\n" ∷ "6 0\n" ∷ "0 +1 6\n" ∷ "numbers 2 1 1 2 2 2 1\n" ∷ "order 6 1 2 0 3 4 5\n" ∷ [])
    ∷ all_numbers (2 ∷ 1 ∷ 1 ∷ 2 ∷ 2 ∷ 2 ∷ 1 ∷ []) ∷ whole_order (6 ∷ 1 ∷ 2 ∷ 0 ∷ 3 ∷ 4 ∷ 5 ∷ [])
    ∷ shell_tree (root ∷ node 1 1 root_name ∷ node 0 2 1 ∷ []) (0 ∷ 1 ∷ 1 ∷ 0 ∷ 0 ∷ 0 ∷ 1 ∷ []) ∷ backbone_radios (0 ∷ 3 ∷ 4 ∷ 5 ∷ [])
    ∷ connected_core 6 0 0 (0 ∷ 1 ∷ 2 ∷ 3 ∷ 4 ∷ 5 ∷ 6 ∷ []) ∷ connected_core 0 2 0 (0 ∷ 3 ∷ 4 ∷ 5 ∷ []) ∷ connected_core 3 1 0 (0 ∷ 1 ∷ 2 ∷ 3 ∷ 4 ∷ 5 ∷ 6 ∷ [])
    ∷ connected_core 0 3 8 [] ∷ connected_core 7 0 4 [] ∷ image_checks 1536 (91 ∷ 243 ∷ 1238 ∷ []) ∷ [])
    -- random, seed 205
    ∷ row 7 (
    up 4 3 ∷ up 6 4 ∷ up 6 1 ∷ up 1 4 ∷ down 3 4 ∷ up 6 2 ∷ up 4 3 ∷ up 4 5 ∷ up 4 2 ∷ up 2 5 ∷ up 1 3 ∷ up 6 4 ∷ up 3 2 ∷ up 1 5 ∷ down 2 3 ∷ up 6 2 ∷ up 4 1
    ∷ up 3 0 ∷ up 2 3 ∷ up 2 4 ∷ []) (
    last_answers (
    risen (3 ∷ 4 ∷ []) ∷ risen (6 ∷ []) ∷ risen (1 ∷ []) ∷ risen (1 ∷ 4 ∷ 6 ∷ []) ∷ fallen (3 ∷ []) ∷ risen (2 ∷ []) ∷ risen (3 ∷ []) ∷ risen (5 ∷ [])
    ∷ risen (2 ∷ []) ∷ risen (5 ∷ []) ∷ risen (3 ∷ []) ∷ refused 6 ∷ risen (1 ∷ 2 ∷ 3 ∷ 4 ∷ 6 ∷ []) ∷ risen (5 ∷ []) ∷ fallen (3 ∷ []) ∷ refused 6 ∷ refused 6
    ∷ risen (0 ∷ []) ∷ risen (3 ∷ []) ∷ refused 6 ∷ [])
    ∷ printed (
    "0 +1 3 4\n" ∷ "0 +1 6\n" ∷ "0 +1 1\n" ∷ "0 +1 1 4 6\n" ∷ "0 -1 3\n" ∷ "0 +1 2\n" ∷ "0 +1 3\n" ∷ "0 +1 5\n" ∷ "0 +1 2\n" ∷ "0 +1 5\n" ∷ "0 +1 3\n" ∷ "6 0\n"
    ∷ "0 +1 1 2 3 4 6\n" ∷ "0 +1 5\n" ∷ "0 -1 3\n" ∷ "6 0\n" ∷ "6 0\n" ∷ "0 +1 0\n" ∷ "0 +1 3\n" ∷ "6 0\n" ∷ "numbers 1 3 3 3 3 3 3\n" ∷ "order 0 3 5 2 1 6 4\n"
    ∷ [])
    ∷ all_numbers (1 ∷ 3 ∷ 3 ∷ 3 ∷ 3 ∷ 3 ∷ 3 ∷ []) ∷ whole_order (0 ∷ 3 ∷ 5 ∷ 2 ∷ 1 ∷ 6 ∷ 4 ∷ [])
    ∷ shell_tree (root ∷ node 0 1 root_name ∷ node 1 3 0 ∷ []) (0 ∷ 1 ∷ 1 ∷ 1 ∷ 1 ∷ 1 ∷ 1 ∷ []) ∷ backbone_radios (1 ∷ 2 ∷ 3 ∷ 4 ∷ 5 ∷ 6 ∷ [])
    ∷ connected_core 6 0 0 (0 ∷ 1 ∷ 2 ∷ 3 ∷ 4 ∷ 5 ∷ 6 ∷ []) ∷ connected_core 1 3 0 (1 ∷ 2 ∷ 3 ∷ 4 ∷ 5 ∷ 6 ∷ [])
    ∷ connected_core 3 1 0 (0 ∷ 1 ∷ 2 ∷ 3 ∷ 4 ∷ 5 ∷ 6 ∷ []) ∷ connected_core 0 2 8 [] ∷ connected_core 7 0 4 [] ∷ image_checks 1536 (119 ∷ 263 ∷ 2489 ∷ []) ∷
    [])
    -- random, seed 206
    ∷ row 7 (
    up 5 1 ∷ down 1 5 ∷ up 5 4 ∷ up 2 5 ∷ up 3 6 ∷ up 2 0 ∷ down 0 2 ∷ down 2 5 ∷ up 0 3 ∷ up 6 0 ∷ up 0 1 ∷ up 5 6 ∷ up 6 1 ∷ down 0 1 ∷ down 3 6 ∷ up 4 6
    ∷ down 0 3 ∷ up 7 7 ∷ down 5 6 ∷ up 4 1 ∷ up 5 6 ∷ down 5 6 ∷ up 6 4 ∷ up 5 0 ∷ []) (
    last_answers (
    risen (1 ∷ 5 ∷ []) ∷ fallen (1 ∷ 5 ∷ []) ∷ risen (4 ∷ 5 ∷ []) ∷ risen (2 ∷ []) ∷ risen (3 ∷ 6 ∷ []) ∷ risen (0 ∷ []) ∷ fallen (0 ∷ []) ∷ fallen (2 ∷ [])
    ∷ risen (0 ∷ []) ∷ risen (0 ∷ 3 ∷ 6 ∷ []) ∷ risen (1 ∷ []) ∷ unchanged ∷ risen (1 ∷ []) ∷ fallen (1 ∷ []) ∷ fallen (0 ∷ 3 ∷ 6 ∷ []) ∷ risen (4 ∷ 5 ∷ 6 ∷ [])
    ∷ fallen (3 ∷ []) ∷ refused 4 ∷ fallen (4 ∷ 5 ∷ 6 ∷ []) ∷ risen (1 ∷ 4 ∷ 6 ∷ []) ∷ risen (5 ∷ []) ∷ fallen (5 ∷ []) ∷ refused 6 ∷ risen (0 ∷ 5 ∷ []) ∷ [])
    ∷ printed (
    "0 +1 1 5\n" ∷ "0 -1 1 5\n" ∷ "0 +1 4 5\n" ∷ "0 +1 2\n" ∷ "0 +1 3 6\n" ∷ "0 +1 0\n" ∷ "0 -1 0\n" ∷ "0 -1 2\n" ∷ "0 +1 0\n" ∷ "0 +1 0 3 6\n" ∷ "0 +1 1\n"
    ∷ "0 0\n" ∷ "0 +1 1\n" ∷ "0 -1 1\n" ∷ "0 -1 0 3 6\n" ∷ "0 +1 4 5 6\n" ∷ "0 -1 3\n" ∷ "4 0\n" ∷ "0 -1 4 5 6\n" ∷ "0 +1 1 4 6\n" ∷ "0 +1 5\n" ∷ "0 -1 5\n"
    ∷ "6 0\n" ∷ "0 +1 0 5\n" ∷ "numbers 2 2 0 0 2 2 2\n" ∷ "order 2 3 0 5 1 4 6\n" ∷ [])
    ∷ all_numbers (2 ∷ 2 ∷ 0 ∷ 0 ∷ 2 ∷ 2 ∷ 2 ∷ []) ∷ whole_order (2 ∷ 3 ∷ 0 ∷ 5 ∷ 1 ∷ 4 ∷ 6 ∷ [])
    ∷ shell_tree (root ∷ node 0 2 root_name ∷ []) (0 ∷ 0 ∷ root_name ∷ root_name ∷ 0 ∷ 0 ∷ 0 ∷ []) ∷ backbone_radios (0 ∷ 1 ∷ 4 ∷ 5 ∷ 6 ∷ [])
    ∷ connected_core 6 0 0 (0 ∷ 1 ∷ 4 ∷ 5 ∷ 6 ∷ []) ∷ connected_core 0 2 0 (0 ∷ 1 ∷ 4 ∷ 5 ∷ 6 ∷ []) ∷ connected_core 3 1 8 [] ∷ connected_core 0 3 8 []
    ∷ connected_core 7 0 4 [] ∷ image_checks 1536 (77 ∷ 265 ∷ 774 ∷ []) ∷ [])
    ∷ []

unfoldable pub random_large : List Row
random_large =
    -- random, seed 301
    row 8 (
    up 7 4 ∷ up 4 0 ∷ down 4 7 ∷ down 0 4 ∷ up 5 3 ∷ up 7 0 ∷ up 1 7 ∷ up 2 6 ∷ down 2 6 ∷ up 6 0 ∷ up 6 7 ∷ up 1 4 ∷ down 0 7 ∷ up 4 5 ∷ up 6 7 ∷ up 7 6
    ∷ up 3 0 ∷ up 4 0 ∷ down 0 6 ∷ up 5 1 ∷ []) (
    last_answers (
    risen (4 ∷ 7 ∷ []) ∷ risen (0 ∷ []) ∷ fallen (7 ∷ []) ∷ fallen (0 ∷ 4 ∷ []) ∷ risen (3 ∷ 5 ∷ []) ∷ risen (0 ∷ 7 ∷ []) ∷ risen (1 ∷ []) ∷ risen (2 ∷ 6 ∷ [])
    ∷ fallen (2 ∷ 6 ∷ []) ∷ risen (6 ∷ []) ∷ risen (0 ∷ 6 ∷ 7 ∷ []) ∷ risen (4 ∷ []) ∷ fallen (0 ∷ 6 ∷ 7 ∷ []) ∷ unchanged ∷ refused 6 ∷ refused 6
    ∷ risen (0 ∷ 1 ∷ 3 ∷ 4 ∷ 5 ∷ 6 ∷ 7 ∷ []) ∷ unchanged ∷ fallen (1 ∷ 6 ∷ 7 ∷ []) ∷ risen (1 ∷ []) ∷ [])
    ∷ printed (
    "0 +1 4 7\n" ∷ "0 +1 0\n" ∷ "0 -1 7\n" ∷ "0 -1 0 4\n" ∷ "0 +1 3 5\n" ∷ "0 +1 0 7\n" ∷ "0 +1 1\n" ∷ "0 +1 2 6\n" ∷ "0 -1 2 6\n" ∷ "0 +1 6\n" ∷ "0 +1 0 6 7\n"
    ∷ "0 +1 4\n" ∷ "0 -1 0 6 7\n" ∷ "0 0\n" ∷ "6 0\n" ∷ "6 0\n" ∷ "0 +1 0 1 3 4 5 6 7\n" ∷ "0 0\n" ∷ "0 -1 1 6 7\n" ∷ "0 +1 1\n" ∷ "numbers 2 2 0 2 2 2 1 1\n"
    ∷ "order 2 6 7 1 3 5 4 0\n" ∷ [])
    ∷ all_numbers (2 ∷ 2 ∷ 0 ∷ 2 ∷ 2 ∷ 2 ∷ 1 ∷ 1 ∷ []) ∷ whole_order (2 ∷ 6 ∷ 7 ∷ 1 ∷ 3 ∷ 5 ∷ 4 ∷ 0 ∷ [])
    ∷ shell_tree (root ∷ node 6 1 root_name ∷ node 0 2 6 ∷ []) (0 ∷ 0 ∷ root_name ∷ 0 ∷ 0 ∷ 0 ∷ 6 ∷ 6 ∷ []) ∷ backbone_radios (0 ∷ 1 ∷ 3 ∷ 4 ∷ 5 ∷ [])
    ∷ connected_core 7 0 0 (0 ∷ 1 ∷ 3 ∷ 4 ∷ 5 ∷ 6 ∷ 7 ∷ []) ∷ connected_core 0 2 0 (0 ∷ 1 ∷ 3 ∷ 4 ∷ 5 ∷ [])
    ∷ connected_core 4 1 0 (0 ∷ 1 ∷ 3 ∷ 4 ∷ 5 ∷ 6 ∷ 7 ∷ []) ∷ connected_core 0 3 8 [] ∷ connected_core 8 0 4 [] ∷ image_checks 1536 (96 ∷ 312 ∷ 1364 ∷ []) ∷ [])
    -- random, seed 302
    ∷ row 8 (
    down 6 3 ∷ down 6 3 ∷ up 6 2 ∷ up 0 5 ∷ up 0 5 ∷ down 5 6 ∷ up 7 3 ∷ up 2 0 ∷ up 6 2 ∷ up 6 5 ∷ up 3 0 ∷ up 1 4 ∷ up 4 0 ∷ up 2 6 ∷ up 2 3 ∷ up 0 6 ∷ up 0 2
    ∷ down 5 6 ∷ up 7 0 ∷ up 4 3 ∷ up 3 7 ∷ up 3 6 ∷ up 7 5 ∷ up 6 1 ∷ []) (
    last_answers (
    refused 6 ∷ refused 6 ∷ risen (2 ∷ 6 ∷ []) ∷ risen (0 ∷ 5 ∷ []) ∷ refused 6 ∷ refused 6 ∷ risen (3 ∷ 7 ∷ []) ∷ unchanged ∷ refused 6
    ∷ risen (0 ∷ 2 ∷ 5 ∷ 6 ∷ []) ∷ unchanged ∷ risen (1 ∷ 4 ∷ []) ∷ unchanged ∷ refused 6 ∷ risen (3 ∷ []) ∷ unchanged ∷ refused 6 ∷ fallen (5 ∷ [])
    ∷ risen (7 ∷ []) ∷ risen (4 ∷ []) ∷ refused 6 ∷ risen (0 ∷ 2 ∷ 3 ∷ 6 ∷ []) ∷ risen (5 ∷ []) ∷ risen (1 ∷ []) ∷ [])
    ∷ printed (
    "6 0\n" ∷ "6 0\n" ∷ "0 +1 2 6\n" ∷ "0 +1 0 5\n" ∷ "6 0\n" ∷ "6 0\n" ∷ "0 +1 3 7\n" ∷ "0 0\n" ∷ "6 0\n" ∷ "0 +1 0 2 5 6\n" ∷ "0 0\n" ∷ "0 +1 1 4\n" ∷ "0 0\n"
    ∷ "6 0\n" ∷ "0 +1 3\n" ∷ "0 0\n" ∷ "6 0\n" ∷ "0 -1 5\n" ∷ "0 +1 7\n" ∷ "0 +1 4\n" ∷ "6 0\n" ∷ "0 +1 0 2 3 6\n" ∷ "0 +1 5\n" ∷ "0 +1 1\n"
    ∷ "numbers 3 2 3 3 2 2 3 2\n" ∷ "order 1 5 4 7 3 0 2 6\n" ∷ [])
    ∷ all_numbers (3 ∷ 2 ∷ 3 ∷ 3 ∷ 2 ∷ 2 ∷ 3 ∷ 2 ∷ []) ∷ whole_order (1 ∷ 5 ∷ 4 ∷ 7 ∷ 3 ∷ 0 ∷ 2 ∷ 6 ∷ [])
    ∷ shell_tree (root ∷ node 1 2 root_name ∷ node 0 3 1 ∷ []) (0 ∷ 1 ∷ 0 ∷ 0 ∷ 1 ∷ 1 ∷ 0 ∷ 1 ∷ []) ∷ backbone_radios (0 ∷ 2 ∷ 3 ∷ 6 ∷ [])
    ∷ connected_core 7 0 0 (0 ∷ 1 ∷ 2 ∷ 3 ∷ 4 ∷ 5 ∷ 6 ∷ 7 ∷ []) ∷ connected_core 0 3 0 (0 ∷ 2 ∷ 3 ∷ 6 ∷ [])
    ∷ connected_core 4 1 0 (0 ∷ 1 ∷ 2 ∷ 3 ∷ 4 ∷ 5 ∷ 6 ∷ 7 ∷ []) ∷ connected_core 0 4 8 [] ∷ connected_core 8 0 4 [] ∷ image_checks 1536 (138 ∷ 344 ∷ 3482 ∷ [])
    ∷ [])
    -- random, seed 303
    ∷ row 8 (
    up 3 0 ∷ down 0 3 ∷ up 1 2 ∷ up 0 4 ∷ down 1 2 ∷ down 0 4 ∷ up 2 1 ∷ up 3 6 ∷ up 4 7 ∷ down 3 6 ∷ down 4 7 ∷ up 7 1 ∷ up 1 6 ∷ up 2 3 ∷ up 6 0 ∷ up 3 1
    ∷ down 0 6 ∷ up 3 5 ∷ up 0 2 ∷ up 4 3 ∷ up 6 0 ∷ up 2 5 ∷ up 6 2 ∷ up 5 4 ∷ []) (
    last_answers (
    risen (0 ∷ 3 ∷ []) ∷ fallen (0 ∷ 3 ∷ []) ∷ risen (1 ∷ 2 ∷ []) ∷ risen (0 ∷ 4 ∷ []) ∷ fallen (1 ∷ 2 ∷ []) ∷ fallen (0 ∷ 4 ∷ []) ∷ risen (1 ∷ 2 ∷ [])
    ∷ risen (3 ∷ 6 ∷ []) ∷ risen (4 ∷ 7 ∷ []) ∷ fallen (3 ∷ 6 ∷ []) ∷ fallen (4 ∷ 7 ∷ []) ∷ risen (7 ∷ []) ∷ risen (6 ∷ []) ∷ risen (3 ∷ []) ∷ risen (0 ∷ [])
    ∷ risen (1 ∷ 2 ∷ 3 ∷ []) ∷ fallen (0 ∷ []) ∷ risen (5 ∷ []) ∷ risen (0 ∷ []) ∷ risen (4 ∷ []) ∷ risen (0 ∷ 6 ∷ []) ∷ risen (5 ∷ []) ∷ unchanged
    ∷ risen (4 ∷ []) ∷ [])
    ∷ printed (
    "0 +1 0 3\n" ∷ "0 -1 0 3\n" ∷ "0 +1 1 2\n" ∷ "0 +1 0 4\n" ∷ "0 -1 1 2\n" ∷ "0 -1 0 4\n" ∷ "0 +1 1 2\n" ∷ "0 +1 3 6\n" ∷ "0 +1 4 7\n" ∷ "0 -1 3 6\n"
    ∷ "0 -1 4 7\n" ∷ "0 +1 7\n" ∷ "0 +1 6\n" ∷ "0 +1 3\n" ∷ "0 +1 0\n" ∷ "0 +1 1 2 3\n" ∷ "0 -1 0\n" ∷ "0 +1 5\n" ∷ "0 +1 0\n" ∷ "0 +1 4\n" ∷ "0 +1 0 6\n"
    ∷ "0 +1 5\n" ∷ "0 0\n" ∷ "0 +1 4\n" ∷ "numbers 2 2 2 2 2 2 2 1\n" ∷ "order 7 4 5 0 6 3 1 2\n" ∷ [])
    ∷ all_numbers (2 ∷ 2 ∷ 2 ∷ 2 ∷ 2 ∷ 2 ∷ 2 ∷ 1 ∷ []) ∷ whole_order (7 ∷ 4 ∷ 5 ∷ 0 ∷ 6 ∷ 3 ∷ 1 ∷ 2 ∷ [])
    ∷ shell_tree (root ∷ node 7 1 root_name ∷ node 0 2 7 ∷ []) (0 ∷ 0 ∷ 0 ∷ 0 ∷ 0 ∷ 0 ∷ 0 ∷ 7 ∷ []) ∷ backbone_radios (0 ∷ 1 ∷ 2 ∷ 3 ∷ 4 ∷ 5 ∷ 6 ∷ [])
    ∷ connected_core 7 0 0 (0 ∷ 1 ∷ 2 ∷ 3 ∷ 4 ∷ 5 ∷ 6 ∷ 7 ∷ []) ∷ connected_core 0 2 0 (0 ∷ 1 ∷ 2 ∷ 3 ∷ 4 ∷ 5 ∷ 6 ∷ [])
    ∷ connected_core 4 1 0 (0 ∷ 1 ∷ 2 ∷ 3 ∷ 4 ∷ 5 ∷ 6 ∷ 7 ∷ []) ∷ connected_core 0 3 8 [] ∷ connected_core 8 0 4 [] ∷ image_checks 1536 (124 ∷ 290 ∷ 2394 ∷ [])
    ∷ [])
    -- random, seed 304
    ∷ row 8 (
    up 7 0 ∷ up 4 1 ∷ up 0 7 ∷ up 1 2 ∷ up 6 3 ∷ up 3 2 ∷ up 5 0 ∷ up 6 5 ∷ down 2 3 ∷ up 6 0 ∷ up 1 0 ∷ up 0 3 ∷ up 2 6 ∷ up 7 0 ∷ down 3 0 ∷ up 7 4 ∷ up 7 6
    ∷ up 7 4 ∷ up 0 3 ∷ up 6 3 ∷ up 0 1 ∷ up 4 2 ∷ up 1 6 ∷ up 0 6 ∷ up 4 7 ∷ down 0 7 ∷ down 2 6 ∷ up 4 1 ∷ []) (
    last_answers (
    risen (0 ∷ 7 ∷ []) ∷ risen (1 ∷ 4 ∷ []) ∷ refused 6 ∷ risen (2 ∷ []) ∷ risen (3 ∷ 6 ∷ []) ∷ unchanged ∷ risen (5 ∷ []) ∷ unchanged ∷ unchanged
    ∷ risen (0 ∷ 5 ∷ 6 ∷ []) ∷ unchanged ∷ risen (3 ∷ []) ∷ risen (1 ∷ 2 ∷ []) ∷ refused 6 ∷ fallen (3 ∷ []) ∷ risen (4 ∷ 7 ∷ []) ∷ unchanged ∷ refused 6
    ∷ risen (3 ∷ []) ∷ refused 6 ∷ refused 6 ∷ risen (0 ∷ 1 ∷ 2 ∷ 4 ∷ 6 ∷ 7 ∷ []) ∷ unchanged ∷ refused 6 ∷ refused 6 ∷ fallen (0 ∷ 1 ∷ 2 ∷ 4 ∷ 6 ∷ 7 ∷ [])
    ∷ unchanged ∷ refused 6 ∷ [])
    ∷ printed (
    "0 +1 0 7\n" ∷ "0 +1 1 4\n" ∷ "6 0\n" ∷ "0 +1 2\n" ∷ "0 +1 3 6\n" ∷ "0 0\n" ∷ "0 +1 5\n" ∷ "0 0\n" ∷ "0 0\n" ∷ "0 +1 0 5 6\n" ∷ "0 0\n" ∷ "0 +1 3\n"
    ∷ "0 +1 1 2\n" ∷ "6 0\n" ∷ "0 -1 3\n" ∷ "0 +1 4 7\n" ∷ "0 0\n" ∷ "6 0\n" ∷ "0 +1 3\n" ∷ "6 0\n" ∷ "6 0\n" ∷ "0 +1 0 1 2 4 6 7\n" ∷ "0 0\n" ∷ "6 0\n"
    ∷ "6 0\n" ∷ "0 -1 0 1 2 4 6 7\n" ∷ "0 0\n" ∷ "6 0\n" ∷ "numbers 2 2 2 2 2 2 2 2\n" ∷ "order 3 5 7 4 2 1 6 0\n" ∷ [])
    ∷ all_numbers (2 ∷ 2 ∷ 2 ∷ 2 ∷ 2 ∷ 2 ∷ 2 ∷ 2 ∷ []) ∷ whole_order (3 ∷ 5 ∷ 7 ∷ 4 ∷ 2 ∷ 1 ∷ 6 ∷ 0 ∷ [])
    ∷ shell_tree (root ∷ node 0 2 root_name ∷ []) (0 ∷ 0 ∷ 0 ∷ 0 ∷ 0 ∷ 0 ∷ 0 ∷ 0 ∷ []) ∷ backbone_radios (0 ∷ 1 ∷ 2 ∷ 3 ∷ 4 ∷ 5 ∷ 6 ∷ 7 ∷ [])
    ∷ connected_core 7 0 0 (0 ∷ 1 ∷ 2 ∷ 3 ∷ 4 ∷ 5 ∷ 6 ∷ 7 ∷ []) ∷ connected_core 0 2 0 (0 ∷ 1 ∷ 2 ∷ 3 ∷ 4 ∷ 5 ∷ 6 ∷ 7 ∷ [])
    ∷ connected_core 4 1 0 (0 ∷ 1 ∷ 2 ∷ 3 ∷ 4 ∷ 5 ∷ 6 ∷ 7 ∷ []) ∷ connected_core 0 3 8 [] ∷ connected_core 8 0 4 [] ∷ image_checks 1536 (124 ∷ 304 ∷ 2826 ∷ [])
    ∷ [])
    ∷ []

unfoldable pub histories : List Row
histories = refusals ++ (cliques ++ (joins ++ (rises ++
    (falls ++ (trees ++ (printing ++ (tables ++ (images ++ (random_small ++ (random_middle ++ random_large))))))))))
