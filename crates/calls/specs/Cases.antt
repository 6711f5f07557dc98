-- Document 01's cases M1 to M10, and further cases of documents 01 and 02, as one table. That every row is right is `cases_right` in proofs/Cases.antt.
-- Definitions only.
use Rattle.std.specs.Prelude.{◌∷◌, ◌++◌}
use Rattle.lists.specs.{Kit.{List, [], map, ℕ}, Lists.{range}}
use Rattle.mesh.specs.Tree.{node}
use Rattle.calls.specs.{Switches.{Switch}, Worked.{up, down, risen, fallen, unchanged, refused, last_answers, all_numbers, whole_order, shell_tree}}
use Rattle.calls.specs.{Worked.{connected_core, backbone_radios, image_checks, printed, staircase_list, formerly, script, bad_text, Row, row}}

unfoldable pub triangle : (a b c : ℕ) → List Switch
triangle a b c = up a b ∷ up b c ∷ up a c ∷ []

unfoldable pub two_triangles : List Switch
two_triangles = triangle 0 1 2 ++ triangle 3 4 5

-- the links of M5 and M6
unfoldable pub two_triangles_tied : List Switch
two_triangles_tied = two_triangles ++ (up 2 3 ∷ up 0 6 ∷ [])

-- M1, its answers and what it prints, whole
unfoldable pub m1 : Row
m1 = row 4 (up 0 1 ∷ up 1 2 ∷ up 0 2 ∷ down 0 1 ∷ []) (
    last_answers (
    risen (0 ∷ 1 ∷ [])
    ∷ risen (2 ∷ [])
    ∷ risen (0 ∷ 1 ∷ 2 ∷ [])
    ∷ fallen (0 ∷ 1 ∷ 2 ∷ [])
    ∷ [])
    ∷ all_numbers (1 ∷ 1 ∷ 1 ∷ 0 ∷ [])
    ∷ whole_order (3 ∷ 0 ∷ 2 ∷ 1 ∷ [])
    ∷ printed (
    "0 +1 0 1\n"
    ∷ "0 +1 2\n"
    ∷ "0 +1 0 1 2\n"
    ∷ "0 -1 0 1 2\n"
    ∷ "numbers 1 1 1 0\n"
    ∷ "order 3 0 2 1\n"
    ∷ [])
    ∷ [])

-- M2: the last call changes no number; the order goes from 2 3 0 1 to 3 2 0 1; what it prints, whole
unfoldable pub m2_before : Row
m2_before = row 4 (up 0 1 ∷ up 2 3 ∷ []) (
    all_numbers (1 ∷ 1 ∷ 1 ∷ 1 ∷ []) ∷ whole_order (2 ∷ 3 ∷ 0 ∷ 1 ∷ []) ∷ [])

unfoldable pub m2 : Row
m2 = row 4 (up 0 1 ∷ up 2 3 ∷ up 0 2 ∷ []) (
    last_answers (unchanged ∷ [])
    ∷ all_numbers (1 ∷ 1 ∷ 1 ∷ 1 ∷ [])
    ∷ whole_order (3 ∷ 2 ∷ 0 ∷ 1 ∷ [])
    ∷ printed ("0 +1 0 1\n" ∷ "0 +1 2 3\n" ∷ "0 0\n" ∷ "numbers 1 1 1 1\n" ∷ "order 3 2 0 1\n" ∷ [])
    ∷ [])

-- M3: all have 2; nodes 0 and 3 at level 2 under the root
unfoldable pub m3 : Row
m3 = row 6 two_triangles (
    all_numbers (2 ∷ 2 ∷ 2 ∷ 2 ∷ 2 ∷ 2 ∷ [])
    ∷ shell_tree (node 65535 0 65535 ∷ node 0 2 65535 ∷ node 3 2 65535 ∷ []) (0 ∷ 0 ∷ 0 ∷ 3 ∷ 3 ∷ 3 ∷ [])
    ∷ [])

-- M4: no change of numbers; one node beside the root, 0 at level 2
unfoldable pub m4 : Row
m4 = row 6 (two_triangles ++ (up 2 3 ∷ [])) (
    last_answers (unchanged ∷ [])
    ∷ all_numbers (2 ∷ 2 ∷ 2 ∷ 2 ∷ 2 ∷ 2 ∷ [])
    ∷ shell_tree (node 65535 0 65535 ∷ node 0 2 65535 ∷ []) (0 ∷ 0 ∷ 0 ∷ 0 ∷ 0 ∷ 0 ∷ [])
    ∷ [])

-- M5: node 6 at level 1, node 0 at level 2 with parent 6
unfoldable pub m5 : Row
m5 = row 7 two_triangles_tied (
    shell_tree (node 65535 0 65535 ∷ node 6 1 65535 ∷ node 0 2 6 ∷ []) (0 ∷ 0 ∷ 0 ∷ 0 ∷ 0 ∷ 0 ∷ 6 ∷ []) ∷ [])

-- M6: the core of radio 6 at level 1 is all seven; at level 2: refusal 8
unfoldable pub m6 : Row
m6 = row 7 two_triangles_tied (
    connected_core 6 1 0 (0 ∷ 1 ∷ 2 ∷ 3 ∷ 4 ∷ 5 ∷ 6 ∷ []) ∷ connected_core 6 2 8 [] ∷ [])

-- M7: triangle 0 1 2, pair 3 4: backbone 0 1 2 3 4, since each part has its own (document 02, W-202)
unfoldable pub m7 : Row
m7 = row 5 (triangle 0 1 2 ++ (up 3 4 ∷ [])) (backbone_radios (0 ∷ 1 ∷ 2 ∷ 3 ∷ 4 ∷ []) ∷ [])

-- M8: an image of 1,024 bytes, checks 5 and 4
unfoldable pub m8 : Row
m8 = row 1 [] (image_checks 1024 (5 ∷ 4 ∷ []) ∷ [])

-- an image with two blocks of the order and one of links: 253 radios, and 300, of which numbers above 255 take a high byte
unfoldable pub image_253 : Row
image_253 = row 253 (up 0 252 ∷ []) (image_checks 2048 (1272 ∷ 10700134 ∷ 1267 ∷ 1775 ∷ []) ∷ [])

unfoldable pub image_300 : Row
image_300 = row 300 (up 1 299 ∷ []) (image_checks 2048 (233 ∷ 10827893 ∷ 73224 ∷ 325 ∷ []) ∷ [])

-- M9: refusal 4, not 5, going up and going down
unfoldable pub m9 : Row
m9 = row 3 (up 3 3 ∷ down 3 3 ∷ []) (
    last_answers (refused 4 ∷ refused 4 ∷ [])
    ∷ all_numbers (0 ∷ 0 ∷ 0 ∷ [])
    ∷ whole_order (0 ∷ 1 ∷ 2 ∷ [])
    ∷ [])

-- M10: a 40th neighbour is taken; a 41st gets 7, from either end; a link that is up already gets 6 there, not 7; after one link goes
-- down the 41st is taken
unfoldable pub m10 : Row
m10 = row 42 (map (up 0) (range 1 40) ++ (up 0 41 ∷ up 41 0 ∷ up 0 1 ∷ down 0 1 ∷ up 0 41 ∷ [])) (
    last_answers (
    risen (40 ∷ [])
    ∷ refused 7
    ∷ refused 7
    ∷ refused 6
    ∷ fallen (1 ∷ [])
    ∷ risen (41 ∷ [])
    ∷ [])
    ∷ all_numbers (1 ∷ 0 ∷ map (λ v. 1) (range 2 40))
    ∷ [])

-- before document 02's W-208 a 32nd neighbour was taken, and a 33rd got 7
unfoldable pub former_32 : Row
former_32 = row 34 (map (up 0) (range 1 31)) (formerly 0 32 0 ∷ [])

unfoldable pub former_33 : Row
former_33 = row 34 (map (up 0) (range 1 32)) (formerly 0 33 7 ∷ formerly 33 0 7 ∷ [])

-- the staircase tree of M4, in a table of 2 n entries; one entry less gets 2
unfoldable pub staircase_m4 : Row
staircase_m4 = row 6 (two_triangles ++ (up 2 3 ∷ [])) (
    staircase_list 12 0 (0 ∷ 1 ∷ 0 ∷ 2 ∷ 2 ∷ 3 ∷ 3 ∷ 4 ∷ 3 ∷ 5 ∷ []) ∷ staircase_list 11 2 [] ∷ [])

-- a script, and what ends a run at line 12
unfoldable pub texts : Row
texts = row 12 (up 9 0 ∷ up 0 11 ∷ []) (script ("radios 12\n" ∷ "up 0 9\n" ∷ "up 0 11\n" ∷ []) ∷ bad_text 12 "bad 12\n" ∷ [])

-- document 02, W-214: the same calls in two arrangements. Numbers, shell tree, backbone and staircase tree are equal, orders and images differ
unfoldable pub one_hub : Row
one_hub = row 4 (up 0 1 ∷ up 2 3 ∷ []) (
    last_answers (risen (0 ∷ 1 ∷ []) ∷ risen (2 ∷ 3 ∷ []) ∷ [])
    ∷ all_numbers (1 ∷ 1 ∷ 1 ∷ 1 ∷ [])
    ∷ whole_order (2 ∷ 3 ∷ 0 ∷ 1 ∷ [])
    ∷ shell_tree (node 65535 0 65535 ∷ node 0 1 65535 ∷ node 2 1 65535 ∷ []) (0 ∷ 0 ∷ 2 ∷ 2 ∷ [])
    ∷ backbone_radios (0 ∷ 1 ∷ 2 ∷ 3 ∷ [])
    ∷ staircase_list 8 0 (0 ∷ 1 ∷ 2 ∷ 3 ∷ [])
    ∷ image_checks 1536 (34 ∷ 46 ∷ 66 ∷ [])
    ∷ [])

unfoldable pub other_hub : Row
other_hub = row 4 (up 2 3 ∷ up 0 1 ∷ []) (
    last_answers (risen (2 ∷ 3 ∷ []) ∷ risen (0 ∷ 1 ∷ []) ∷ [])
    ∷ all_numbers (1 ∷ 1 ∷ 1 ∷ 1 ∷ [])
    ∷ whole_order (0 ∷ 1 ∷ 2 ∷ 3 ∷ [])
    ∷ shell_tree (node 65535 0 65535 ∷ node 0 1 65535 ∷ node 2 1 65535 ∷ []) (0 ∷ 0 ∷ 2 ∷ 2 ∷ [])
    ∷ backbone_radios (0 ∷ 1 ∷ 2 ∷ 3 ∷ [])
    ∷ staircase_list 8 0 (0 ∷ 1 ∷ 2 ∷ 3 ∷ [])
    ∷ image_checks 1536 (34 ∷ 62 ∷ 66 ∷ [])
    ∷ [])

unfoldable pub cases : List Row
cases = m1 ∷ m2_before ∷ m2 ∷ m3 ∷ m4 ∷ m5 ∷ m6 ∷ m7 ∷ m8 ∷ m9 ∷ m10 ∷ image_253 ∷ image_300
    ∷ former_32 ∷ former_33 ∷ staircase_m4 ∷ texts ∷ one_hub ∷ other_hub ∷ []
