-- A worked hearing, computed from the definitions: four radios, of which 0, 1 and 2 are linked with each other. 1 hears 2 and is not heard
-- by it, and 2 and 3 hear each other.
use Rattle.std.specs.Prelude.{◌≡◌, ◌∷◌, ◌++◌}
use Rattle.lists.specs.{Kit.{refl, ap, Bool, true, false, List, [], ℕ, length, replicate}, Lists.{range}}
use Rattle.mesh.specs.{Graph.{Link, graph, link_of, neighbours_in}, Sound.{sound}, Tables.{Tables, tables, put_digit, put_bit, put_link, row_links, graph_in}}
use Rattle.mesh.specs.{Tables.{tables_of}}
use Rattle.calls.{specs.Questions.{lengths_of, site_refusal}, specs.Switches.{switch, switched, tables_after}, specs.Heard.{agreed, agreed_degree, heard_alone}}
use Rattle.calls.{specs.Heard.{one_sided, one_sided_count, heard_lengths, heard_proper, agreed_few, hear_refusal, row_switches, switches_where, goes_down}}
use Rattle.calls.{specs.Heard.{comes_up, heard_switches}, specs.Outcomes.{linked_with, value, hear_outcome}, proofs.WorkedState.{compute}}
use Rattle.calls.specs.Questions.{by_number}

unfoldable compute_heard : Unit {0}
unfolding compute neighbours_in put_digit put_bit put_link row_links graph_in site_refusal switched tables_after agreed agreed_degree heard_alone one_sided
    one_sided_count heard_lengths heard_proper agreed_few hear_refusal row_switches switches_where goes_down comes_up heard_switches
compute_heard = tt

-- the triangle 0 1 2, taken up link by link of a cleared site
abbrev triangle : List Link
triangle = link_of 0 1 ∷ link_of 0 2 ∷ link_of 1 2 ∷ []

abbrev before : Tables
before = tables_of (graph 4 triangle) (3 ∷ 2 ∷ 0 ∷ 1 ∷ [])

-- a row of one byte and zeros
abbrev row : ℕ → List ℕ
row x = x ∷ replicate 63 0

-- 0 hears 1 and 2, 1 hears 0 and 2, 2 hears 0 and 3, 3 hears 2
abbrev heard : List ℕ
heard = row 6 ++ (row 5 ++ (row 9 ++ row 4))

abbrev further : List ℕ
further = replicate 256 255

pub built : tables_after 4 (switch true 0 1 ∷ switch true 0 2 ∷ switch true 1 2 ∷ []) (tables_of (graph 4 []) (range 0 4)) ≡ before
unfolding compute_heard
built = refl

-- question 3, the dearest to compute, is asked once
sound_before : sound 4 before ≡ true
unfolding compute_heard
sound_before = refl

-- the hearing of a table hs by these tables
heard_by : (hs w : List ℕ) → hear_outcome 4 hs before w
    ≡ by_number (hear_refusal 4 (lengths_of before) hs (length w) true)
    (linked_with (value 0 (one_sided_count 4 hs)) (tables_after 4 (heard_switches (graph_in 4 before.links) hs) before) (one_sided 4 hs))
    (λ q. linked_with (value q 0) before w)
unfolding hear_outcome
heard_by hs w =
    ap (λ (t : Bool).
    by_number (hear_refusal 4 (lengths_of before) hs (length w) t)
    (linked_with (value 0 (one_sided_count 4 hs)) (tables_after 4 (heard_switches (graph_in 4 before.links) hs) before) (one_sided 4 hs))
    (λ q. linked_with (value q 0) before w)) sound_before

pub calls : heard_switches (graph 4 triangle) heard ≡ switch false 1 2 ∷ switch true 2 3 ∷ []
unfolding compute_heard
calls = refl

-- number 0 and one one-sided pair; the links 0-1, 0-2, 2-3; the pair 1, 2 marked
pub taken :
    hear_outcome 4 heard before further
    ≡ linked_with (value 0 1) (tables (row 6 ++ (row 1 ++ (row 9 ++ row 4))) (1 ∷ 1 ∷ 1 ∷ 1 ∷ []) (3 ∷ 2 ∷ 0 ∷ 1 ∷ [])) (row 0 ++ (row 4 ++ (row 0 ++ row 0)))
unfolding compute_heard
taken = heard_by heard further

-- a row that marks its own radio, or one at n: 14, and every table keeps its content
pub own_radio : hear_outcome 4 (row 7 ++ (row 5 ++ (row 9 ++ row 4))) before further ≡ linked_with (value 14 0) before further
unfolding compute_heard
own_radio = heard_by (row 7 ++ (row 5 ++ (row 9 ++ row 4))) further

pub radio_at_n : hear_outcome 4 (row 6 ++ (row 5 ++ (row 25 ++ row 4))) before further ≡ linked_with (value 14 0) before further
unfolding compute_heard
radio_at_n = heard_by (row 6 ++ (row 5 ++ (row 25 ++ row 4))) further

-- a heard table of three rows, or a further table that is a byte too long: 2
pub short_heard : hear_refusal 4 (lengths_of before) (row 6 ++ (row 5 ++ row 9)) 256 true ≡ 2
unfolding compute_heard
short_heard = refl

pub long_further : hear_refusal 4 (lengths_of before) heard 257 true ≡ 2
unfolding compute_heard
long_further = refl

-- what is heard is what is linked: nothing changes
pub same_links : hear_outcome 4 before.links before further ≡ linked_with (value 0 0) before (replicate 256 0)
unfolding compute_heard
same_links = heard_by before.links further

-- nobody hears: every link goes down
pub silence : heard_switches (graph 4 triangle) (replicate 256 0) ≡ switch false 0 1 ∷ switch false 0 2 ∷ switch false 1 2 ∷ []
unfolding compute_heard
silence = refl
