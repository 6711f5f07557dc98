-- Document 01's questions, each a definition of its own, and the chains in which calls put them.
--   ask r yes later        question r: a "no" gives its number, a "yes" goes on
--   by_number refusal accepted refused   what comes of the number that the questions give
--   Lengths                the lengths of links, numbers and order
--   size_good .. is_image  questions 1 to 13, 15 and 16 (1 is `size_good`, 3 `sound`, 10 `checks_good`, 15 `other_size`, 11 `is_image` of mesh)
--   tables_refusal .. read_refusal   the first "no" of a call's questions, or 0; where one call alone puts them, its outcome says them (Outcomes.antt)
-- A chain takes the answer to question 3 and the graph that 6 to 8 are put to, since the link book answers these from its
-- pairs and gives 3 a yes. A chain `..-within most` asks with that bound on neighbours; without it, with a site's own. The numbers
-- of document 02 stand where it puts them: 12 and 13 after 3, 16 after 7, 15 after 10.
-- Definitions only.
use Rattle.std.specs.Prelude.{◌&&◌, ◌*◌}
use Rattle.lists.specs.{Kit.{Bool, true, false, not, List, ℕ, zero, suc, ltb, leb, eqb, ℤ, pos, negsuc, length}, Lists.{same}}
use Rattle.mesh.specs.{Limits.{max_neighbours, row_bytes}, Graph.{Graph, linked, degree}, Cores.{number}, Levels.{changed, step_of}, Tables.{Tables}}
use Rattle.mesh.specs.{Image.{block_bytes, block_count, whole_blocks, checks_good, other_size, is_image}}
unfoldable pub use Rattle.mesh.specs.Limits.{size_good}

unfoldable pub ask : (number : ℕ) → (yes : Bool) → (later : ℕ) → ℕ
ask r true later = later
ask r false later = r

-- no "no": the accepted outcome; else that of the refusal
unfoldable pub by_number : {A : Type 0} → (refusal : ℕ) → (accepted : A) → (refused : ℕ → A) → A
by_number zero accepted refused = accepted
by_number (suc q) accepted refused = refused (suc q)

-- ---- questions 1 and 2: sizes and lengths

pub record Lengths : Type 0 where
  pub links : ℕ
  pub numbers : ℕ
  pub order : ℕ

unfoldable pub lengths_of : Tables → Lengths
lengths_of t = record { links = length t.links; numbers = length t.numbers; order = length t.order }

-- 2. Do the tables used have their lengths? (answer table, node list and staircase table may be longer)
unfoldable pub site_lengths : (n : ℕ) → Lengths → Bool
site_lengths n l = eqb l.links (row_bytes * n) && (eqb l.numbers n && eqb l.order n)

unfoldable pub answer_length : (n answer : ℕ) → Bool
answer_length n w = leb n w

-- ---- questions 4 to 8: radios, links, levels

-- 4. Is every radio named below n?
unfoldable pub is_radio : (n v : ℕ) → Bool
is_radio n v = ltb v n

unfoldable pub are_radios : (n a b : ℕ) → Bool
are_radios n a b = is_radio n a && is_radio n b

-- 5. Are the ends different?
unfoldable pub ends_differ : (a b : ℕ) → Bool
ends_differ a b = not (eqb a b)

-- 6. Going up: is the link down? Going down: is it up?
unfoldable pub can_switch : (up : Bool) → Graph → (a b : ℕ) → Bool
can_switch true g a b = not (linked g a b)
can_switch false g a b = linked g a b

-- 7. Going up: has each end fewer than `most` neighbours?
unfoldable pub has_room : (most : ℕ) → (up : Bool) → Graph → (a b : ℕ) → Bool
has_room most true g a b = ltb (degree g a) most && ltb (degree g b) most
has_room most false g a b = true

-- 8. Is the level at most the radio's number?
unfoldable pub has_level : Graph → (v k : ℕ) → Bool
has_level g v k = leb k (number g v)

-- ---- question 16: proposals

-- document 02, W-210
unfoldable pub same_step : (x y : ℤ) → Bool
same_step (pos a) (pos b) = eqb a b
same_step (negsuc a) (negsuc b) = eqb a b
same_step (pos a) (negsuc b) = false
same_step (negsuc a) (pos b) = false

-- document 02, W-210: 16. Are the list and the step exactly what asking would give now?
unfoldable pub is_proposal : (up : Bool) → (a b : ℕ) → (step : ℤ) → (list : List ℕ) → Graph → Bool
is_proposal up a b z xs g = let cs = changed up a b g in same_step z (step_of up cs) && same xs cs

-- ---- question 9: images

-- writing: does the buffer hold that many bytes?
unfoldable pub image_length : Graph → ℕ
image_length g = block_bytes * block_count g.n (length g.links)

-- ---- chains

-- 1 and 2, where `others` is what 2 asks of further tables; then the later questions
unfoldable pub lent_refusal : (n : ℕ) → Lengths → (others : Bool) → (later : ℕ) → ℕ
lent_refusal n l others later = ask 1 (size_good n) (ask 2 (site_lengths n l && others) later)

-- 1 to 3; then the later questions
unfoldable pub site_refusal : (n : ℕ) → Lengths → (others sound : Bool) → (later : ℕ) → ℕ
site_refusal n l others sound later = lent_refusal n l others (ask 3 sound later)

-- clearing, and checking soundness: 1 and 2
unfoldable pub tables_refusal : (n : ℕ) → Lengths → ℕ
tables_refusal n l = lent_refusal n l true 0

-- 4 to 7; then the later questions
abbrev pub ends_then : (most : ℕ) → (up : Bool) → (n a b : ℕ) → Graph → (later : ℕ) → ℕ
ends_then most up n a b g later =
    ask 4 (are_radios n a b) (ask 5 (ends_differ a b) (ask 6 (can_switch up g a b) (ask 7 (has_room most up g a b) later)))

-- 4 to 7
unfoldable pub ends_refusal : (most : ℕ) → (up : Bool) → (n a b : ℕ) → Graph → ℕ
ends_refusal most up n a b g = ends_then most up n a b g 0

-- a link call: 1 to 7
abbrev pub link_refusal_within :
    (most : ℕ) → (up : Bool) → (n a b : ℕ) → Lengths → (answer : ℕ) → (sound : Bool) → Graph → ℕ
link_refusal_within most up n a b l w sound g =
    site_refusal n l (answer_length n w) sound (ends_refusal most up n a b g)

-- document 02, W-210: committing: 1 to 7 and 16; there is no answer table, and 2 does not ask for the list's length
unfoldable pub commit_refusal :
    (up : Bool) → (n a b : ℕ) → (step : ℤ) → (list : List ℕ) → Lengths → (sound : Bool) → Graph → ℕ
commit_refusal up n a b z xs l sound g =
    site_refusal n l true sound (ends_then max_neighbours up n a b g (ask 16 (is_proposal up a b z xs g) 0))

-- a radio's number, its neighbour count: 1 to 4
unfoldable pub radio_refusal : (n v : ℕ) → Lengths → (sound : Bool) → ℕ
radio_refusal n v l sound = site_refusal n l true sound (ask 4 (is_radio n v) 0)

-- whether two radios are linked, which stands first: 1 to 4
unfoldable pub pair_refusal : (n a b : ℕ) → Lengths → (sound : Bool) → ℕ
pair_refusal n a b l sound = site_refusal n l true sound (ask 4 (are_radios n a b) 0)

-- 9 and 10 of the whole image; then the later questions
unfoldable pub blocks_refusal : (image : List ℕ) → (later : ℕ) → ℕ
blocks_refusal bs later = ask 9 (whole_blocks bs) (ask 10 (checks_good bs) later)

-- document 01, question 11, and W-207's 15: 9, 10, 15, 11
unfoldable pub image_refusal : (n : ℕ) → (image : List ℕ) → ℕ
image_refusal n bs = blocks_refusal bs (ask 15 (not (other_size n bs)) (ask 11 (is_image n bs) 0))

-- reading an image: 1, 2, 9, 10, 15, 11
unfoldable pub read_refusal : (n : ℕ) → Lengths → (image : List ℕ) → ℕ
read_refusal n l bs = lent_refusal n l true (image_refusal n bs)
