-- Named marks (W-211): questions 17 to 19, and the chains of the three calls.
--   marks_good        17. Do every place and the given name keep the rules?
--   is_marked         18. Is the name there?
--   has_place         19. Is the name there, or a place unused?
--   mark_refusal      1, 2 (the store's length too), 3, 17; then the later question
--   set_refusal       setting: 19 last
--   named_refusal     removing and coming back: 18 last
--   mark_image n x bs the image that the mark x of the store bs holds
-- Definitions only.
use Rattle.std.specs.Prelude.{◌&&◌, ◌||◌}
use Rattle.lists.specs.Kit.{Bool, List, ℕ, ltb, eqb, length}
use Rattle.mesh.specs.{Marks.{places, store_bytes, is_name, is_store, image_in, marks_in}}
use Rattle.mesh.specs.{Marks.{has_mark, found}}
use Rattle.calls.specs.Questions.{ask, Lengths, site_refusal}

-- ---- questions

-- 2, of the store
unfoldable pub store_length : (store : List ℕ) → Bool
store_length bs = eqb (length bs) store_bytes

unfoldable pub marks_good : (n : ℕ) → (name store : List ℕ) → Bool
marks_good n x bs = is_store n bs && is_name x

unfoldable pub is_marked : (name store : List ℕ) → Bool
is_marked x bs = has_mark x (marks_in bs)

unfoldable pub has_place : (name store : List ℕ) → Bool
has_place x bs = is_marked x bs || ltb (length (marks_in bs)) places

-- ---- chains

unfoldable pub mark_refusal : (n : ℕ) → Lengths → (sound : Bool) → (name store : List ℕ) → (later : ℕ) → ℕ
mark_refusal n l sound x bs later = site_refusal n l (store_length bs) sound (ask 17 (marks_good n x bs) later)

unfoldable pub set_refusal : (n : ℕ) → Lengths → (sound : Bool) → (name store : List ℕ) → ℕ
set_refusal n l sound x bs = mark_refusal n l sound x bs (ask 19 (has_place x bs) 0)

unfoldable pub named_refusal : (n : ℕ) → Lengths → (sound : Bool) → (name store : List ℕ) → ℕ
named_refusal n l sound x bs = mark_refusal n l sound x bs (ask 18 (is_marked x bs) 0)

-- ---- a mark's image

unfoldable pub mark_image : (n : ℕ) → (name store : List ℕ) → List ℕ
mark_image n x bs = image_in n (found x (marks_in bs))
