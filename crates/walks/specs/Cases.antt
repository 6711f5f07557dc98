-- The worked case of the walk: where the paper lays a radio elsewhere, document 01's order is kept. That the row is right is `cases_right` in
-- proofs/Cases.antt. Definitions only.
use Rattle.std.specs.Prelude.{◌∷◌}
use Rattle.lists.specs.Kit.{List, []}
use Rattle.calls.specs.Worked.{up, risen, unchanged, last_answers, all_numbers, whole_order, Row, row}

-- 5 radios, links 1-2, 1-4, 0-3, 0-2, 1-3, 3-4, and last 0-4. The last call takes candidates back, the first in the order first; document
-- 001's queue takes them first in, first out, and would leave 2 0 1 3 4
unfoldable pub taken_back : Row
taken_back = row 5 (up 1 2 ∷ up 1 4 ∷ up 0 3 ∷ up 0 2 ∷ up 1 3 ∷ up 3 4 ∷ up 0 4 ∷ []) (
    last_answers (risen (4 ∷ []) ∷ unchanged ∷ []) ∷ all_numbers (2 ∷ 2 ∷ 2 ∷ 2 ∷ 2 ∷ []) ∷ whole_order (2 ∷ 0 ∷ 4 ∷ 3 ∷ 1 ∷ []) ∷ [])

unfoldable pub cases : List Row
cases = taken_back ∷ []
