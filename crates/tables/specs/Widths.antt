-- Tables written from the front, at any width w: 8 for the numbers, 16 for the lists.
--   Below w f k        the first k values of the rule f are below 2 ^ w
--   values w f k       the first k values of the rule f, as entries of width w hold them: mod 2 ^ w
--   written w f k d    the table d with these in front: its later entries keep their content
-- Laws are in proofs/WidthLaws.antt. Definitions only.
use Rattle.std.specs.Prelude.{◌<◌, ◌%◌, ◌^◌}
use Rattle.lists.specs.{Kit.{List, map, ℕ}, Lists.{range, overwrite}}

abbrev pub Below : (w : ℕ) → (rule : ℕ → ℕ) → (k : ℕ) → Type 0
Below w f k = (i : ℕ) → i < k → f i < 2 ^ w

unfoldable pub values : (w : ℕ) → (rule : ℕ → ℕ) → (k : ℕ) → List ℕ
values w f k = map (λ i. f i % 2 ^ w) (range 0 k)

unfoldable pub written : (w : ℕ) → (rule : ℕ → ℕ) → (k : ℕ) → (table : List ℕ) → List ℕ
written w f k d = overwrite (values w f k) d
