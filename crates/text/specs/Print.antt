-- Text put into a lent buffer, byte after byte from a place on. The texts themselves are calls' `Replay`.
--   Buffer          the lent bytes, with the place of the next byte
--   buffer_at bytes at   a buffer from its parts
--   max_place       the largest place, at which counting stops
--   next_place at   the place after one byte
--   put b text      the buffer after the text is put: a byte past the end is left out, and counted
--   Puts b text c   putting the text takes the buffer b to c
-- What put comes to, where the text fits and where it does not, is proved in proofs/PrintLaws.antt.
-- Definitions only.
use Rattle.std.specs.Prelude.{◌≡◌, ◌∷◌, ◌+◌}
use Rattle.lists.specs.Kit.{cond, List, [], ℕ, ltb, set}

-- lent bytes, with the place of the next byte
pub record Buffer : Type 0 where
  pub bytes : List ℕ
  pub at : ℕ

-- a buffer from its parts
abbrev pub buffer_at : (bytes : List ℕ) → (at : ℕ) → Buffer
buffer_at bytes at = record { bytes = bytes; at = at }

-- the largest usize: counting stops there
abbrev pub max_place : ℕ
max_place = 18446744073709551615

-- the place after one byte
unfoldable pub next_place : (at : ℕ) → ℕ
next_place at = cond (ltb at max_place) (at + 1) at

-- the text's bytes one after another; one past the end changes nothing but the place
unfoldable pub put : Buffer → (text : List ℕ) → Buffer
put b [] = b
put b (x ∷ xs) = put (buffer_at (set b.bytes b.at x) (next_place b.at)) xs

-- putting the text takes the buffer b to c
pub record Puts (b : Buffer) (text : List ℕ) (c : Buffer) : Type 0 where
  pub is : c ≡ put b text
