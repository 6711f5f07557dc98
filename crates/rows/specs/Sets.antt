-- Sets of radios as eight words of 64 bits: radio v is bit v % 64 of word v / 64.
--   in_set ws v            v is in the set ws
--   take_out v ws          the set without v
--   put_in v ws            the set with v
--   RowJoined             the radios that row a of the links table ts marks put into a set
--   word_left x w          the word w without the bits that the word x has
--   word_taken k x ws      the set ws with its word k without these bits
--   common x y             the radios that the sets x and y both have, ascending
--   CommonTaken           these listed, and taken out of the second set
--   SetTaken              the radios of another set taken out of a set
--   members ws             the radios of the set ws, ascending
--   Listed                 these listed
-- Laws are in proofs/SetLaws.antt. Definitions only.
use Rattle.std.specs.Prelude.{◌≡◌, ◌&&◌, ◌||◌, ◌/◌, ◌%◌}
use Rattle.lists.specs.{Kit.{Bool, true, false, not, List, ℕ, min, bit_and, bit_xor, length, get_or, take, set}, Lists.{range, filter}}
use Rattle.lists.specs.{Lists.{member, overwrite}}
use Rattle.mesh.specs.{Limits.{max_radios}, Tables.{digit, put_digit}}
use Rattle.rows.specs.Rows.{row_listed}

unfoldable pub in_set : (words : List ℕ) → (v : ℕ) → Bool
in_set ws v = digit (get_or ws (v / 64) 0) (v % 64)

unfoldable pub take_out : (v : ℕ) → (words : List ℕ) → List ℕ
take_out v ws = set ws (v / 64) (put_digit false (get_or ws (v / 64) 0) (v % 64))

unfoldable pub put_in : (v : ℕ) → (words : List ℕ) → List ℕ
put_in v ws = set ws (v / 64) (put_digit true (get_or ws (v / 64) 0) (v % 64))

-- ws before, us after
pub record RowJoined (ts : List ℕ) (a : ℕ) (ws us : List ℕ) : Type 0 where
  pub long : length us ≡ 8
  pub bits : (w : ℕ) → in_set us w ≡ (in_set ws w || member w (row_listed ts a))

unfoldable pub word_left : (other word : ℕ) → ℕ
word_left x w = bit_xor w (bit_and x w)

unfoldable pub word_taken : (k other : ℕ) → (words : List ℕ) → List ℕ
word_taken k x ws = set ws k (word_left x (get_or ws k 0))

unfoldable pub common : (x y : List ℕ) → List ℕ
common x y = filter (λ v. in_set x v && in_set y v) (range 0 max_radios)

-- ws and list before, us and new after; r entries were written
pub record CommonTaken (x ws list : List ℕ) (r : ℕ) (us new : List ℕ) : Type 0 where
  pub long : length us ≡ 8
  pub counted : r ≡ min (length list) (length (common x ws))
  pub listed : new ≡ overwrite (take (length list) (common x ws)) list
  pub left : (w : ℕ) → in_set us w ≡ (in_set ws w && not (member w (common x ws)))

-- ws before, us after
pub record SetTaken (x ws us : List ℕ) : Type 0 where
  pub long : length us ≡ 8
  pub bits : (w : ℕ) → in_set us w ≡ (in_set ws w && not (in_set x w))

unfoldable pub members : (words : List ℕ) → List ℕ
members ws = filter (in_set ws) (range 0 max_radios)

-- list before, new after; r entries were written
pub record Listed (ws list : List ℕ) (r : ℕ) (new : List ℕ) : Type 0 where
  pub counted : r ≡ min (length list) (length (members ws))
  pub listed : new ≡ overwrite (take (length list) (members ws)) list
