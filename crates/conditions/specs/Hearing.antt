-- A heard table row by row. The terms of document 02, W-205, are in specs/Heard.antt of `calls`.
--   OfSize n hs           the table hs has n rows
--   IsPrefix xs r list     the first r entries of the list are xs
--   hears hs a b           b hears a
--   none_from n hs a       row a marks no radio at n or above
--   rows_refusal n hs      questions 14 and 7
--   alone_put              the one-sided pairs after the pair of a and a radio that it hears: marked unless that radio hears a
--   PairMarked, RowMarked, OneSidedMarked   what marking a pair, a row and a table comes back with
--   wanted up hs ts a b    the link between a and b is to come up, or to go down, by the links table ts
--   wanted_by              the same, by whether a hears b, alone, and is linked with it
--   above_from             the radios above a whose link with a is wanted, by three rows, whose words from that of a on are read
--   ListedFrom            entries written into a list from a place on
-- Definitions only.
use Rattle.std.specs.Prelude.{◌≡◌, ◌&&◌, ◌++◌, ◌+◌, ◌*◌, ◌-◌, ◌/◌, ◌≤◌, ◌<◌}
use Rattle.lists.specs.{Kit.{Bool, true, not, cond, List, ℕ, ltb, length, take}, Lists.{range, count}}
use Rattle.lists.specs.{Lists.{filter, all}, Facts.{folded}}
use Rattle.mesh.specs.{Limits.{max_radios, max_neighbours, row_bytes}, Tables.{marked, put_bit}, Sound.{within}}
use Rattle.calls.specs.{Questions.{ask}, Heard.{agreed, heard_proper, agreed_few, one_sided, one_sided_count}}

pub record OfSize (n : ℕ) (hs : List ℕ) : Type 0 where
  pub most : n ≤ max_radios
  pub long : length hs ≡ row_bytes * n

pub record IsPrefix (xs : List ℕ) (r : ℕ) (list : List ℕ) : Type 0 where
  pub counted : r ≡ length xs
  pub listed : take r list ≡ xs

-- ---- questions 14 and 7

unfoldable pub none_from : (n : ℕ) → (heard : List ℕ) → (a : ℕ) → Bool
none_from n hs a = all (λ b. not (marked hs a b)) (range n (max_radios - n))

unfoldable pub hears : (heard : List ℕ) → (a b : ℕ) → Bool
hears hs a b = marked hs b a

-- the number of the first "no", or 0
unfoldable pub rows_refusal : (n : ℕ) → (heard : List ℕ) → ℕ
rows_refusal n hs = ask 14 (heard_proper n hs) (ask 7 (agreed_few max_neighbours n hs) 0)

-- ---- one-sided pairs

unfoldable pub alone_put : (heard : List ℕ) → (a b : ℕ) → (one_sided : List ℕ) → List ℕ
alone_put hs a b w = cond (hears hs a b) w (put_bit true a b w)

pub record PairMarked (hs : List ℕ) (a b : ℕ) (w : List ℕ) (r : Bool) (x : List ℕ) : Type 0 where
  pub answer : r ≡ not (hears hs a b)
  pub table : x ≡ alone_put hs a b w

pub record RowMarked (hs : List ℕ) (a : ℕ) (xs w : List ℕ) (r : ℕ) (x : List ℕ) : Type 0 where
  pub counted : r ≡ count (λ b. not (hears hs a b)) xs
  pub table : x ≡ folded (alone_put hs a) xs w

pub record OneSidedMarked (n : ℕ) (hs w : List ℕ) (r : ℕ) (x : List ℕ) : Type 0 where
  pub counted : within n hs ≡ true → r ≡ one_sided_count n hs
  pub table : length w ≡ row_bytes * n → x ≡ one_sided n hs

-- ---- links to come up or to go down

unfoldable pub wanted : (up : Bool) → (heard links : List ℕ) → (a b : ℕ) → Bool
wanted u hs ts a b = cond u (agreed hs a b && not (marked ts a b)) (marked ts a b && not (agreed hs a b))

-- what is heard and not alone is agreed
unfoldable pub wanted_by : (up hears alone linked : Bool) → Bool
wanted_by u h f l = cond u ((h && not f) && not l) (l && not (h && not f))

-- `alone` tells what is heard alone
unfoldable pub wanted_in : (up : Bool) → (heard alone links : List ℕ) → (a b : ℕ) → Bool
wanted_in u hs ws ts a b = wanted_by u (marked hs a b) (marked ws a b) (marked ts a b)

unfoldable pub above_from : (up : Bool) → (heard alone links : List ℕ) → (a : ℕ) → List ℕ
above_from u hs ws ts a = filter (ltb a) (filter (wanted_in u hs ws ts a) (range (64 * (a / 64)) (max_radios - 64 * (a / 64))))

-- the entries xs stand from place `count` of the list on, where it has room for one more
pub record ListedFrom (xs : List ℕ) (count : ℕ) (old : List ℕ) (r : ℕ) (new : List ℕ) : Type 0 where
  pub inside : r ≤ length old
  pub is : count + length xs < length old → (r ≡ count + length xs) × (take r new ≡ take count old ++ xs)
