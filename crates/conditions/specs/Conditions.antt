-- Document 01's conditions on tables, row by row, as the soundness check asks them.
--   Placed n order places    the table of places says where each radio stands in the order
--   sooner_key               the first of a radio and a key
--   later_count              how many of some radios stand later in the order than a: document 01's "neighbours later in the order"
--   first_key                the place and the radio, as one number, of the first of some radios that stands later in the order than a
--   high_count               how many of some radios have a number that is not below that of a
--   NotLower n links numbers counts   the table of not-lower counts has the one of each radio
--   ends_good                each of some radios is below n, is not a, and marks a too
--   row_good                 the conditions of document 01 on radio a: its row, its later neighbours, its neighbours that are not below it
--   highest_word n first     the highest word whose bits, counted from radio `first`, all are radios below n
--   rising_from              numbers never fall along a list, and do not begin below the given one
-- That tables are sound when the order holds each radio once, numbers rise along it and every row is good is `sound_rows` in
-- proofs/RowByRow.antt. Definitions only.
use Rattle.std.specs.Prelude.{◌≡◌, ◌&&◌, ◌∷◌, ◌+◌, ◌*◌, ◌-◌, ◌^◌, ◌<◌}
use Rattle.lists.specs.{Kit.{Bool, true, not, cond, List, [], ℕ, min, ltb, leb, eqb, length, get_or}, Lists.{count, all}}
use Rattle.mesh.specs.{Tables.{marked}, Sound.{number_in}}
use Rattle.rows.specs.Rows.{neighbours_of}

-- entry i of the order stands at place i
pub record Placed (n : ℕ) (order places : List ℕ) : Type 0 where
  pub at : (i : ℕ) → i < n → get_or places (get_or order i 0) 0 ≡ i

-- the key of the radio b at place p where that is later than `place` and before the key's, else the key
unfoldable pub sooner_key : (place p b key : ℕ) → ℕ
sooner_key place p b key = cond (ltb place p) (min (p * 65536 + b) key) key

unfoldable pub later_count : (places : List ℕ) → (a : ℕ) → (radios : List ℕ) → ℕ
later_count ps a xs = count (λ b. ltb (get_or ps a 0) (get_or ps b 0)) xs

-- a key is a place and a radio of 16 bits each; without a later radio all its bits are set, so that its radio is nobody
unfoldable pub first_key : (places : List ℕ) → (a : ℕ) → (radios : List ℕ) → ℕ
first_key ps a [] = 4294967295
first_key ps a (b ∷ bs) = let rest = first_key ps a bs in sooner_key (get_or ps a 0) (get_or ps b 0) b rest

unfoldable pub high_count : (numbers : List ℕ) → (a : ℕ) → (radios : List ℕ) → ℕ
high_count ns a xs = count (λ b. leb (number_in ns a) (number_in ns b)) xs

unfoldable pub ends_good : (n : ℕ) → (links : List ℕ) → (a : ℕ) → (radios : List ℕ) → Bool
ends_good n ts a xs = all (λ b. ltb b n && (not (eqb b a) && marked ts b a)) xs

unfoldable pub row_good : (most n : ℕ) → (links numbers places : List ℕ) → (a : ℕ) → Bool
row_good most n ts ns ps a =
    let xs = neighbours_of ts a in
    leb (length xs) most
    && (ends_good n ts a xs && (leb (later_count ps a xs) (number_in ns a) && leb (number_in ns a) (high_count ns a xs)))

-- the table `counts` holds how many neighbours of each radio have a number that is not below its own
pub record NotLower (n : ℕ) (links numbers counts : List ℕ) : Type 0 where
  pub at : (v : ℕ) → v < n → get_or counts v 0 ≡ high_count numbers v (neighbours_of links v)

unfoldable pub highest_word : (n first : ℕ) → ℕ
highest_word n first = 2 ^ min 64 (n - first) - 1

-- `true` of an empty list whatever m
unfoldable pub rising_from : (num : ℕ → ℕ) → (m : ℕ) → List ℕ → Bool
rising_from num m [] = true
rising_from num m (x ∷ xs) = leb m (num x) && rising_from num (num x) xs
