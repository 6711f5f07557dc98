-- A row of the links table read word by word, as the loops over its words go: what is left of the row from word k on.
use Rattle.std.specs.Prelude.{None, Some, ◌≡◌, ◌++◌, ◌+◌, ◌*◌, ◌-◌, ◌/◌, ◌%◌, ◌^◌, ◌≤◌, ◌<◌}
use Rattle.lists.{specs.Kit.{refl, sym, ap, ◌∙◌, Bool, List, [], ℕ, zero, suc, min, arith, length, get_or}}
use Rattle.lists.specs.Kit.{take, drop, length-append, length-take, length-drop, sets, get_or-take, get_or-drop, ones, count_trailing_zeros, le-leb, lt-leb}
use Rattle.lists.{specs.Lists.{range, filter, overwrite}, proofs.Filter.{filter_append}, proofs.Range.{range_append}}
use Rattle.lists.{proofs.Overwrite.{sets_front}}
use Rattle.mesh.specs.{Limits.{max_radios, max_neighbours, row_bytes}, Tables.{digit, byte_at, marked}}
use Rattle.rows.specs.Rows.{first_in, neighbours_of, row_listed, row_from, row_count, set_bits, row_word, word_of}
use Rattle.rows.proofs.{WordLaws.{set_bits_filter, word_lowest, word_none, length_set_bits, length_set_bits_le, word_at_less, digit_word_at}}
use Rattle.rows.proofs.{Listing.{PartialListing, partial_part, partial_end}}

-- ---- row_listed: the whole row, or none of it

pub row_listed_whole : (ts : List ℕ) (a : ℕ) → row_bytes * a + row_bytes ≤ length ts → row_listed ts a ≡ neighbours_of ts a
unfolding row_listed
row_listed_whole ts a h = rw (le-leb (row_bytes * a + row_bytes) (length ts) h)

pub row_listed_short : (ts : List ℕ) (a : ℕ) → length ts < row_bytes * a + row_bytes → row_listed ts a ≡ []
unfolding row_listed
row_listed_short ts a h = rw (lt-leb (row_bytes * a + row_bytes) (length ts) h)

-- ---- a row from word k on

pub row_from_zero : (ts : List ℕ) (a : ℕ) → row_from ts a 0 ≡ neighbours_of ts a
unfolding row_from neighbours_of
row_from_zero ts a = refl

-- no radio stands behind the last word
pub words_end : (f : ℕ → Bool) (k : ℕ) → 8 ≤ k → filter f (range (64 * k) (max_radios - 64 * k)) ≡ []
unfolding range filter
words_end f k h = let e : max_radios - 64 * k ≡ 0 = omega arith in rw e

pub row_from_end : (ts : List ℕ) (a k : ℕ) → 8 ≤ k → row_from ts a k ≡ []
unfolding row_from
row_from_end ts a k h = words_end (λ b. marked ts a b) k h

-- bit m of word k is the mark of radio 64 * k + m
pub marked_word : (ts : List ℕ) → ((j : ℕ) → get_or ts j 0 < 256) → (a k m : ℕ) → m < 64
    → marked ts a (64 * k + m) ≡ digit (row_word 8 ts (row_bytes * a + 8 * k)) m
unfolding marked byte_at
marked_word ts bytes a k m h =
    let e : row_bytes * a + (64 * k + m) / 8 ≡ row_bytes * a + 8 * k + m / 8 = omega arith in
    let f : (64 * k + m) % 8 ≡ m % 8 = omega arith in
    rw (e, f) (sym (digit_word_at ts bytes (row_bytes * a + 8 * k) 8 m h))

-- the same of a word that was read
pub marked_read : (ts : List ℕ) → ((j : ℕ) → get_or ts j 0 < 256) → (a k w : ℕ) → w ≡ row_word 8 ts (row_bytes * a + 8 * k) → (m : ℕ) → m < 64
    → marked ts a (64 * k + m) ≡ digit w m
marked_read ts bytes a k w e m h = marked_word ts bytes a k m h ∙ ap (λ (x : ℕ). digit x m) (sym e)

pub read_less : (ts : List ℕ) → ((j : ℕ) → get_or ts j 0 < 256) → (i : ℕ) {w : ℕ} → w ≡ row_word 8 ts i → w < 2 ^ 64
read_less ts bytes i e = omega (arith, e, word_at_less ts bytes i 8)

-- radios from word k on that pass a test, where the word tells the test of its own
pub words_from : (f : ℕ → Bool) (k w : ℕ) → k < 8 → ((m : ℕ) → m < 64 → f (64 * k + m) ≡ digit w m)
    → filter f (range (64 * k) (max_radios - 64 * k)) ≡ set_bits 64 (64 * k) w ++ filter f (range (64 * (k + 1)) (max_radios - 64 * (k + 1)))
words_from f k w h tells =
    let parts : max_radios - 64 * k ≡ 64 + (max_radios - 64 * (k + 1)) = omega arith in
    let next : 64 * k + 64 ≡ 64 * (k + 1) = omega arith in
    rw (
      parts,
      range_append (64 * k) 64 (max_radios - 64 * (k + 1)),
      next,
      filter_append f (range (64 * k) 64) (range (64 * (k + 1)) (max_radios - 64 * (k + 1))),
      set_bits_filter 64 (64 * k) w f tells,
    )

pub row_from_word : (ts : List ℕ) → ((j : ℕ) → get_or ts j 0 < 256) → (a k : ℕ) → k < 8
    → row_from ts a k ≡ set_bits 64 (64 * k) (row_word 8 ts (row_bytes * a + 8 * k)) ++ row_from ts a (k + 1)
unfolding row_from
row_from_word ts bytes a k h =
    words_from (λ b. marked ts a b) k (row_word 8 ts (row_bytes * a + 8 * k)) h (λ m l. marked_word ts bytes a k m l)

-- the same of a word that was read
pub row_split : (ts : List ℕ) → ((j : ℕ) → get_or ts j 0 < 256) → (a k word : ℕ) → k < 8 → word ≡ row_word 8 ts (row_bytes * a + 8 * k)
    → row_from ts a k ≡ set_bits 64 (64 * k) word ++ row_from ts a (k + 1)
row_split ts bytes a k word l e = row_from_word ts bytes a k l ∙ ap (λ (z : ℕ). set_bits 64 (64 * k) z ++ row_from ts a (k + 1)) (sym e)

-- ---- a row that is lent by itself

pub word_of_whole : (row : List ℕ) (k : ℕ) → 8 * k + 8 ≤ length row → word_of row k ≡ row_word 8 row (8 * k)
unfolding word_of
word_of_whole row k h = rw (le-leb (8 * k + 8) (length row) h)

pub word_of_short : (row : List ℕ) (k : ℕ) → length row < 8 * k + 8 → word_of row k ≡ 0
unfolding word_of
word_of_short row k h = rw (lt-leb (8 * k + 8) (length row) h)

-- bytes of a part of a table, joined
pub row_word_part : (ts : List ℕ) (start long i k : ℕ) → i + k ≤ long → row_word k (take long (drop start ts)) i ≡ row_word k ts (start + i)
unfolding row_word
row_word_part ts start long i zero h = refl
row_word_part ts start long i (suc k) h =
    let here : start + (i + k) ≡ start + i + k = omega arith in
    let byte : get_or (take long (drop start ts)) (i + k) 0 ≡ get_or ts (start + i + k) 0 =
    get_or-take long (drop start ts) (i + k) 0 (omega arith) ∙ get_or-drop start ts (i + k) 0 ∙ ap (λ (j : ℕ). get_or ts j 0) here in
    rw (byte, row_word_part ts start long i k (omega arith))

-- word k of row a, which is lent as the m bytes from its start on
pub word_of_row : (ts : List ℕ) (a k m : ℕ) → m ≡ row_bytes → row_bytes * a + row_bytes ≤ length ts → k < 8
    → word_of (take m (drop (row_bytes * a) ts)) k ≡ row_word 8 ts (row_bytes * a + 8 * k)
word_of_row ts a k m e whole h =
    word_of_whole (take m (drop (row_bytes * a) ts)) k (omega (arith, length-take m (drop (row_bytes * a) ts), length-drop (row_bytes * a) ts))
    ∙ row_word_part ts (row_bytes * a) m (8 * k) 8 (omega arith)

-- ---- one word more, as the loops' invariants have it

-- word k of a row: how many radios it marks, and how many are left behind it
pub length_row_from : (ts : List ℕ) → ((j : ℕ) → get_or ts j 0 < 256) → (a k w : ℕ) → k < 8 → w ≡ row_word 8 ts (row_bytes * a + 8 * k)
    → (ones w ≤ 64) × (length (row_from ts a k) ≡ ones w + length (row_from ts a (k + 1)))
length_row_from ts bytes a k w h e =
    let word = row_word 8 ts (row_bytes * a + 8 * k) in
    let bits = set_bits 64 (64 * k) word in
    let counted : length bits ≡ ones w = length_set_bits 64 (64 * k) word (word_at_less ts bytes (row_bytes * a + 8 * k) 8) ∙ ap ones (sym e) in (
      omega (arith, length_set_bits_le 64 (64 * k) word),
      omega (arith, ap length (row_from_word ts bytes a k h), length-append bits (row_from ts a (k + 1))),
    )

-- n radios counted before word k, no more than a row may mark
abbrev pub RowCounting : (links : List ℕ) → (a n k : ℕ) → Type 0
RowCounting ts a n k = (k ≤ 8) × (n ≤ max_neighbours) × (n + length (row_from ts a k) ≡ length (neighbours_of ts a))

pub row_counting_turn : (ts : List ℕ) → ((j : ℕ) → get_or ts j 0 < 256) → (a n k w : ℕ) → k < 8 → w ≡ row_word 8 ts (row_bytes * a + 8 * k)
    → n + ones w ≤ max_neighbours → RowCounting ts a n k → RowCounting ts a (n + ones w) (k + 1)
row_counting_turn ts bytes a n k w h e few i = (omega arith, few, omega (arith, i.2, (length_row_from ts bytes a k w h e).1))

-- the count stops
pub row_counting_stop : (ts : List ℕ) → ((j : ℕ) → get_or ts j 0 < 256) → (a n k w : ℕ) → k < 8 → w ≡ row_word 8 ts (row_bytes * a + 8 * k)
    → row_bytes * a + row_bytes ≤ length ts → suc max_neighbours ≤ n + ones w → RowCounting ts a n k → suc max_neighbours ≡ row_count max_neighbours ts a
unfolding row_count
row_counting_stop ts bytes a n k w h e l many i =
    omega (arith, i.2, (length_row_from ts bytes a k w h e).1, ap length (row_listed_whole ts a l))

pub row_counting_end : (ts : List ℕ) (a n k : ℕ) → 8 ≤ k → row_bytes * a + row_bytes ≤ length ts → RowCounting ts a n k → n ≡ row_count max_neighbours ts a
unfolding row_count
row_counting_end ts a n k h l i = omega (arith, i.1, i.2, ap length (row_from_end ts a k h), ap length (row_listed_whole ts a l))

-- the words from word `from` to before word k listed, after `count` entries
abbrev pub WordsListing : (links : List ℕ) → (a from count : ℕ) → (old : List ℕ) → (n k : ℕ) → (list : List ℕ) → Type 0
WordsListing ts a from count old n k list = (k ≤ 8) × PartialListing (row_from ts a from) count old (row_from ts a k) n list

pub words_listing_turn : (ts : List ℕ) → ((j : ℕ) → get_or ts j 0 < 256) → (a from count : ℕ) (old : List ℕ) (n k w m : ℕ) (list new : List ℕ) → k < 8
    → w ≡ row_word 8 ts (row_bytes * a + 8 * k) → m ≡ min (length list) (n + length (set_bits 64 (64 * k) w)) → new ≡ sets list n (set_bits 64 (64 * k) w)
    → WordsListing ts a from count old n k list → WordsListing ts a from count old m (k + 1) new
words_listing_turn ts bytes a from count old n k w m list new h e f g i = (
  omega arith,
  rw (f, g) (partial_part (set_bits 64 (64 * k) w) (row_from ts a (k + 1)) n list (rw (row_split ts bytes a k w h e) at i.1)),
)

pub words_listing_end : (ts : List ℕ) (a from count : ℕ) (old : List ℕ) (n k : ℕ) (list : List ℕ) → 8 ≤ k → WordsListing ts a from count old n k list
    → (n ≡ min (length old) (count + length (row_from ts a from))) × (list ≡ sets old count (row_from ts a from))
words_listing_end ts a from count old n k list h i = partial_end (row_from ts a k) n list (row_from_end ts a k h) i.1

-- a list written from its front on
pub front_listed : (xs ys old list : List ℕ) (n : ℕ) → xs ≡ ys → n ≡ min (length old) (0 + length xs) → list ≡ sets old 0 xs
    → (n ≡ min (length old) (length ys)) × (list ≡ overwrite (take (length old) ys) old)
front_listed xs ys old list n e f g = (omega (arith, f, ap length e), g ∙ ap (sets old 0) e ∙ sets_front old ys)

-- ---- the lowest radio that passes a test, where each word tells the test of its own

-- none passes before word k
abbrev pub Searching : (test : ℕ → Bool) → (k : ℕ) → Type 0
Searching f k = (k ≤ 8) × (filter f (range 0 max_radios) ≡ filter f (range (64 * k) (max_radios - 64 * k)))

module _ (f : ℕ → Bool) (k w : ℕ) (h : k < 8) (tells : (m : ℕ) → m < 64 → f (64 * k + m) ≡ digit w m) (i : Searching f k) where
  abbrev others : List ℕ
  others = filter f (range (64 * (k + 1)) (max_radios - 64 * (k + 1)))

  pub searching_turn : w ≡ 0 → Searching f (k + 1)
  searching_turn z = (omega arith, i.1 ∙ words_from f k w h tells ∙ ap (λ (x : List ℕ). x ++ others) (word_none (64 * k) w z))

  pub searching_found : w < 2 ^ 64 → (w ≡ 0 → ⊥) → Some (64 * k + count_trailing_zeros 64 w) ≡ first_in (filter f (range 0 max_radios))
  unfolding first_in
  searching_found less some =
      sym (ap first_in (i.1 ∙ words_from f k w h tells ∙ ap (λ (x : List ℕ). x ++ others) (word_lowest (64 * k) w less some)))

pub searching_end : (f : ℕ → Bool) (k : ℕ) → 8 ≤ k → Searching f k → None ≡ first_in (filter f (range 0 max_radios))
unfolding first_in
searching_end f k h i = sym (ap first_in (i.1 ∙ words_end f k h))
