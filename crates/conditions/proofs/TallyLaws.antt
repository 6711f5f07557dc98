-- Radios that pass a test counted, as the loops over a row's words and over a word's bits go.
--   Counting           some radios are counted, and with what is left they come to what all of them come to
--   WordCounting      the same of the radios of a word
--   WordsCounting     the same of the words of a row
use Rattle.std.specs.Prelude.{◌≡◌, ◌∷◌, ◌++◌, ◌+◌, ◌*◌, ◌-◌, ◌^◌, ◌≤◌, ◌<◌}
use Rattle.lists.{specs.Kit.{ap, Bool, cond, List, [], ℕ, arith, bit_and, count_trailing_zeros}}
use Rattle.lists.{specs.Kit.{length, get_or, length-append}, specs.Lists.{range, count}, proofs.Tests.{byte_bit, bit_one}, proofs.Count.{count_le_length}}
use Rattle.lists.{proofs.Count.{count_append}, proofs.Range.{length_range}, proofs.Filter.{filter_le}}
use mir.{Syntax.{w32}, Val.{bool_byte, Fits}}
use Rattle.mesh.specs.{Limits.{max_radios, row_bytes}, Tables.{marked}}
use Rattle.rows.{specs.Rows.{neighbours_of, row_from, set_bits, row_word}, proofs.WordLaws.{word_lowest, word_less, word_none}}
use Rattle.rows.{proofs.WordLaws.{length_set_bits_le}, proofs.RowWords.{row_from_zero, row_split, row_from_end}}

-- r of the radios `whole` are counted, and `rest` are left
pub record Counting (g : ℕ → Bool) (whole rest : List ℕ) (r : ℕ) : Type 0 where
  pub few : r + length rest ≤ length whole
  pub is : r + count g rest ≡ count g whole

pub counting_none : (g : ℕ → Bool) (whole : List ℕ) → Counting g whole whole 0
counting_none g whole = record { few = omega arith; is = omega arith }

module _ {g : ℕ → Bool} {whole : List ℕ} {r : ℕ} where
  pub counting_one : {b : ℕ} {rest : List ℕ} {t : Bool} → t ≡ g b → Counting g whole (b ∷ rest) r → Counting g whole rest (r + bool_byte t)
  unfolding count
  counting_one {b} {rest} {t} e i = record {
    few = omega (arith, i.few, byte_bit t, bit_one t);
    is = omega (arith, i.is, byte_bit t, ap (λ (u : Bool). cond {A = ℕ} u 1 0) e);
  }

  pub counting_part : (bs rest : List ℕ) {s : ℕ} → s ≡ count g bs → Counting g whole (bs ++ rest) r → Counting g whole rest (r + s)
  counting_part bs rest {s} e i = record {
    few = omega (arith, i.few, e, count_le_length g bs, length-append bs rest);
    is = omega (arith, i.is, e, count_append g bs rest);
  }

  pub counting_end : {rest : List ℕ} → rest ≡ [] → Counting g whole rest r → r ≡ count g whole
  unfolding count
  counting_end {rest} e i = omega (arith, i.is, ap (count g) e)

-- ---- the radios of a word

-- of the radios of a word no more are counted than it has bits
pub word_fits : {g : ℕ → Bool} (first word rest : ℕ) {r : ℕ} → rest < 2 ^ 64 → (rest ≡ 0 → ⊥) → Counting g (set_bits 64 first word) (set_bits 64 first rest) r
    → (t : Bool) → Fits w32 (r + bool_byte t)
word_fits first word rest h some i t =
    record { fits = omega (arith, i.few, length_set_bits_le 64 first word, ap length (word_lowest first rest h some), byte_bit t, bit_one t) }

abbrev pub WordCounting : (ℕ → Bool) → (first word rest r : ℕ) → Type 0
WordCounting g first word rest r = (rest < 2 ^ 64) × Counting g (set_bits 64 first word) (set_bits 64 first rest) r

module _ {g : ℕ → Bool} (first word rest : ℕ) {r : ℕ} (i : WordCounting g first word rest r) where
  pub word_counting_turn : (rest ≡ 0 → ⊥) → {t : Bool} → t ≡ g (first + count_trailing_zeros 64 rest)
      → WordCounting g first word (bit_and rest (rest - 1)) (r + bool_byte t)
  word_counting_turn some e = (word_less rest i.0, counting_one e (rw (word_lowest first rest i.0 some) at i.1))

  pub word_counting_end : rest ≡ 0 → r ≡ count g (set_bits 64 first word)
  word_counting_end z = counting_end (word_none first rest z) i.1

-- ---- the words of a row

-- a row marks at most as many radios as there are
pub neighbours_most : (ts : List ℕ) (a : ℕ) → length (neighbours_of ts a) ≤ max_radios
unfolding neighbours_of
neighbours_most ts a = filter_le (λ b. marked ts a b) (range 0 max_radios) max_radios (length_range 0 max_radios)

pub row_fits : {g : ℕ → Bool} (ts : List ℕ) (a : ℕ) {rest : List ℕ} {r : ℕ} → Counting g (neighbours_of ts a) rest r → Fits w32 r
row_fits ts a i = record { fits = omega (arith, i.few, neighbours_most ts a) }

abbrev pub WordsCounting : (ℕ → Bool) → (table : List ℕ) → (a k r : ℕ) → Type 0
WordsCounting g ts a k r = (k ≤ 8) × Counting g (neighbours_of ts a) (row_from ts a k) r

pub words_counting_none : (g : ℕ → Bool) (ts : List ℕ) (a : ℕ) → WordsCounting g ts a 0 0
words_counting_none g ts a = (omega arith, rw (row_from_zero ts a) (counting_none g (neighbours_of ts a)))

pub words_counting_turn : {g : ℕ → Bool} (ts : List ℕ) → ((j : ℕ) → get_or ts j 0 < 256) → (a k : ℕ) {r : ℕ} → WordsCounting g ts a k r → k < 8 → (word : ℕ)
    → word ≡ row_word 8 ts (row_bytes * a + 8 * k) → {s : ℕ} → s ≡ count g (set_bits 64 (64 * k) word) → WordsCounting g ts a (k + 1) (r + s)
words_counting_turn ts bytes a k i l word e d = (omega (arith, l), counting_part _ _ d (rw (row_split ts bytes a k word l e) at i.1))

pub words_counting_end : {g : ℕ → Bool} (ts : List ℕ) (a k : ℕ) {r : ℕ} → WordsCounting g ts a k r → 8 ≤ k → r ≡ count g (neighbours_of ts a)
words_counting_end ts a k i h = counting_end (row_from_end ts a k h) i.1
