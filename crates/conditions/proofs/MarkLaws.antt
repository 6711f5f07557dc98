-- The one-sided pairs.
--   pair_heard, pair_alone   a pair that is passed over, a pair that is marked
--   RowMarking              some pairs of a row are marked and counted, and give with what is left what all of them give
--   Marking                  the rows before row a are marked, and counted with what is left as the whole
use Rattle.std.specs.Prelude.{◌≡◌, ◌⊎◌, ◌&&◌, ◌||◌, ◌∷◌, ◌++◌, ◌+◌, ◌*◌, ◌-◌, ◌^◌, ◌≤◌, ◌<◌}
use Rattle.lists.{specs.Kit.{refl, sym, ap, ◌∙◌, inl, inr, Bool, true, false, not, cond, List, [], ℕ, suc}}
use Rattle.lists.{specs.Kit.{arith, add-one, bit_and, count_trailing_zeros, ltb, eqb, length, get_or, replicate, length-replicate, eqb-true, eq-eqb, ne_eqb}}
use Rattle.lists.{specs.Kit.{lt-ltb, le-ltb}, specs.Facts.{Bytes, folded}, specs.Lists.{In, range, count, total, member}, proofs.Tests.{trichotomy}}
use Rattle.lists.{proofs.Count.{count_le_length}, proofs.Range.{count_below}, proofs.Filter.{count_filter}, proofs.Loops.{length_folded, folded_append}}
use Rattle.lists.{proofs.Parts.{bytes_replicate}}
use mir.{Syntax.{w32}, Val.{bool_byte, Fits}}
use Rattle.mesh.{specs.Limits.{max_radios, row_bytes}, specs.Tables.{marked, put_bit}, specs.Sound.{within}, proofs.Tables.Laws.{table_eq, marked_replicate}}
use Rattle.mesh.{proofs.Tables.Laws.{byte_at_less, length_put_bit, bytes_put_bit, marked_put_bit, length_bit_table, bytes_bit_table, marked_bit_table}}
use Rattle.mesh.{proofs.Tables.Rows.{within_of}}
use Rattle.rows.{specs.Rows.{neighbours_of, row_from, set_bits, row_word}, proofs.RowWords.{row_from_zero, row_from_end}, proofs.RowListLaws.{in_neighbours_of}}
use Rattle.rows.{proofs.RowWords.{row_split}, proofs.WordLaws.{word_lowest, word_less, word_none}, proofs.RowListLaws.{member_neighbours_of}}
use Rattle.calls.specs.Heard.{heard_alone, one_sided, one_sided_count}
use Rattle.conditions.specs.Hearing.{OfSize, hears, alone_put, PairMarked, RowMarked, OneSidedMarked}
use Rattle.conditions.proofs.TallyLaws.{Counting, counting_none, counting_one, counting_part, counting_end, neighbours_most}

-- ---- a pair

module _ (hs : List ℕ) (a b : ℕ) (w : List ℕ) where
  pub pair_heard : marked hs b a ≡ true → PairMarked hs a b w false w
  unfolding hears alone_put
  pair_heard e = record { answer = rw e; table = rw e }

  pub pair_alone : (x : List ℕ) → marked hs b a ≡ false → x ≡ put_bit true a b w → PairMarked hs a b w true x
  unfolding hears alone_put
  pair_alone x e f = record { answer = rw e; table = rw e f }

  pub length_alone_put : length (alone_put hs a b w) ≡ length w
  unfolding alone_put
  length_alone_put = go (hears hs a b)
    where
      go : (t : Bool) → length (cond t w (put_bit true a b w)) ≡ length w
      go true = refl
      go false = length_put_bit true a b w

  bytes_alone_put : Bytes w → Bytes (alone_put hs a b w)
  unfolding alone_put
  bytes_alone_put h = go (hears hs a b)
    where
      go : (t : Bool) → Bytes (cond t w (put_bit true a b w))
      go true = h
      go false = bytes_put_bit true a b w h

  module _ (n : ℕ) (long : length w ≡ row_bytes * n) (la : a < n) (lb : b < max_radios) (x y : ℕ) (ly : y < max_radios) where
    marked_alone_put : marked (alone_put hs a b w) x y ≡ (((eqb a x && eqb b y) && not (hears hs a b)) || marked w x y)
    unfolding alone_put
    marked_alone_put = go (hears hs a b)
      where
        both : (s : Bool) (z : Bool) → cond s true z ≡ ((s && true) || z)
        both true z = refl
        both false z = refl

        none : (s : Bool) (z : Bool) → z ≡ ((s && false) || z)
        none true z = refl
        none false z = refl

        go : (t : Bool) → marked (cond t w (put_bit true a b w)) x y ≡ (((eqb a x && eqb b y) && not t) || marked w x y)
        go true = none (eqb a x && eqb b y) (marked w x y)
        go false =
            marked_put_bit true a b w x y lb ly (omega (arith, long, byte_at_less n a b la lb)) ∙ both (eqb a x && eqb b y) (marked w x y)

pub length_alones : (hs : List ℕ) (a : ℕ) (xs w : List ℕ) → length (folded (alone_put hs a) xs w) ≡ length w
length_alones hs a = length_folded (alone_put hs a) (λ b s. length_alone_put hs a b s)

-- ---- a row

module _ (hs : List ℕ) (a n : ℕ) (la : a < n) where
  bytes_alones : (xs w : List ℕ) → Bytes w → Bytes (folded (alone_put hs a) xs w)
  unfolding folded
  bytes_alones [] w h = h
  bytes_alones (b ∷ xs) w h = bytes_alones xs (alone_put hs a b w) (bytes_alone_put hs a b w h)

  marked_alones : (xs w : List ℕ) → length w ≡ row_bytes * n → ((b : ℕ) → In b xs → b < max_radios) → (x y : ℕ) → y < max_radios
      → marked (folded (alone_put hs a) xs w) x y ≡ ((eqb a x && (member y xs && not (hears hs a y))) || marked w x y)
  unfolding folded member
  marked_alones [] w long small x y ly = none (eqb a x) (marked w x y)
    where
      none : (s : Bool) (z : Bool) → z ≡ ((s && false) || z)
      none true z = refl
      none false z = refl
  marked_alones (b ∷ xs) w long small x y ly =
      marked_alones xs (alone_put hs a b w) (length_alone_put hs a b w ∙ long) (λ v i. small v (inr i)) x y ly
      ∙ ap (λ (z : Bool). (eqb a x && (member y xs && not (hears hs a y))) || z) (marked_alone_put hs a b w n long la (small b (inl refl)) x y ly)
      ∙ go (eqb a x) (eqb b y) refl (member y xs) (marked w x y)
    where
      join : (s m h z : Bool) → ((s && (m && not h)) || (((s && true) && not h) || z)) ≡ ((s && (true && not h)) || z)
      join true true true z = refl
      join true true false z = refl
      join true false true z = refl
      join true false false z = refl
      join false m h z = refl

      part : (s m h g z : Bool) → ((s && (m && not h)) || (((s && false) && not g) || z)) ≡ ((s && (m && not h)) || z)
      part true m h g z = refl
      part false m h g z = refl

      go : (s t : Bool) → eqb b y ≡ t → (m z : Bool)
          → ((s && (m && not (hears hs a y))) || (((s && t) && not (hears hs a b)) || z)) ≡ ((s && ((t || m) && not (hears hs a y))) || z)
      go s true e m z = let q : b ≡ y = eqb-true b y e in rw q (join s m (hears hs a y) z)
      go s false e m z = part s m (hears hs a y) (hears hs a b) z

-- of the pairs of a with the radios `whole`, marked from the table w on, the ones with `rest` are left
pub record RowMarking (hs : List ℕ) (a : ℕ) (whole w rest : List ℕ) (r : ℕ) (x : List ℕ) : Type 0 where
  pub long : length x ≡ length w
  pub tally : Counting (λ b. not (hears hs a b)) whole rest r
  pub table : folded (alone_put hs a) rest x ≡ folded (alone_put hs a) whole w

module _ {hs : List ℕ} {a : ℕ} where
  pub row_none : {whole w : List ℕ} → RowMarking hs a whole w whole 0 w
  row_none {whole} {w} = record { long = refl; tally = counting_none (λ b. not (hears hs a b)) whole; table = refl }

  module _ {whole w : List ℕ} {r : ℕ} {x : List ℕ} where
    pub row_pair : {b : ℕ} {rest : List ℕ} {t : Bool} {y : List ℕ} → RowMarking hs a whole w (b ∷ rest) r x → PairMarked hs a b x t y
        → RowMarking hs a whole w rest (r + bool_byte t) y
    unfolding folded
    row_pair {b} {rest} {t} {y} m d = record {
      long = ap length d.table ∙ length_alone_put hs a b x ∙ m.long;
      tally = counting_one d.answer m.tally;
      table = ap (folded (alone_put hs a) rest) d.table ∙ m.table;
    }

    pub row_part : {bs rest : List ℕ} {s : ℕ} {y : List ℕ} → RowMarking hs a whole w (bs ++ rest) r x → RowMarked hs a bs x s y
        → RowMarking hs a whole w rest (r + s) y
    row_part {bs} {rest} {s} {y} m d = record {
      long = ap length d.table ∙ length_alones hs a bs x ∙ m.long;
      tally = counting_part bs rest d.counted m.tally;
      table = ap (folded (alone_put hs a) rest) d.table ∙ sym (folded_append (alone_put hs a) bs rest x) ∙ m.table;
    }

    pub row_end : {rest : List ℕ} → rest ≡ [] → RowMarking hs a whole w rest r x → RowMarked hs a whole w r x
    unfolding folded
    row_end {rest} e m =
        record { counted = counting_end e m.tally; table = ap (λ (xs : List ℕ). folded (alone_put hs a) xs x) (sym e) ∙ m.table }

-- the pairs of a with the radios of a word
abbrev pub WordMarking : (heard : List ℕ) → (a first word : ℕ) → (w : List ℕ) → (rest r : ℕ) → (x : List ℕ) → Type 0
WordMarking hs a first word w rest r x = (rest < 2 ^ 64) × RowMarking hs a (set_bits 64 first word) w (set_bits 64 first rest) r x

module _ {hs : List ℕ} {a : ℕ} (first word : ℕ) {w : List ℕ} (rest : ℕ) {r : ℕ} {x : List ℕ} (m : WordMarking hs a first word w rest r x) where
  pub word_pair : (rest ≡ 0 → ⊥) → {t : Bool} {y : List ℕ} → PairMarked hs a (first + count_trailing_zeros 64 rest) x t y
      → WordMarking hs a first word w (bit_and rest (rest - 1)) (r + bool_byte t) y
  word_pair some d = (word_less rest m.0, row_pair (rw (word_lowest first rest m.0 some) at m.1) d)

  pub word_end : rest ≡ 0 → RowMarked hs a (set_bits 64 first word) w r x
  word_end z = row_end (word_none first rest z) m.1

-- the pairs of a with the radios of its words before word k
abbrev pub WordsMarking : (heard : List ℕ) → (a : ℕ) → (w : List ℕ) → (k r : ℕ) → (x : List ℕ) → Type 0
WordsMarking hs a w k r x = (k ≤ 8) × RowMarking hs a (neighbours_of hs a) w (row_from hs a k) r x

pub words_marking_none : (hs : List ℕ) (a : ℕ) (w : List ℕ) → WordsMarking hs a w 0 0 w
words_marking_none hs a w = (omega arith, rw (row_from_zero hs a) row_none)

module _ {hs : List ℕ} (bytes : (j : ℕ) → get_or hs j 0 < 256) {a : ℕ} {w : List ℕ} {k r : ℕ} {x : List ℕ} (m : WordsMarking hs a w k r x) (l : k < 8) {word : ℕ}
    (e : word ≡ row_word 8 hs (row_bytes * a + 8 * k)) {s : ℕ} {y : List ℕ} (d : RowMarked hs a (set_bits 64 (64 * k) word) x s y) where
  pub words_marking_turn : WordsMarking hs a w (k + 1) (r + s) y
  words_marking_turn = (omega (arith, l), row_part (rw (row_split hs bytes a k word l e) at m.1) d)

pub words_marking_end : {hs : List ℕ} {a : ℕ} {w : List ℕ} {k r : ℕ} {x : List ℕ} → WordsMarking hs a w k r x → 8 ≤ k
    → RowMarked hs a (neighbours_of hs a) w r x
words_marking_end {hs} {a} {w} {k} m h = row_end (row_from_end hs a k h) m.1

-- ---- a table

-- one-sided pairs of row x
abbrev pairs_of : (n : ℕ) → (heard : List ℕ) → (x : ℕ) → ℕ
pairs_of n hs x = count (heard_alone hs x) (range 0 n)

pairs_left : (n : ℕ) (hs : List ℕ) (a : ℕ) → a < n → total (pairs_of n hs) (range a (n - a)) ≡ pairs_of n hs a + total (pairs_of n hs)
    (range (a + 1) (n - (a + 1)))
unfolding range
pairs_left n hs a l = let e : n - a ≡ suc (n - (a + 1)) = omega (arith, l) in rw (e, add-one a)

pairs_past : (n : ℕ) (hs : List ℕ) (a : ℕ) → n ≤ a → total (pairs_of n hs) (range a (n - a)) ≡ 0
unfolding range
pairs_past n hs a l = let e : n - a ≡ 0 = omega (arith, l) in rw e

-- the further table has `room` bytes; its rows before row a are marked
pub record Marking (n : ℕ) (hs : List ℕ) (room : ℕ) (further : List ℕ) (k a : ℕ) : Type 0 where
  pub low : a ≤ n
  pub long : length further ≡ room
  pub bytes : Bytes further
  pub few : k ≤ max_radios * a
  pub counted : within n hs ≡ true → k + total (pairs_of n hs) (range a (n - a)) ≡ total (pairs_of n hs) (range 0 n)
  pub marks : room ≡ row_bytes * n → (x y : ℕ) → x < n → y < max_radios → marked further x y ≡ (ltb x a && heard_alone hs x y)

module _ (n : ℕ) (hs : List ℕ) (room : ℕ) (s : OfSize n hs) where
  pub marking_none : (x : List ℕ) → x ≡ replicate room 0 → Marking n hs room x 0 0
  marking_none x e = rw e (record {
    low = omega arith;
    long = length-replicate room 0;
    bytes = bytes_replicate room;
    few = omega arith;
    counted = λ h. let z : n - 0 ≡ n = omega arith in rw z (omega arith);
    marks = λ long x y lx ly. marked_replicate room x y (omega (arith, long, byte_at_less n x y lx ly)) ∙ rw (le-ltb x 0 (omega arith));
  })

  module _ (further : List ℕ) (k a : ℕ) (m : Marking n hs room further k a) (l : a < n) (r : ℕ) (new : List ℕ)
      (d : RowMarked hs a (neighbours_of hs a) further r new) where
    pairs_is : within n hs ≡ true → r ≡ pairs_of n hs a
    unfolding neighbours_of heard_alone hears
    pairs_is h =
        d.counted
        ∙ count_filter (λ b. not (marked hs b a)) (λ b. marked hs a b) (range 0 max_radios)
        ∙ count_below (heard_alone hs a) n max_radios s.most (λ b nb lb. rw (within_of n hs h a b l nb lb))

    row_few : r ≤ max_radios
    row_few = omega (arith, d.counted, count_le_length (λ b. not (hears hs a b)) (neighbours_of hs a), neighbours_most hs a)

    pub marking_fits : Fits w32 (k + r)
    marking_fits = record { fits = omega (arith, m.few, row_few, l, s.most) }

    row_marks : room ≡ row_bytes * n → (x y : ℕ) → y < max_radios → marked new x y ≡ ((eqb a x && heard_alone hs x y) || marked further x y)
    unfolding heard_alone hears
    row_marks long x y ly =
        ap (λ (t : List ℕ). marked t x y) d.table
        ∙ marked_alones hs a n l (neighbours_of hs a) further (m.long ∙ long) (λ b j. (in_neighbours_of hs a b j).0) x y ly
        ∙ ap (λ (t : Bool). (eqb a x && (t && not (marked hs y a))) || marked further x y) (member_neighbours_of hs a y ly)
        ∙ own (eqb a x) refl
      where
        own : (t : Bool) → eqb a x ≡ t → ((t && (marked hs a y && not (marked hs y a))) || marked further x y) ≡
            ((t && (marked hs x y && not (marked hs y x))) || marked further x y)
        own true e = let q : a ≡ x = eqb-true a x e in rw q
        own false e = refl

    next_marks : room ≡ row_bytes * n → (x y : ℕ) → x < n → y < max_radios → marked new x y ≡ (ltb x (a + 1) && heard_alone hs x y)
    next_marks long x y lx ly = row_marks long x y ly ∙ ap (λ (t : Bool). (eqb a x && heard_alone hs x y) || t) (m.marks long x y lx ly) ∙ go (trichotomy a x)
      where
        go : (a < x) ⊎ ((a ≡ x) ⊎ (x < a)) → ((eqb a x && heard_alone hs x y) || (ltb x a && heard_alone hs x y)) ≡ (ltb x (a + 1) && heard_alone hs x y)
        go (inl h) = rw (ne_eqb a x (λ e. absurd (omega (arith, e, h))), le-ltb x a (omega (arith, h)), le-ltb x (a + 1) (omega (arith, h)))
        go (inr (inl h)) = rw (eq-eqb a x h, le-ltb x a (omega (arith, h)), lt-ltb x (a + 1) (omega (arith, h))) (nothing (heard_alone hs x y))
          where
            nothing : (t : Bool) → (t || false) ≡ t
            nothing true = refl
            nothing false = refl
        go (inr (inr h)) = rw (ne_eqb a x (λ e. absurd (omega (arith, e, h))), lt-ltb x a h, lt-ltb x (a + 1) (omega (arith, h)))

    pub marking_turn : Marking n hs room new (k + r) (a + 1)
    marking_turn = record {
      low = omega (arith, l);
      long = ap length d.table ∙ length_alones hs a (neighbours_of hs a) further ∙ m.long;
      bytes = rw d.table (bytes_alones hs a n l (neighbours_of hs a) further m.bytes);
      few = omega (arith, m.few, row_few);
      counted = λ h. omega (arith, pairs_is h, m.counted h, pairs_left n hs a l);
      marks = next_marks;
    }

  pub marking_end : (w further : List ℕ) (k a : ℕ) → room ≡ length w → Marking n hs room further k a → n ≤ a → OneSidedMarked n hs w k further
  unfolding one_sided one_sided_count
  marking_end w further k a e m l = record {
    counted =
        λ h. let c : k + total (pairs_of n hs) (range a (n - a)) ≡ total (pairs_of n hs) (range 0 n) = m.counted h in sym
        (sym c ∙ rw (pairs_past n hs a l) (omega arith));
    table = λ long.
        table_eq n further _ (m.long ∙ e ∙ long) (length_bit_table n (heard_alone hs)) m.bytes (bytes_bit_table n (heard_alone hs))
        (λ x y lx ly. m.marks (e ∙ long) x y lx ly ∙ rw (lt-ltb x a (omega (arith, lx, l))) (sym (marked_bit_table n (heard_alone hs) x y lx ly)));
  }
