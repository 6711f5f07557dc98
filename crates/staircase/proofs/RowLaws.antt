-- The links of a row to the radios of a set, by words.
--   words-..        the links from word k on
--   row_words       the links to radios above the row's own
--   level-row-..    which set counts for a radio
--   rows-..         rows in turn
use Rattle.std.specs.Prelude.{◌≡◌, ◌⊎◌, ◌∷◌, ◌++◌, ◌+◌, ◌*◌, ◌-◌, ◌/◌, ◌%◌, ◌^◌, ◌≤◌, ◌<◌}
use Rattle.lists.{specs.Kit.{refl, sym, ap, ◌∙◌, inl, inr, Bool, true, false, cond, List, [], flat_map, ℕ, zero, suc}}
use Rattle.lists.{specs.Kit.{min, add-one, arith, bit_and, and_step, and_shr, ltb, eqb, length, get_or, take, drop}}
use Rattle.lists.{specs.Kit.{drop_of_length-le, drop-cons, ltb-true, ltb-false, eqb-true, eqb-false, ne_eqb}, specs.Lists.{range, filter, In}}
use Rattle.lists.{proofs.Tests.{bool_cases, never}, proofs.Filter.{in_filter, filter_append}, proofs.Range.{range_in}, proofs.Map.{map_append}}
use lib.{Arith.{lt-one}, Pow.{pow_mono, shr-shr, shr_lt}}
use Rattle.mesh.{specs.Limits.{max_radios, row_bytes}, specs.Graph.{Link, InLinks, link_of}, specs.Tables.{digit, marked}, proofs.Tables.Digits.{digit_zero}}
use Rattle.mesh.{proofs.Tables.Digits.{digit_suc}}
use Rattle.rows.{specs.Rows.{row_from, set_bits, word_of}, proofs.WordLaws.{word_at_less}, proofs.RowWords.{row_split, row_from_end, word_of_row}}
use Rattle.rows.{proofs.SetLaws.{member_word}, proofs.AboveWords.{above_words}, specs.Sets.{in_set}, specs.Links.{links_to}}
use Rattle.staircase.specs.{Taking.{Takeable}, Rows.{row_among, level_row}, declared.forest.Forest.{Forest}}

-- ---- set bits of two words

-- a test that tells the digits of y, where the word x has its bits, leaves the bits that both have
filter_bits : (d i x y : ℕ) (f : ℕ → Bool) → ((m : ℕ) → m < d → digit x m ≡ true → f (i + m) ≡ digit y m) → filter f (set_bits d i x) ≡ set_bits d i
    (bit_and x y)
unfolding set_bits filter
filter_bits zero i x y f h = refl
filter_bits (suc d) i x y f h =
    go (bool_cases (eqb (x % 2) 1))
    (filter_bits d (suc i) (x / 2) (y / 2) f (λ m l e. ap f (omega arith) ∙ h (suc m) (omega arith) (digit_suc x m ∙ e) ∙ digit_suc y m))
  where
    half : bit_and x y / 2 ≡ bit_and (x / 2) (y / 2)
    half = omega (arith, and_step x y)

    first : bit_and x y % 2 ≡ min (x % 2) (y % 2)
    first = omega (arith, and_step x y)

    go : (eqb (x % 2) 1 ≡ true) ⊎ (eqb (x % 2) 1 ≡ false) → filter f (set_bits d (suc i) (x / 2)) ≡ set_bits d (suc i) (bit_and (x / 2) (y / 2))
        → filter f (cond (eqb (x % 2) 1) (i ∷ set_bits d (suc i) (x / 2)) (set_bits d (suc i) (x / 2)))
        ≡ cond (eqb (bit_and x y % 2) 1) (i ∷ set_bits d (suc i) (bit_and x y / 2)) (set_bits d (suc i) (bit_and x y / 2))
    go (inl e) rec =
        let odd = eqb-true (x % 2) 1 e in
        let same : eqb (bit_and x y % 2) 1 ≡ f i =
        ap (λ (z : ℕ). eqb z 1) (let q : bit_and x y % 2 ≡ y % 2 = omega (arith, first) in q) ∙ sym (digit_zero y)
        ∙ sym (ap f (let z : i ≡ i + 0 = omega arith in z) ∙ h 0 (omega arith) (digit_zero x ∙ e)) in
        rw (e, same, half, rec)
    go (inr e) rec =
        let even = eqb-false (x % 2) 1 e in
        let no : eqb (bit_and x y % 2) 1 ≡ false = ne_eqb (bit_and x y % 2) 1 (λ z. omega (arith, first, even)) in
        rw (e, no, half, rec)

-- ---- the links of a radio

in_links_to : (a x : ℕ) (xs : List ℕ) → In x xs → InLinks (link_of a x) (links_to a xs)
in_links_to a x [] x'' = elim x'' [ ]
in_links_to a x (y ∷ ys) (inl e) = inl (ap (link_of a) e)
in_links_to a x (y ∷ ys) (inr i) = inr (in_links_to a x ys i)

no_links : (a : ℕ) (xs : List ℕ) → ((x : ℕ) → In x xs → ⊥) → links_to a xs ≡ []
no_links a [] h = refl
no_links a (x ∷ xs) h = absurd (h x (inl refl))

-- ---- the words of a row

-- a word shifted past the bit of a
digit_above : (z a m : ℕ) → digit (z / 2 ^ (a % 64) / 2 ^ 1) m ≡ digit z (a % 64 + 1 + m)
unfolding digit
digit_above z a m = ap (λ (y : ℕ). eqb (y / 2 ^ m % 2) 1) (shr-shr z (a % 64) 1) ∙ ap (λ (y : ℕ). eqb (y % 2) 1) (shr-shr z (a % 64 + 1) m)

digit_past : (z m : ℕ) → z < 2 ^ 64 → 64 ≤ m → digit z m ≡ false
unfolding digit
digit_past z m h l =
    let e : 0 + m ≡ m = omega arith in
    let low : z < 2 ^ (0 + m) = rw e (omega (arith, pow_mono {i = 64} {j = m} l)) in
    ap (λ (y : ℕ). eqb (y % 2) 1) (lt-one (shr_lt 0 m low))

module _ (ts : List ℕ) (bytes : (j : ℕ) → get_or ts j 0 < 256) (s : List ℕ) (a : ℕ) where
  -- w is word k of the row, read from its m bytes
  pub words_among : (k w m : ℕ) → k < 8 → row_bytes * a + row_bytes ≤ length ts → m ≡ row_bytes → w ≡ word_of (take m (drop (row_bytes * a) ts)) k
      → links_to a (filter (in_set s) (row_from ts a k))
      ≡ links_to a (set_bits 64 (64 * k) (bit_and w (get_or s k 0))) ++ links_to a (filter (in_set s) (row_from ts a (k + 1)))
  words_among k w m h whole long read =
      let e = read ∙ word_of_row ts a k m long whole h in
      ap (links_to a) (ap (filter (in_set s)) (row_split ts bytes a k w h e)
      ∙ filter_append (in_set s) (set_bits 64 (64 * k) w) (row_from ts a (k + 1))
      ∙ ap (λ (xs : List ℕ). xs ++ filter (in_set s) (row_from ts a (k + 1)))
      (filter_bits 64 (64 * k) w (get_or s k 0) (in_set s) (λ m l d. member_word s k m l)))
      ∙ map_append (link_of a) (set_bits 64 (64 * k) (bit_and w (get_or s k 0))) (filter (in_set s) (row_from ts a (k + 1)))

  words_none : (k : ℕ) → 8 ≤ k → links_to a (filter (in_set s) (row_from ts a k)) ≡ []
  unfolding filter
  words_none k h = rw (row_from_end ts a k h)

  -- words that no radio of n has
  pub words_past : (f : Forest) (k : ℕ) → min 8 (length f.parents.now / 64 + 1) ≤ k → Takeable f (links_to a (filter (in_set s) (row_from ts a k)))
      → links_to a (filter (in_set s) (row_from ts a k)) ≡ []
  unfolding row_from
  words_past f k h t = go (bool_cases (ltb k 8))
    where
      n : ℕ
      n = length f.parents.now

      past : n < 64 * k → (x : ℕ) → In x (filter (in_set s) (row_from ts a k)) → ⊥
      past l x i =
          let row = (in_filter (in_set s) (row_from ts a k) x i).0 in
          let place = (in_filter (λ b. marked ts a b) (range (64 * k) (max_radios - 64 * k)) x row).0 in
          omega (
            arith,
            (range_in (64 * k) (max_radios - 64 * k) x place).0,
            (t.inside (link_of a x)
                (in_links_to a x (filter (in_set s) (row_from ts a k)) i)).1,
          )

      go : (ltb k 8 ≡ true) ⊎ (ltb k 8 ≡ false) → links_to a (filter (in_set s) (row_from ts a k)) ≡ []
      go (inl e) = let l = ltb-true k 8 e in no_links a (filter (in_set s) (row_from ts a k)) (past (omega arith))
      go (inr e) = words_none k (ltb-false k 8 e)

  -- w is the row's own word, read from the m bytes of the row; x is what is left of it above a, of radios of the set
  pub row_words : (w x m : ℕ) → a < max_radios → row_bytes * a + row_bytes ≤ length ts → m ≡ row_bytes
      → w ≡ word_of (take m (drop (row_bytes * a) ts)) (a / 64) → x ≡ bit_and w (get_or s (a / 64) 0) / 2 ^ (a % 64) / 2 ^ 1
      → row_among ts s a ≡ links_to a (set_bits 64 (a + 1) x) ++ links_to a (filter (in_set s) (row_from ts a (a / 64 + 1)))
  unfolding row_among
  row_words w x m small whole long read f =
      let k = a / 64 in
      let e = read ∙ word_of_row ts a k m long whole (omega arith) in
      let o = get_or s k 0 in
      let p = a % 64 + 1 in
      let v = w / 2 ^ (a % 64) / 2 ^ 1 in
      let is : x ≡ bit_and v (o / 2 ^ (a % 64) / 2 ^ 1) =
      f ∙ ap (λ (z : ℕ). z / 2 ^ 1) (and_shr w o (a % 64)) ∙ and_shr (w / 2 ^ (a % 64)) (o / 2 ^ (a % 64)) 1 in
      let tells : (m : ℕ) → m < 64 → digit v m ≡ true → in_set s (a + 1 + m) ≡ digit (o / 2 ^ (a % 64) / 2 ^ 1) m =
      λ m l d. above m (bool_cases (ltb (p + m) 64)) d in
      ap (links_to a) (ap (filter (in_set s)) (above_words ts a small whole bytes w v e refl)
      ∙ filter_append (in_set s) (set_bits 64 (a + 1) v) (row_from ts a (k + 1))
      ∙ ap (λ (xs : List ℕ). xs ++ filter (in_set s) (row_from ts a (k + 1)))
      (filter_bits 64 (a + 1) v (o / 2 ^ (a % 64) / 2 ^ 1) (in_set s) tells ∙ ap (set_bits 64 (a + 1)) (sym is)))
      ∙ map_append (link_of a) (set_bits 64 (a + 1) x) (filter (in_set s) (row_from ts a (k + 1)))
    where
      less : w < 2 ^ 64
      less = omega (arith, read ∙ word_of_row ts a (a / 64) m long whole (omega arith), word_at_less ts bytes (row_bytes * a + 8 * (a / 64)) 8)

      above : (i : ℕ) → (ltb (a % 64 + 1 + i) 64 ≡ true) ⊎ (ltb (a % 64 + 1 + i) 64 ≡ false) → digit (w / 2 ^ (a % 64) / 2 ^ 1) i ≡ true
          → in_set s (a + 1 + i) ≡ digit (get_or s (a / 64) 0 / 2 ^ (a % 64) / 2 ^ 1) i
      above i (inl q) d =
          let l = ltb-true (a % 64 + 1 + i) 64 q in
          let here : a + 1 + i ≡ 64 * (a / 64) + (a % 64 + 1 + i) = omega arith in
          ap (in_set s) here ∙ member_word s (a / 64) (a % 64 + 1 + i) l ∙ sym (digit_above (get_or s (a / 64) 0) a i)
      above i (inr q) d =
          let l = ltb-false (a % 64 + 1 + i) 64 q in
          never (digit (w / 2 ^ (a % 64) / 2 ^ 1) i) d (digit_above w a i ∙ digit_past w (a % 64 + 1 + i) less l)

-- ---- the rows of a level

pub level_row_own : (ts own reach : List ℕ) (a : ℕ) → in_set own a ≡ true → level_row ts own reach a ≡ row_among ts reach a
unfolding level_row
level_row_own ts own reach a e = rw e

pub level_row_other : (ts own reach : List ℕ) (a : ℕ) → in_set own a ≡ false → level_row ts own reach a ≡ row_among ts own a
unfolding level_row
level_row_other ts own reach a e = rw e

pub rows_next : (f : ℕ → List Link) (list : List ℕ) (i : ℕ) → i < length list → flat_map f (drop i list) ≡ f (get_or list i 0) ++ flat_map f (drop (i + 1) list)
unfolding flat_map
rows_next f list i l = rw (add-one i, drop-cons list i 0 l)

pub rows_end : (f : ℕ → List Link) (list : List ℕ) (i : ℕ) → length list ≤ i → flat_map f (drop i list) ≡ []
unfolding flat_map
rows_end f list i l = rw (drop_of_length-le list {i = i} l)
