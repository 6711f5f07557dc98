-- Questions 14 and 7, row by row.
--   ProperBelow     the rows before row a mark neither their own radio nor one at n or above
--   FewBelow        the radios before radio a have few enough agreed links
use Rattle.std.specs.Prelude.{◌≡◌, ◌⊎◌, ◌&&◌, ◌∷◌, ◌+◌, ◌*◌, ◌-◌, ◌/◌, ◌%◌, ◌^◌, ◌≤◌, ◌<◌}
use Rattle.lists.{specs.Kit.{refl, sym, ap, ◌∙◌, subst, inl, inr, Bool, true, false, not, List, [], ℕ}}
use Rattle.lists.{specs.Kit.{arith, bit_and, count_trailing_zeros, leb, eqb, length, get_or, leb-true, leb-false, le-leb, not-true}}
use Rattle.lists.{specs.Lists.{range, count, filter, all, In}, proofs.Tests.{bool_cases, never, and_left, and_right, and_both}, proofs.Count.{count_mono}}
use Rattle.lists.{proofs.Count.{count_le_length}, proofs.Range.{count_front, count_below, length_range, range_append}, proofs.Filter.{in_filter, filter_in}}
use Rattle.lists.{proofs.All.{all_in, in_all, all_below, below_all, all_append}}
use lib.Pow.{shr-shr, shr_lt}
use Rattle.mesh.{specs.Limits.{max_radios, max_neighbours, row_bytes}, specs.Tables.{digit, marked}, specs.Sound.{irreflexive, within, row_degree}}
use Rattle.mesh.{proofs.Tables.Rows.{irreflexive_of, of_irreflexive}}
use Rattle.rows.{specs.Rows.{neighbours_of, row_listed, row_count, set_bits, row_word}, proofs.MaskLaws.{marked_past}, proofs.WordLaws.{set_bits_filter}}
use Rattle.rows.{proofs.WordLaws.{set_bits_nothing, set_bits_lowest, word_at_less}, proofs.RowWords.{marked_word, row_listed_short}}
use Rattle.rows.{proofs.RowListLaws.{count_neighbours_of, length_row_listed_radio}}
use Rattle.calls.specs.{Questions.{ask}, Heard.{agreed, agreed_degree, heard_proper, agreed_few}}
use Rattle.conditions.specs.Hearing.{OfSize, hears, none_from, rows_refusal}

-- ---- no radio at n or above

module _ (hs : List ℕ) (a b : ℕ) where
  none_end : max_radios ≤ b → none_from b hs a ≡ true
  unfolding none_from range all
  none_end l = let e : max_radios - b ≡ 0 = omega arith in rw e

  pub within_end : (n : ℕ) → none_from n hs a ≡ none_from b hs a → max_radios ≤ b → true ≡ none_from n hs a
  within_end n h l = sym (h ∙ none_end l)

-- ---- no radio at n or above, word by word

-- of radios of which none passes a test, and of which one does
all_not : (f : ℕ → Bool) (xs : List ℕ) → filter f xs ≡ [] → all (λ b. not (f b)) xs ≡ true
all_not f xs e = in_all (λ b. not (f b)) xs (λ v m. go v m (bool_cases (f v)))
  where
    go : (v : ℕ) → In v xs → (f v ≡ true) ⊎ (f v ≡ false) → not (f v) ≡ true
    go v m (inl t) = absurd (subst (In v) e (filter_in f xs v m t))
    go v m (inr t) = rw t

not_all : (f : ℕ → Bool) (xs : List ℕ) (v : ℕ) → In v (filter f xs) → all (λ b. not (f b)) xs ≡ false
not_all f xs v m = go (bool_cases (all (λ b. not (f b)) xs))
  where
    go : (all (λ b. not (f b)) xs ≡ true) ⊎ (all (λ b. not (f b)) xs ≡ false) → all (λ b. not (f b)) xs ≡ false
    go (inl t) = let i = in_filter f xs v m in never (f v) i.1 (not-true (f v) (all_in (λ b. not (f b)) xs t v i.0))
    go (inr t) = t

module _ (hs : List ℕ) (bytes : (j : ℕ) → get_or hs j 0 < 256) (a b w : ℕ) (l : b < max_radios) (e : w ≡ row_word 8 hs (row_bytes * a + 8 * (b / 64))) where
  -- the radios of the word from b on, as many as are left of it, and its bits, these alone
  abbrev left : ℕ
  left = 64 - b % 64

  abbrev bits : ℕ
  bits = w / 2 ^ (b % 64)

  bits_left : bits < 2 ^ left
  bits_left =
      let all_bits : 64 ≡ left + b % 64 = omega arith in
      let low : w < 2 ^ (left + b % 64) = rw (← all_bits) (omega (arith, e, word_at_less hs bytes (row_bytes * a + 8 * (b / 64)) 8)) in
      shr_lt left (b % 64) low

  bits_marked : set_bits left b bits ≡ filter (λ x. marked hs a x) (range b left)
  unfolding digit
  bits_marked =
      set_bits_filter left b bits (λ x. marked hs a x) (λ j m.
      let here : b + j ≡ 64 * (b / 64) + (b % 64 + j) = omega arith in
      ap (marked hs a) here ∙ marked_word hs bytes a (b / 64) (b % 64 + j) (omega (arith, m)) ∙ ap (λ (y : ℕ). digit y (b % 64 + j)) (sym e)
      ∙ sym (ap (λ (y : ℕ). eqb (y % 2) 1) (shr-shr w (b % 64) j)))

  none_word : none_from b hs a ≡ (all (λ x. not (marked hs a x)) (range b left) && none_from (b + left) hs a)
  unfolding none_from
  none_word =
      let parts : max_radios - b ≡ left + (max_radios - (b + left)) = omega (arith, l) in
      rw (parts, range_append b left (max_radios - (b + left))) (all_append (λ x. not (marked hs a x)) (range b left) _)

  pub word_turn : (n : ℕ) → none_from n hs a ≡ none_from b hs a → bits ≡ 0 → none_from n hs a ≡ none_from (b + left) hs a
  word_turn n h z =
      let none : filter (λ x. marked hs a x) (range b left) ≡ [] =
      sym bits_marked ∙ ap (set_bits left b) z ∙ set_bits_nothing left b in
      h ∙ none_word ∙ rw (all_not (λ x. marked hs a x) (range b left) none)

  pub word_no : (n : ℕ) → none_from n hs a ≡ none_from b hs a → (bits ≡ 0 → ⊥) → false ≡ none_from n hs a
  word_no n h some =
      let first : filter (λ x. marked hs a x) (range b left) ≡ (b + count_trailing_zeros left bits) ∷ set_bits left b (bit_and bits (bits - 1)) =
      sym bits_marked ∙ set_bits_lowest left b bits (omega (arith, some)) bits_left in
      sym (h ∙ none_word ∙ rw (not_all (λ x. marked hs a x) (range b left) (b + count_trailing_zeros left bits) (subst (In (b + count_trailing_zeros left bits)) (sym first)
      (inl refl))))

-- what holds of every radio below a, and of a, holds below the next
below_next : (P : ℕ → Type 0) (a : ℕ) → ((x : ℕ) → x < a → P x) → P a → (x : ℕ) → x < a + 1 → P x
below_next P a h e x l = go (bool_cases (leb a x))
  where
    go : (leb a x ≡ true) ⊎ (leb a x ≡ false) → P x
    go (inl t) = let s : a ≡ x = omega (arith, leb-true a x t) in subst P s e
    go (inr t) = h x (omega (arith, leb-false a x t))

-- ---- question 14

abbrev pub ProperBelow : (n : ℕ) → (heard : List ℕ) → (a : ℕ) → Type 0
ProperBelow n hs a = (x : ℕ) → x < a → (marked hs x x ≡ false) × (none_from n hs x ≡ true)

module _ (n : ℕ) (hs : List ℕ) where
  none_within : within n hs ≡ all (none_from n hs) (range 0 n)
  unfolding within none_from
  none_within = refl

  pub proper_turn : (a : ℕ) → ProperBelow n hs a → marked hs a a ≡ false → none_from n hs a ≡ true → ProperBelow n hs (a + 1)
  proper_turn a h e f = below_next (λ x. (marked hs x x ≡ false) × (none_from n hs x ≡ true)) a h (e, f)

  pub proper_end : (a : ℕ) → ProperBelow n hs a → n ≤ a → true ≡ heard_proper n hs
  unfolding heard_proper
  proper_end a h l =
      sym (and_both (irreflexive n hs) (within n hs) (of_irreflexive n hs (λ x m. (h x (omega (arith, m, l))).0))
      (none_within ∙ below_all (none_from n hs) n (λ x m. (h x (omega (arith, m, l))).1)))

  by_proper : (heard_proper n hs ≡ true → ⊥) → false ≡ heard_proper n hs
  by_proper h = go (bool_cases (heard_proper n hs))
    where
      go : (heard_proper n hs ≡ true) ⊎ (heard_proper n hs ≡ false) → false ≡ heard_proper n hs
      go (inl t) = absurd (h t)
      go (inr t) = sym t

  pub proper_own : (a : ℕ) → a < n → marked hs a a ≡ true → false ≡ heard_proper n hs
  unfolding heard_proper
  proper_own a l e = by_proper (λ p. never (marked hs a a) e (irreflexive_of n hs (and_left (irreflexive n hs) (within n hs) p) a l))

  pub proper_past : (a : ℕ) → a < n → none_from n hs a ≡ false → false ≡ heard_proper n hs
  unfolding heard_proper
  proper_past a l e =
      by_proper (λ p. never (none_from n hs a) (all_below (none_from n hs) n (sym none_within ∙ and_right (irreflexive n hs) (within n hs) p) a l) e)

-- ---- question 7

module _ (n : ℕ) (hs : List ℕ) (s : OfSize n hs) where
  -- a radio at n or above has no row
  pub agreed_past : (a b : ℕ) → n ≤ b → a < max_radios → agreed hs a b ≡ false
  unfolding agreed
  agreed_past a b l m = rw (marked_past hs b a (omega (arith, s.long))) (nothing (marked hs a b))
    where
      nothing : (x : Bool) → (x && false) ≡ false
      nothing true = refl
      nothing false = refl

  -- a radio has at most as many agreed links as it hears radios
  degree_most : (a : ℕ) → a < n → agreed_degree n hs a ≤ length (row_listed hs a)
  unfolding agreed_degree row_degree agreed
  degree_most a l =
      omega (
        arith,
        count_mono (agreed hs a) (λ b. marked hs a b) (range 0 n) (λ b i h. and_left (marked hs a b) (marked hs b a) h),
        count_front (λ b. marked hs a b) n max_radios s.most,
        length_row_listed_radio n hs s.long a l,
      )

  pub few_heard : (a r : ℕ) → r ≡ row_count max_neighbours hs a → r ≤ max_neighbours → a < n → true ≡ leb (agreed_degree n hs a) max_neighbours
  unfolding row_count
  few_heard a r e f l = sym (le-leb (agreed_degree n hs a) max_neighbours (omega (arith, e, f, degree_most a l)))

  -- agreed links are counted along the radios that a hears
  pub few_counted : (a r : ℕ) → r ≡ count (hears hs a) (neighbours_of hs a) → a < n → leb r max_neighbours ≡ leb (agreed_degree n hs a) max_neighbours
  unfolding agreed_degree agreed hears
  few_counted a r e l =
      ap (λ (k : ℕ). leb k max_neighbours)
      (e ∙ count_neighbours_of (hears hs a) hs a
      ∙ count_below (agreed hs a) n max_radios s.most (λ b nb lb. agreed_past a b nb (omega (arith, l, s.most))))

-- a row of which radios are counted is whole
pub counted_whole : (hs : List ℕ) (a r : ℕ) → r ≡ row_count max_neighbours hs a → max_neighbours < r → row_bytes * a + row_bytes ≤ length hs
unfolding row_count
counted_whole hs a r e many = go (bool_cases (leb (row_bytes * a + row_bytes) (length hs)))
  where
    go : (leb (row_bytes * a + row_bytes) (length hs) ≡ true) ⊎ (leb (row_bytes * a + row_bytes) (length hs) ≡ false)
        → row_bytes * a + row_bytes ≤ length hs
    go (inl t) = leb-true (row_bytes * a + row_bytes) (length hs) t
    go (inr t) = absurd (omega (arith, e, many, ap length (row_listed_short hs a (leb-false (row_bytes * a + row_bytes) (length hs) t))))

abbrev pub FewBelow : (n : ℕ) → (heard : List ℕ) → (a : ℕ) → Type 0
FewBelow n hs a = (x : ℕ) → x < a → leb (agreed_degree n hs x) max_neighbours ≡ true

module _ (n : ℕ) (hs : List ℕ) where
  pub few_turn : (a : ℕ) → FewBelow n hs a → leb (agreed_degree n hs a) max_neighbours ≡ true → FewBelow n hs (a + 1)
  few_turn a h e = below_next (λ x. leb (agreed_degree n hs x) max_neighbours ≡ true) a h e

  pub few_end : (a : ℕ) → FewBelow n hs a → n ≤ a → true ≡ agreed_few max_neighbours n hs
  unfolding agreed_few
  few_end a h l = sym (below_all (λ x. leb (agreed_degree n hs x) max_neighbours) n (λ x m. h x (omega (arith, m, l))))

  -- agreed links are with some of the n radios
  pub few_small : n ≤ max_neighbours → true ≡ agreed_few max_neighbours n hs
  unfolding agreed_few agreed_degree
  few_small l =
      sym (below_all (λ x. leb (agreed_degree n hs x) max_neighbours) n (λ x m.
      le-leb (agreed_degree n hs x) max_neighbours (omega (arith, l, count_le_length (agreed hs x) (range 0 n), length_range 0 n))))

  pub few_no : (a : ℕ) → a < n → leb (agreed_degree n hs a) max_neighbours ≡ false → false ≡ agreed_few max_neighbours n hs
  unfolding agreed_few
  few_no a l many = go (bool_cases (agreed_few max_neighbours n hs))
    where
      go : (agreed_few max_neighbours n hs ≡ true) ⊎ (agreed_few max_neighbours n hs ≡ false) → false ≡ agreed_few max_neighbours n hs
      go (inl t) = never (leb (agreed_degree n hs a) max_neighbours) (all_below (λ x. leb (agreed_degree n hs x) max_neighbours) n t a l) many
      go (inr t) = sym t

-- ---- both questions

module _ (n : ℕ) (hs : List ℕ) where
  pub refusal_fourteen : heard_proper n hs ≡ false → 14 ≡ rows_refusal n hs
  unfolding rows_refusal ask
  refusal_fourteen e = rw e

  module _ (is_proper : heard_proper n hs ≡ true) where
    pub refusal_seven : agreed_few max_neighbours n hs ≡ false → 7 ≡ rows_refusal n hs
    unfolding rows_refusal ask
    refusal_seven e = rw (is_proper, e)

    pub refusal_none : agreed_few max_neighbours n hs ≡ true → 0 ≡ rows_refusal n hs
    unfolding rows_refusal ask
    refusal_none e = rw (is_proper, e)
