-- The loops of a turn, as invariants over what is left of their lists.
-- In order: lengths, the places that fit at the start, radios released: one, of a list, of a word, of a row.
use Rattle.std.specs.Prelude.{◌≡◌, ◌⊎◌, ◌&&◌, ◌∷◌, ◌++◌, ◌+◌, ◌*◌, ◌-◌, ◌/◌, ◌%◌, ◌^◌, ◌≤◌, ◌<◌}
use Rattle.lists.{specs.Kit.{refl, sym, ap, ◌∙◌, inl, inr, Bool, true, false, cond, List, [], ℕ, suc}}
use Rattle.lists.{specs.Kit.{arith, add-one, bit_and, and_le_l, count_trailing_zeros, leb, eqb, length, get_or, set, drop, length-set, drop-cons}}
use Rattle.lists.{specs.Kit.{get_or-set_other, drop-length, eq-eqb, ne_eqb}, specs.Lists.{range, filter}, proofs.Tests.{bool_cases}, proofs.Member.{in_left}}
use Rattle.lists.{proofs.Distinct.{distinct_left}, proofs.Filter.{filter_filter}, proofs.Parts.{length_cond}}
use Rattle.mesh.{specs.Limits.{max_radios, row_bytes}, specs.Tables.{digit, marked}}
use Rattle.rows.{specs.Rows.{row_from, set_bits, row_word, word_of}, proofs.WordLaws.{set_bits_nothing, set_bits_lowest}, proofs.RowWords.{row_from_zero}}
use Rattle.rows.{proofs.RowWords.{row_from_end, row_from_word, words_from, marked_word, word_of_whole}, specs.Sets.{in_set}, proofs.SetLaws.{digit_and}}
use Rattle.plan.specs.Turns.{end_counted, counter_less, released, place_marked, places_released, places_fitting, near_left, Releasable}
use Rattle.rows.proofs.SetLaws.{length_put_in}
use Rattle.rows.specs.Sets.{put_in}

-- ---- lengths

pub length_counter_less : (ns : List ℕ) (k v : ℕ) (cs : List ℕ) → length (counter_less ns k v cs) ≡ length cs
unfolding counter_less
length_counter_less ns k v cs = length_cond (eqb (get_or ns v 0) k) (set cs v (get_or cs v 0 - 1)) cs (length-set cs v (get_or cs v 0 - 1))

pub length_place_marked : (ns ps : List ℕ) (k m v : ℕ) (cs fs : List ℕ) → length (place_marked ns ps k m v cs fs) ≡ length fs
unfolding place_marked
length_place_marked ns ps k m v cs fs =
    length_cond (eqb (get_or ns v 0) k && eqb (get_or cs v 0) m) (put_in (get_or ps v 0) fs) fs (length_put_in (get_or ps v 0) fs)

pub length_end_counted : (u : Bool) (k : ℕ) (ns : List ℕ) (v : ℕ) (cs : List ℕ) → length (end_counted u k ns v cs) ≡ length cs
unfolding end_counted
length_end_counted u k ns v cs =
    length_cond (eqb (get_or ns v 0) k) (set cs v (cond u (get_or cs v 0 + 1) (get_or cs v 0 - 1))) cs (length-set cs v (cond u (get_or cs v 0 + 1) (get_or cs v 0 - 1)))

-- ---- a test's two outcomes

pub cond_passed : (t : Bool) (xs ys : List ℕ) → t ≡ true → xs ≡ cond t xs ys
cond_passed t xs ys e = rw e

pub cond_failed : (t : Bool) (xs ys : List ℕ) → t ≡ false → ys ≡ cond t xs ys
cond_failed t xs ys e = rw e

-- ---- the places that fit at the start

pub length_places_fitting : (os cs : List ℕ) (m : ℕ) (ps fs : List ℕ) → length (places_fitting os cs m ps fs) ≡ length fs
unfolding places_fitting
length_places_fitting os cs m [] fs = refl
length_places_fitting os cs m (p ∷ ps) fs =
    let new = cond (leb (get_or cs (get_or os p 0) 0) m) (put_in p fs) fs in
    length_places_fitting os cs m ps new ∙ length_cond (leb (get_or cs (get_or os p 0) 0) m) (put_in p fs) fs (length_put_in p fs)

-- from p on to the stretch's end is left
pub record FittingFrom (order counters : List ℕ) (most start size : ℕ) (old : List ℕ) (p : ℕ) (fits : List ℕ) : Type 0 where
  pub long : length fits ≡ length old
  pub low : (start ≤ p) × (p ≤ start + size)
  pub is : places_fitting order counters most (range p (start + size - p)) fits ≡ places_fitting order counters most (range start size) old

module _ (os cs : List ℕ) (m start size : ℕ) (old : List ℕ) where
  pub fitting_none : FittingFrom os cs m start size old start old
  fitting_none = record {
    long = refl;
    low = (omega arith, omega arith);
    is = let e : start + size - start ≡ size = omega arith in ap (λ (x : ℕ). places_fitting os cs m (range start x) old) e;
  }

  pub fitting_turn : (p : ℕ) (fits new : List ℕ) → p < start + size → new ≡ cond (leb (get_or cs (get_or os p 0) 0) m) (put_in p fits) fits
      → FittingFrom os cs m start size old p fits → FittingFrom os cs m start size old (p + 1) new
  unfolding places_fitting range
  fitting_turn p fits new l e h = record {
    long = ap length e ∙ length_cond (leb (get_or cs (get_or os p 0) 0) m) (put_in p fits) fits (length_put_in p fits) ∙ h.long;
    low = (omega (arith, h.low.0), omega arith);
    is =
        let parts : start + size - p ≡ suc (start + size - (p + 1)) = omega arith in
        ap (places_fitting os cs m (range (p + 1) (start + size - (p + 1)))) e
        ∙ ap (λ (x : ℕ). places_fitting os cs m (range x (start + size - (p + 1))) (cond (leb (get_or cs (get_or os p 0) 0) m) (put_in p fits) fits)) (add-one p)
        ∙ sym (ap (λ (x : ℕ). places_fitting os cs m (range p x) fits) parts)
        ∙ h.is;
  }

  pub fitting_end : (p : ℕ) (fits : List ℕ) → start + size ≤ p → FittingFrom os cs m start size old p fits
      → fits ≡ places_fitting os cs m (range start size) old
  unfolding places_fitting range
  fitting_end p fits l h =
      let none : start + size - p ≡ 0 = omega arith in sym (ap (λ (x : ℕ). places_fitting os cs m (range p x) fits) none) ∙ h.is

-- ---- one radio released

module _ (ns ps : List ℕ) (k m v : ℕ) (cs fs : List ℕ) where
  abbrev less : List ℕ
  less = set cs v (get_or cs v 0 - 1)

  level_less : get_or ns v 0 ≡ k → counter_less ns k v cs ≡ less
  unfolding counter_less
  level_less e = rw (eq-eqb (get_or ns v 0) k e)

  pub release_fits : get_or ns v 0 ≡ k → get_or less v 0 ≡ m
      → (less ≡ counter_less ns k v cs) × (put_in (get_or ps v 0) fs ≡ place_marked ns ps k m v (counter_less ns k v cs) fs)
  unfolding place_marked
  release_fits e f = (sym (level_less e), rw (level_less e, eq-eqb (get_or ns v 0) k e, eq-eqb (get_or less v 0) m f))

  pub release_unfit : get_or ns v 0 ≡ k → (get_or less v 0 ≡ m → ⊥)
      → (less ≡ counter_less ns k v cs) × (fs ≡ place_marked ns ps k m v (counter_less ns k v cs) fs)
  unfolding place_marked
  release_unfit e f = (sym (level_less e), rw (level_less e, eq-eqb (get_or ns v 0) k e, ne_eqb (get_or less v 0) m f))

  pub release_other : (get_or ns v 0 ≡ k → ⊥) → (cs ≡ counter_less ns k v cs) × (fs ≡ place_marked ns ps k m v (counter_less ns k v cs) fs)
  unfolding counter_less place_marked
  release_other e = (rw (ne_eqb (get_or ns v 0) k e), rw (ne_eqb (get_or ns v 0) k e))

-- ---- radios released

pub releasable_tail : (ns ps : List ℕ) (k v : ℕ) (vs cs : List ℕ) → Releasable ns ps k (v ∷ vs) cs → Releasable ns ps k vs (counter_less ns k v cs)
unfolding counter_less
releasable_tail ns ps k v vs cs h = record {
  once = h.once.1;
  known = λ w m. let r = h.known w (inr m) in (r.0, r.1, omega (arith, r.2, length_counter_less ns k v cs), r.3);
  above_zero = λ w m e. omega (arith, h.above_zero w (inr m) e, same w (λ q. h.once.0 (rw q at m)) (bool_cases (eqb (get_or ns v 0) k)));
}
  where
    same : (w : ℕ) → (w ≡ v → ⊥) → (eqb (get_or ns v 0) k ≡ true) ⊎ (eqb (get_or ns v 0) k ≡ false)
        → get_or (cond (eqb (get_or ns v 0) k) (set cs v (get_or cs v 0 - 1)) cs) w 0 ≡ get_or cs w 0
    same w ne (inl e) = rw e (get_or-set_other cs v w (get_or cs v 0 - 1) 0 ne)
    same w ne (inr e) = rw e

pub length_released : (ns : List ℕ) (k : ℕ) (near cs : List ℕ) → length (released ns k near cs) ≡ length cs
unfolding released
length_released ns k [] cs = refl
length_released ns k (v ∷ vs) cs = length_released ns k vs (counter_less ns k v cs) ∙ length_counter_less ns k v cs

pub length_places_released : (ns ps : List ℕ) (k m : ℕ) (near cs fs : List ℕ) → length (places_released ns ps k m near cs fs) ≡ length fs
unfolding places_released
length_places_released ns ps k m [] cs fs = refl
length_places_released ns ps k m (v ∷ vs) cs fs =
    let less = counter_less ns k v cs in
    length_places_released ns ps k m vs less (place_marked ns ps k m v less fs) ∙ length_place_marked ns ps k m v less fs

-- what `release_one` asks of the first radio
pub releasable_head : (ns ps : List ℕ) (k v : ℕ) (vs cs : List ℕ) → Releasable ns ps k (v ∷ vs) cs
    → (v < length ns) × (v < length ps) × (v < max_radios) × (get_or ns v 0 ≡ k → 1 ≤ get_or cs v 0)
releasable_head ns ps k v vs cs h = let r = h.known v (inl refl) in (r.0, r.1, r.3, h.above_zero v (inl refl))

releasable_part : (ns ps : List ℕ) (k : ℕ) (xs rest cs : List ℕ) → Releasable ns ps k (xs ++ rest) cs → Releasable ns ps k xs cs
releasable_part ns ps k xs rest cs h = record {
  once = distinct_left xs rest h.once;
  known = λ w m. h.known w (in_left w xs rest m);
  above_zero = λ w m. h.above_zero w (in_left w xs rest m);
}

-- what is left of the radios gives what all of them give
pub record Releasing (numbers places : List ℕ) (k most : ℕ) (near old fits_old rest counters fits : List ℕ) : Type 0 where
  pub long : length counters ≡ length old
  pub long_fits : length fits ≡ length fits_old
  pub ready : Releasable numbers places k rest counters
  pub counted : released numbers k rest counters ≡ released numbers k near old
  pub marked : places_released numbers places k most rest counters fits ≡ places_released numbers places k most near old fits_old

module _ (ns ps : List ℕ) (k m : ℕ) (near old fold : List ℕ) where
  pub releasing_none : Releasable ns ps k near old → Releasing ns ps k m near old fold near old fold
  releasing_none h = record { long = refl; long_fits = refl; ready = h; counted = refl; marked = refl }

  pub releasing_one : (v : ℕ) (rest cs fs cs1 fs1 : List ℕ) → cs1 ≡ counter_less ns k v cs → fs1 ≡ place_marked ns ps k m v (counter_less ns k v cs) fs
      → Releasing ns ps k m near old fold (v ∷ rest) cs fs → Releasing ns ps k m near old fold rest cs1 fs1
  unfolding released places_released
  releasing_one v rest cs fs cs1 fs1 f g h = record {
    long = ap length f ∙ length_counter_less ns k v cs ∙ h.long;
    long_fits = ap length g ∙ length_place_marked ns ps k m v (counter_less ns k v cs) fs ∙ h.long_fits;
    ready = rw f (releasable_tail ns ps k v rest cs h.ready);
    counted = rw f h.counted;
    marked = rw (g, f) h.marked;
  }

  -- a part of what is left
  pub releasing_part : (xs rest cs fs cs1 fs1 : List ℕ) → cs1 ≡ released ns k xs cs → fs1 ≡ places_released ns ps k m xs cs fs
      → Releasing ns ps k m near old fold (xs ++ rest) cs fs → Releasing ns ps k m near old fold rest cs1 fs1
  unfolding released places_released
  releasing_part [] rest cs fs cs1 fs1 f g h = rw (f, g) h
  releasing_part (v ∷ xs) rest cs fs cs1 fs1 f g h =
      let less = counter_less ns k v cs in
      releasing_part xs rest less (place_marked ns ps k m v less fs) cs1 fs1 f g
      (releasing_one v (xs ++ rest) cs fs less (place_marked ns ps k m v less fs) refl refl h)

  pub releasing_end : (rest cs fs : List ℕ) → rest ≡ [] → Releasing ns ps k m near old fold rest cs fs
      → (cs ≡ released ns k near old) × (fs ≡ places_released ns ps k m near old fold)
  unfolding released places_released
  releasing_end rest cs fs e h = (rw e at h.counted, rw e at h.marked)

-- ---- listed radios: from place i of the list on is left

module _ (ns ps : List ℕ) (k m : ℕ) (near old fold : List ℕ) where
  abbrev pub ListReleasing : (i : ℕ) → (counters fits : List ℕ) → Type 0
  ListReleasing i cs fs = (i ≤ length near) × Releasing ns ps k m near old fold (drop i near) cs fs

  module _ (i v : ℕ) (cs fs : List ℕ) (l : i < length near) (e : v ≡ get_or near i 0) (h : ListReleasing i cs fs) where
    next : Releasing ns ps k m near old fold (v ∷ drop (i + 1) near) cs fs
    next = let cut : drop i near ≡ v ∷ drop (i + 1) near = drop-cons near i 0 l ∙ rw (e, add-one i) in rw cut at h.1

    pub list_next : (v < length ns) × (v < length ps) × (v < max_radios) × (get_or ns v 0 ≡ k → 1 ≤ get_or cs v 0)
    list_next = releasable_head ns ps k v (drop (i + 1) near) cs next.ready

    pub list_turn : (cs1 fs1 : List ℕ) → cs1 ≡ counter_less ns k v cs → fs1 ≡ place_marked ns ps k m v (counter_less ns k v cs) fs
        → ListReleasing (i + 1) cs1 fs1
    list_turn cs1 fs1 f g = (omega arith, releasing_one ns ps k m near old fold v (drop (i + 1) near) cs fs cs1 fs1 f g next)

  pub list_end : (i : ℕ) (cs fs : List ℕ) → length near ≤ i → ListReleasing i cs fs
      → (cs ≡ released ns k near old) × (fs ≡ places_released ns ps k m near old fold)
  list_end i cs fs l h =
      let all : i ≡ length near = omega (arith, h.0) in
      releasing_end ns ps k m near old fold (drop i near) cs fs (ap (λ (x : ℕ). drop x near) all ∙ drop-length near) h.1

-- ---- the set bits of a word: each turn takes the lowest off

module _ (ns ps : List ℕ) (k m first word : ℕ) (old fold : List ℕ) where
  abbrev pub WordReleasing : (rest : ℕ) → (counters fits : List ℕ) → Type 0
  WordReleasing rest cs fs = (rest < 2 ^ 64) × Releasing ns ps k m (set_bits 64 first word) old fold (set_bits 64 first rest) cs fs

  module _ (rest : ℕ) (cs fs : List ℕ) (some : rest ≡ 0 → ⊥) (h : WordReleasing rest cs fs) where
    abbrev lowest : ℕ
    lowest = first + count_trailing_zeros 64 rest

    abbrev others : ℕ
    others = bit_and rest (rest - 1)

    bits_next : Releasing ns ps k m (set_bits 64 first word) old fold (lowest ∷ set_bits 64 first others) cs fs
    bits_next = rw (set_bits_lowest 64 first rest (omega arith) h.0) at h.1

    pub word_next : (lowest < length ns) × (lowest < length ps) × (lowest < max_radios) × (get_or ns lowest 0 ≡ k → 1 ≤ get_or cs lowest 0)
    word_next = releasable_head ns ps k lowest (set_bits 64 first others) cs bits_next.ready

    pub word_turn : (cs1 fs1 : List ℕ) → cs1 ≡ counter_less ns k lowest cs → fs1 ≡ place_marked ns ps k m lowest (counter_less ns k lowest cs) fs
        → WordReleasing others cs1 fs1
    word_turn cs1 fs1 f g = (
      omega (arith, and_le_l rest (rest - 1), h.0),
      releasing_one ns ps k m (set_bits 64 first word) old fold lowest (set_bits 64 first others) cs fs cs1 fs1 f g bits_next,
    )

  pub word_end : (rest : ℕ) (cs fs : List ℕ) → rest ≡ 0 → WordReleasing rest cs fs
      → (cs ≡ released ns k (set_bits 64 first word) old) × (fs ≡ places_released ns ps k m (set_bits 64 first word) old fold)
  word_end rest cs fs e h =
      releasing_end ns ps k m (set_bits 64 first word) old fold (set_bits 64 first rest) cs fs (ap (set_bits 64 first) e ∙ set_bits_nothing 64 first) h.1

-- ---- the words of a row, or of what is left of it: `from j` are its radios from word j on

module _ (ns ps : List ℕ) (k m : ℕ) (from : ℕ → List ℕ) (old fold : List ℕ) where
  abbrev pub WordsReleasing : (j : ℕ) → (counters fits : List ℕ) → Type 0
  WordsReleasing j cs fs = (j ≤ 8) × Releasing ns ps k m (from 0) old fold (from j) cs fs

  pub words_none : Releasable ns ps k (from 0) old → WordsReleasing 0 old fold
  words_none h = (omega arith, releasing_none ns ps k m (from 0) old fold h)

  module _ (j w : ℕ) (cs fs : List ℕ) (l : j < 8) (split : from j ≡ set_bits 64 (64 * j) w ++ from (j + 1)) (h : WordsReleasing j cs fs) where
    abbrev bits : List ℕ
    bits = set_bits 64 (64 * j) w

    words_next : Releasing ns ps k m (from 0) old fold (bits ++ from (j + 1)) cs fs
    words_next = rw split at h.1

    pub words_ready : Releasable ns ps k bits cs
    words_ready = releasable_part ns ps k bits (from (j + 1)) cs words_next.ready

    pub words_turn : (cs1 fs1 : List ℕ) → cs1 ≡ released ns k bits cs → fs1 ≡ places_released ns ps k m bits cs fs → WordsReleasing (j + 1) cs1 fs1
    words_turn cs1 fs1 f g = (omega arith, releasing_part ns ps k m (from 0) old fold bits (from (j + 1)) cs fs cs1 fs1 f g words_next)

  pub words_end : (j : ℕ) (cs fs : List ℕ) → from j ≡ [] → WordsReleasing j cs fs
      → (cs ≡ released ns k (from 0) old) × (fs ≡ places_released ns ps k m (from 0) old fold)
  words_end j cs fs e h = releasing_end ns ps k m (from 0) old fold (from j) cs fs e h.1

-- the radios of a row lent by itself, from word j on, that a set has
abbrev pub left_from : (row set : List ℕ) → (j : ℕ) → List ℕ
left_from row ws j = filter (in_set ws) (row_from row 0 j)

pub left_from_zero : (row ws : List ℕ) → left_from row ws 0 ≡ near_left row 0 ws
unfolding near_left
left_from_zero row ws = ap (filter (in_set ws)) (row_from_zero row 0)

pub left_from_end : (row ws : List ℕ) (j : ℕ) → 8 ≤ j → left_from row ws j ≡ []
unfolding filter
left_from_end row ws j l = ap (filter (in_set ws)) (row_from_end row 0 j l)

-- one word more of a row that is lent by itself, and of what a set has of it
module _ (row : List ℕ) (long : length row ≡ row_bytes) (bytes : (i : ℕ) → get_or row i 0 < 256) (j w : ℕ) (l : j < 8) (e : w ≡ word_of row j) where
  word_is : row_word 8 row (row_bytes * 0 + 8 * j) ≡ w
  word_is =
      let here : row_bytes * 0 + 8 * j ≡ 8 * j = omega arith in
      ap (row_word 8 row) here ∙ sym (word_of_whole row j (omega arith)) ∙ sym e

  pub row_split : row_from row 0 j ≡ set_bits 64 (64 * j) w ++ row_from row 0 (j + 1)
  row_split = row_from_word row bytes 0 j l ∙ ap (λ (x : ℕ). set_bits 64 (64 * j) x ++ row_from row 0 (j + 1)) word_is

  pub left_split : (set : List ℕ)
      → left_from row set j ≡ set_bits 64 (64 * j) (bit_and w (get_or set j 0)) ++ left_from row set (j + 1)
  unfolding row_from in_set
  left_split set =
      filter_filter (in_set set) (λ x. marked row 0 x) (range (64 * j) (max_radios - 64 * j))
      ∙ words_from (λ x. marked row 0 x && in_set set x) j (bit_and w (get_or set j 0)) l tells
      ∙ ap (◌++◌ (set_bits 64 (64 * j) (bit_and w (get_or set j 0))))
      (sym (filter_filter (in_set set) (λ x. marked row 0 x) (range (64 * (j + 1)) (max_radios - 64 * (j + 1)))))
    where
      tells : (b : ℕ) → b < 64 → (marked row 0 (64 * j + b) && digit (get_or set ((64 * j + b) / 64) 0) ((64 * j + b) % 64)) ≡ digit (bit_and w (get_or set j 0)) b
      tells b h =
          let q : (64 * j + b) / 64 ≡ j = omega arith in
          let r : (64 * j + b) % 64 ≡ b = omega arith in
          rw (marked_word row bytes 0 j b h, word_is, q, r) (sym (digit_and w (get_or set j 0) b))
