-- The entries at the places of a set, listed the lowest first.
--   EntriesListing   what is listed so far and what is left give what the whole gives
-- In order: places listed, the set bits of a word, the words of a set; places that tell marked entries.
use Rattle.std.specs.Prelude.{◌≡◌, ◌⊎◌, ◌∷◌, ◌++◌, ◌+◌, ◌*◌, ◌-◌, ◌/◌, ◌%◌, ◌^◌, ◌≤◌, ◌<◌}
use Rattle.lists.{specs.Kit.{refl, sym, ap, ◌∙◌, inl, inr, Bool, true, false, cond, List, [], append-nil, ℕ, zero, suc}}
use Rattle.lists.{specs.Kit.{arith, add-one, add-zero, bit_and, and_le_l, count_trailing_zeros, length, get_or, set, take, drop, replicate}}
use Rattle.lists.{specs.Kit.{length-append, length-replicate, eqb, sets, drop-cons, eqb-true, eqb-false}, specs.Lists.{filter, range}}
use Rattle.lists.{proofs.Filter.{filter_append, filter_none, in_filter}, proofs.Map.{map_append, length-map}, proofs.Member.{in_left, in_right}}
use Rattle.lists.{proofs.Overwrite.{sets_append}, proofs.Range.{range_in, range_append}, proofs.Tests.{bool_cases, never}}
use Rattle.mesh.specs.{Limits.{max_radios}, Tables.{digit}}
use Rattle.rows.{specs.Rows.{set_bits}, proofs.RowWords.{words_from, words_end}, proofs.WordLaws.{set_bits_lowest, length_set_bits_le}, specs.Sets.{in_set}}
use Rattle.rows.{specs.Sets.{put_in, take_out}, proofs.SetLaws.{in_set_zeros, in_put_in, in_take_out, length_put_in, length_take_out}}
use Rattle.plan.specs.Places.{set_places, entries_at, Stands, MarkedPlaces}

-- ---- places listed

pub record EntriesListing (first : ℕ) (tail : List ℕ) (at : ℕ) (old whole rest : List ℕ) (n : ℕ) (list : List ℕ) : Type 0 where
  pub stands : Stands first (length tail) rest
  pub counted : n + length rest ≡ at + length whole
  pub listed : sets list n (entries_at first tail rest) ≡ sets old at (entries_at first tail whole)

module _ (first : ℕ) (tail : List ℕ) (at : ℕ) (old whole : List ℕ) where
  pub entries_none : Stands first (length tail) whole → EntriesListing first tail at old whole whole at old
  entries_none h = record { stands = h; counted = refl; listed = refl }

  pub entries_one : (p : ℕ) (rest : List ℕ) (n : ℕ) (list : List ℕ) → EntriesListing first tail at old whole (p ∷ rest) n list
      → EntriesListing first tail at old whole rest (n + 1) (set list n (get_or tail (p - first) 0))
  entries_one p rest n list h = record {
    stands = λ q m. h.stands q (inr m);
    counted = omega (arith, h.counted);
    listed = rw (add-one n) h.listed;
  }

  pub entries_part : (xs rest : List ℕ) (n : ℕ) (list new : List ℕ) → EntriesListing first tail at old whole (xs ++ rest) n list
      → new ≡ sets list n (entries_at first tail xs) → EntriesListing first tail at old whole rest (n + length xs) new
  entries_part xs rest n list new h e = record {
    stands = λ q m. h.stands q (in_right q xs rest m);
    counted = omega (arith, h.counted, length-append xs rest);
    listed = rw e
        (sym (ap (λ (m : ℕ). sets (sets list n (entries_at first tail xs)) (n + m) (entries_at first tail rest)) (length-map (λ p. get_or tail (p - first) 0) xs))
        ∙ sym (sets_append list n (entries_at first tail xs) (entries_at first tail rest))
        ∙ ap (sets list n) (sym (map_append (λ p. get_or tail (p - first) 0) xs rest)) ∙ h.listed);
  }

  pub entries_end : (rest : List ℕ) (n : ℕ) (list : List ℕ) → rest ≡ [] → EntriesListing first tail at old whole rest n list
      → (n ≡ at + length whole) × (list ≡ sets old at (entries_at first tail whole))
  entries_end rest n list e h = (omega (arith, h.counted, ap length e), rw e at h.listed)

-- ---- the set bits of a word, the lowest first

abbrev pub WordEntries : (k first : ℕ) → (tail : List ℕ) → (at : ℕ) → (old : List ℕ) → (word rest n : ℕ) → (list : List ℕ) → Type 0
WordEntries k first tail at old word rest n list =
    (rest < 2 ^ 64) × EntriesListing first tail at old (set_bits 64 (64 * k) word) (set_bits 64 (64 * k) rest) n list

module _ (k first : ℕ) (tail : List ℕ) (at : ℕ) (old : List ℕ) (word rest n : ℕ) (list : List ℕ) (h : WordEntries k first tail at old word rest n list) where
  pub word_few : n + length (set_bits 64 (64 * k) rest) ≤ at + 64
  word_few = omega (arith, h.1.counted, length_set_bits_le 64 (64 * k) word)

  module _ (some : rest ≡ 0 → ⊥) where
    step : set_bits 64 (64 * k) rest ≡ (64 * k + count_trailing_zeros 64 rest) ∷ set_bits 64 (64 * k) (bit_and rest (rest - 1))
    step = set_bits_lowest 64 (64 * k) rest (omega (arith, some)) h.0

    pub word_place : (first ≤ 64 * k + count_trailing_zeros 64 rest) × (64 * k + count_trailing_zeros 64 rest - first < length tail)
    word_place = h.1.stands (64 * k + count_trailing_zeros 64 rest) (rw step (inl refl))

    pub word_room : n < at + 64
    word_room = omega (arith, word_few, ap length step)

    pub word_turn : WordEntries k first tail at old word (bit_and rest (rest - 1)) (n + 1) (set list n (get_or tail (64 * k + count_trailing_zeros 64 rest - first) 0))
    word_turn = (
      omega (arith, and_le_l rest (rest - 1), h.0),
      entries_one first tail at old (set_bits 64 (64 * k) word) (64 * k + count_trailing_zeros 64 rest) (set_bits 64 (64 * k) (bit_and rest (rest - 1))) n list
          (rw step at h.1),
    )

-- ---- the words of a set

-- the places of a set from word k on
abbrev pub places_from : (words : List ℕ) → (k : ℕ) → List ℕ
places_from ws k = filter (in_set ws) (range (64 * k) (max_radios - 64 * k))

pub record SetEntries (words : List ℕ) (first : ℕ) (tail : List ℕ) (taken : ℕ) (old : List ℕ) (at k : ℕ) (list : List ℕ) : Type 0 where
  pub low : k ≤ 8
  pub few : at ≤ taken + 64 * k
  pub listing : EntriesListing first tail taken old (set_places words) (places_from words k) at list

module _ (ws : List ℕ) (first : ℕ) (tail : List ℕ) (taken : ℕ) (old : List ℕ) where
  module _ (at k : ℕ) (list : List ℕ) (l : k < 8) (h : SetEntries ws first tail taken old at k list) where
    word_digit : (m : ℕ) → m < 64 → in_set ws (64 * k + m) ≡ digit (get_or ws k 0) m
    unfolding in_set
    word_digit m e =
        let q : (64 * k + m) / 64 ≡ k = omega arith in
        let r : (64 * k + m) % 64 ≡ m = omega arith in rw (q, r)

    cut : places_from ws k ≡ set_bits 64 (64 * k) (get_or ws k 0) ++ places_from ws (k + 1)
    cut = words_from (in_set ws) k (get_or ws k 0) l word_digit

    pub set_entries_stand : Stands first (length tail) (set_bits 64 (64 * k) (get_or ws k 0))
    set_entries_stand p m = h.listing.stands p (rw cut (in_left p (set_bits 64 (64 * k) (get_or ws k 0)) (places_from ws (k + 1)) m))

    pub set_entries_turn : (next : ℕ) (new : List ℕ) → next ≡ at + length (set_bits 64 (64 * k) (get_or ws k 0))
        → new ≡ sets list at (entries_at first tail (set_bits 64 (64 * k) (get_or ws k 0))) → SetEntries ws first tail taken old next (k + 1) new
    set_entries_turn next new e made = record {
      low = omega arith;
      few = omega (arith, h.few, length_set_bits_le 64 (64 * k) (get_or ws k 0));
      listing = rw e (entries_part first tail taken old (set_places ws) (set_bits 64 (64 * k) (get_or ws k 0)) (places_from ws (k + 1)) at list new
          (rw cut at h.listing) made);
    }

  pub set_entries_end : (at k : ℕ) (list : List ℕ) → 8 ≤ k → SetEntries ws first tail taken old at k list
      → list ≡ sets old taken (entries_at first tail (set_places ws))
  set_entries_end at k list l h = (entries_end first tail taken old (set_places ws) (places_from ws k) at list (words_end (in_set ws) k l) h.listing).1

-- ---- places that tell marked entries

module _ (first size : ℕ) (tail : List ℕ) where
  pub marked_none : (mark : ℕ → Bool) → ((v : ℕ) → mark v ≡ false) → MarkedPlaces first size tail mark (replicate 8 0)
  marked_none mark none = record {
    long = length-replicate {A = ℕ} 8 0;
    inside = λ p e. absurd (never (in_set (replicate 8 0) p) e (in_set_zeros 8 p));
    is = λ q l. in_set_zeros 8 (first + q) ∙ sym (none (get_or tail q 0));
  }

  module _ {mark : ℕ → Bool} {ws : List ℕ} (h : MarkedPlaces first size tail mark ws) where
    pub marked_stand : size ≤ length tail → Stands first (length tail) (set_places ws)
    marked_stand fits p m =
        let i = h.inside p (in_filter (in_set ws) (range 0 max_radios) p m).1 in (i.0, omega (arith, i.0, i.1))

    -- the entries listed are the marked ones
    module _ (fits : size ≤ length tail) (small : first + size ≤ max_radios) where
      outside : (i k : ℕ) → (i + k ≤ first) ⊎ (first + size ≤ i) → filter (in_set ws) (range i k) ≡ []
      outside i k way = filter_none (in_set ws) (range i k) (λ p m. go p (range_in i k p m) way (bool_cases (in_set ws p)))
        where
          go : (p : ℕ) → (i ≤ p) × (p < i + k) → (i + k ≤ first) ⊎ (first + size ≤ i) → (in_set ws p ≡ true) ⊎ (in_set ws p ≡ false) → in_set ws p ≡ false
          go p b (inl w) (inl e) = absurd (omega (arith, (h.inside p e).0, b.1))
          go p b (inr w) (inl e) = absurd (omega (arith, (h.inside p e).1, b.0))
          go p b w (inr e) = e

      within : set_places ws ≡ filter (in_set ws) (range first size)
      within =
          let whole : max_radios ≡ first + (size + (max_radios - (first + size))) = omega arith in
          ap (λ (n : ℕ). filter (in_set ws) (range 0 n)) whole
          ∙ ap (filter (in_set ws)) (range_append 0 first (size + (max_radios - (first + size))))
          ∙ filter_append (in_set ws) (range 0 first) (range (0 + first) (size + (max_radios - (first + size))))
          ∙ ap (λ (z : List ℕ). z ++ filter (in_set ws) (range (0 + first) (size + (max_radios - (first + size))))) (outside 0 first (inl (omega arith)))
          ∙ ap (λ (i : ℕ). filter (in_set ws) (range i (size + (max_radios - (first + size))))) (zero-add first)
          ∙ ap (filter (in_set ws)) (range_append first size (max_radios - (first + size)))
          ∙ filter_append (in_set ws) (range first size) (range (first + size) (max_radios - (first + size)))
          ∙ ap (λ (z : List ℕ). filter (in_set ws) (range first size) ++ z) (outside (first + size) (max_radios - (first + size)) (inr (omega arith)))
          ∙ append-nil (filter (in_set ws) (range first size))
        where
          zero-add : (i : ℕ) → 0 + i ≡ i
          zero-add i = omega arith

      from : (i k : ℕ) → i + k ≤ size → entries_at first tail (filter (in_set ws) (range (first + i) k)) ≡ filter mark (take k (drop i tail))
      unfolding filter range
      from i zero l = refl
      from i (suc k) l = go (bool_cases (mark (get_or tail i 0))) (from (suc i) k (omega arith))
        where
          next : range (suc (first + i)) k ≡ range (first + suc i) k
          next = ap (λ (j : ℕ). range j k) (add_suc_of first i)
            where
              add_suc_of : (a b : ℕ) → suc (a + b) ≡ a + suc b
              add_suc_of a b = omega arith

          here : take (suc k) (drop i tail) ≡ get_or tail i 0 ∷ take k (drop (suc i) tail)
          here = ap (take (suc k)) (drop-cons tail i 0 (omega arith))

          at : get_or tail (first + i - first) 0 ≡ get_or tail i 0
          at = ap (λ (j : ℕ). get_or tail j 0) (cancel first i)
            where
              cancel : (a b : ℕ) → a + b - a ≡ b
              cancel a b = omega arith

          go : (mark (get_or tail i 0) ≡ true) ⊎ (mark (get_or tail i 0) ≡ false)
              → entries_at first tail (filter (in_set ws) (range (first + suc i) k)) ≡ filter mark (take k (drop (suc i) tail))
              → entries_at first tail (filter (in_set ws) (range (first + i) (suc k))) ≡ filter mark (take (suc k) (drop i tail))
          go (inl e) more = rw (h.is i (omega arith), here, e, next, at) (ap (λ (z : List ℕ). get_or tail i 0 ∷ z) more)
          go (inr e) more = rw (h.is i (omega arith), here, e, next) more

      pub marked_listed : entries_at first tail (set_places ws) ≡ filter mark (take size tail)
      marked_listed =
          ap (entries_at first tail) (within ∙ ap (λ (i : ℕ). filter (in_set ws) (range i size)) (sym (add-zero first))) ∙ from 0 size (omega arith)

    -- one entry marked, or no more
    module _ (q v : ℕ) (l : q < size) (small : first + q < max_radios) (v_is : get_or tail q 0 ≡ v) (apart : (j : ℕ) → j < size → get_or tail j 0 ≡ v → j ≡ q)
        (mark1 : ℕ → Bool) (other : (w : ℕ) → (w ≡ v → ⊥) → mark1 w ≡ mark w) where
      told : (b : Bool) → mark1 v ≡ b → (us : List ℕ) → ((p : ℕ) → in_set us p ≡ cond (eqb (first + q) p) b (in_set ws p)) → (j : ℕ) → j < size
          → in_set us (first + j) ≡ mark1 (get_or tail j 0)
      told b own us bits j lj = go (bool_cases (eqb (first + q) (first + j)))
        where
          go : (eqb (first + q) (first + j) ≡ true) ⊎ (eqb (first + q) (first + j) ≡ false) → in_set us (first + j) ≡ mark1 (get_or tail j 0)
          go (inl e) =
              let same : j ≡ q = omega (arith, eqb-true (first + q) (first + j) e) in
              bits (first + j) ∙ rw e (sym own ∙ ap mark1 (sym v_is ∙ ap (λ (i : ℕ). get_or tail i 0) (sym same)))
          go (inr e) =
              bits (first + j) ∙ rw e (h.is j lj ∙ sym (other (get_or tail j 0)
              (λ s. eqb-false (first + q) (first + j) e (ap (λ (i : ℕ). first + i) (sym (apart j lj s))))))

      pub marked_put : mark1 v ≡ true → MarkedPlaces first size tail mark1 (put_in (first + q) ws)
      marked_put own = record {
        long = length_put_in (first + q) ws ∙ h.long;
        inside = λ p e. go p e (bool_cases (eqb (first + q) p));
        is = told true own (put_in (first + q) ws) bits;
      }
        where
          bits : (p : ℕ) → in_set (put_in (first + q) ws) p ≡ cond (eqb (first + q) p) true (in_set ws p)
          bits p = in_put_in (first + q) p ws (omega (arith, h.long))

          go : (p : ℕ) → in_set (put_in (first + q) ws) p ≡ true → (eqb (first + q) p ≡ true) ⊎ (eqb (first + q) p ≡ false) → (first ≤ p) × (p < first + size)
          go p e (inl s) = let same = eqb-true (first + q) p s in (omega arith, omega arith)
          go p e (inr s) = h.inside p (sym (bits p ∙ rw s) ∙ e)

      pub marked_taken : mark1 v ≡ false → MarkedPlaces first size tail mark1 (take_out (first + q) ws)
      marked_taken own = record {
        long = length_take_out (first + q) ws ∙ h.long;
        inside = λ p e. go p e (bool_cases (eqb (first + q) p));
        is = told false own (take_out (first + q) ws) bits;
      }
        where
          bits : (p : ℕ) → in_set (take_out (first + q) ws) p ≡ cond (eqb (first + q) p) false (in_set ws p)
          bits p = in_take_out (first + q) p ws (omega (arith, h.long))

          go : (p : ℕ) → in_set (take_out (first + q) ws) p ≡ true → (eqb (first + q) p ≡ true) ⊎ (eqb (first + q) p ≡ false) → (first ≤ p) × (p < first + size)
          go p e (inl s) = never (in_set (take_out (first + q) ws) p) e (bits p ∙ rw s)
          go p e (inr s) = h.inside p (sym (bits p ∙ rw s) ∙ e)
