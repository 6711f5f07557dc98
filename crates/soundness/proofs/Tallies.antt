-- The ends of a row counted, on plain values.
-- In order: the first of the later ends by its key, ends counted one by one and part by part, a word walked, a row walked.
use Rattle.std.specs.Prelude.{◌≡◌, ◌⊎◌, ◌&&◌, ◌∷◌, ◌++◌, ◌+◌, ◌*◌, ◌-◌, ◌^◌, ◌≤◌, ◌<◌}
use Rattle.lists.{specs.Kit.{refl, sym, ap, ◌∙◌, inl, inr, Bool, true, false, cond, List, [], ℕ, zero, suc}}
use Rattle.lists.{specs.Kit.{min, arith, bit_and, and_le_l, count_trailing_zeros, ltb, leb, length, get_or, length-append, lt-ltb, le-ltb}, specs.Lists.{count, all}}
use Rattle.lists.{proofs.Tests.{bool_cases, never, bit_one, byte_bit}, proofs.Count.{count_append}, proofs.All.{all_append}}
use mir.{Syntax.{w8}, Val.{bool_byte, Fits}}
use Rattle.mesh.specs.{Limits.{max_neighbours, row_bytes}, Tables.{marked}}
use Rattle.rows.{specs.Rows.{neighbours_of, row_from, set_bits, row_word}, proofs.WordLaws.{word_lowest, word_less, word_none, length_set_bits_le}}
use Rattle.rows.{proofs.RowWords.{row_from_zero, row_split, row_from_end}, proofs.MaskLaws.{marked_past}}
use Rattle.conditions.{specs.Conditions.{sooner_key, first_key, later_count, high_count, highest_word}, proofs.HighestWord.{highest_word_below}}
use Rattle.conditions.{proofs.HighestWord.{highest_word_above}}
use Rattle.soundness.specs.Checks.{ends_mark, HighestWords, Tally, tally, Tallied, Walked, WalkRoom}

pub count_fits : (x : ℕ) (t : Bool) → x < 255 → Fits w8 (x + bool_byte t)
count_fits x t l = omega (arith, byte_bit t, bit_one t)

-- ---- the first of the later ends, by its key

sooner_least : (place p b key : ℕ) → sooner_key place p b key ≤ key
unfolding sooner_key
sooner_least place p b key = go (bool_cases (ltb place p))
  where
    go : (ltb place p ≡ true) ⊎ (ltb place p ≡ false) → cond (ltb place p) (min (p * 65536 + b) key) key ≤ key
    go (inl t) = rw t (omega arith)
    go (inr t) = rw t (omega arith)

-- of two keys and a radio the first, whichever are compared before
sooner_min : (place p b key m : ℕ) → min (sooner_key place p b key) m ≡ min key (sooner_key place p b m)
unfolding sooner_key
sooner_min place p b key m = go (bool_cases (ltb place p))
  where
    go : (ltb place p ≡ true) ⊎ (ltb place p ≡ false)
        → min (cond (ltb place p) (min (p * 65536 + b) key) key) m ≡ min key (cond (ltb place p) (min (p * 65536 + b) m) m)
    go (inl t) = rw t (omega arith)
    go (inr t) = rw t refl

sooner_of_min : (place p b key m : ℕ) → sooner_key place p b (min key m) ≡ min (sooner_key place p b key) m
unfolding sooner_key
sooner_of_min place p b key m = go (bool_cases (ltb place p))
  where
    go : (ltb place p ≡ true) ⊎ (ltb place p ≡ false)
        → cond (ltb place p) (min (p * 65536 + b) (min key m)) (min key m) ≡ min (cond (ltb place p) (min (p * 65536 + b) key) key) m
    go (inl t) = rw t (omega arith)
    go (inr t) = rw t refl

pub first_key_most : (ps : List ℕ) (a : ℕ) (xs : List ℕ) → first_key ps a xs ≤ 4294967295
unfolding first_key
first_key_most ps a [] = omega arith
first_key_most ps a (b ∷ bs) =
    omega (arith, sooner_least (get_or ps a 0) (get_or ps b 0) b (first_key ps a bs), first_key_most ps a bs)

first_key_append : (ps : List ℕ) (a : ℕ) (xs ys : List ℕ) → first_key ps a (xs ++ ys) ≡ min (first_key ps a xs) (first_key ps a ys)
unfolding first_key
first_key_append ps a [] ys = omega (arith, first_key_most ps a ys)
first_key_append ps a (b ∷ bs) ys =
    ap (sooner_key (get_or ps a 0) (get_or ps b 0) b) (first_key_append ps a bs ys)
    ∙ sooner_of_min (get_or ps a 0) (get_or ps b 0) b (first_key ps a bs) (first_key ps a ys)

-- the code's tests
pub sooner_early : (place p b key : ℕ) → p ≤ place → key ≡ sooner_key place p b key
unfolding sooner_key
sooner_early place p b key h = rw (le-ltb place p h)

pub sooner_late : (place p b key : ℕ) → place < p → min (p * 65536 + b) key ≡ sooner_key place p b key
unfolding sooner_key
sooner_late place p b key h = rw (lt-ltb place p h)

-- ---- ends counted

module _ (numbers places : List ℕ) (a : ℕ) where
  abbrev is_later : ℕ → Bool
  is_later b = ltb (get_or places a 0) (get_or places b 0)

  abbrev is_high : ℕ → Bool
  is_high b = leb (get_or numbers a 0) (get_or numbers b 0)

  -- one end more
  abbrev pub more : (b : ℕ) → Tally → (key : ℕ) → Tally
  more b t key = tally (t.count + 1) (t.later + bool_byte (is_later b)) (t.high + bool_byte (is_high b)) key

  pub tallied_none : (s : Tally) (xs : List ℕ) → s.later ≤ s.count → s.high ≤ s.count → s.key ≤ 4294967295 → Tallied numbers places a s xs xs s
  tallied_none s xs l h k = record { count_is = refl; later_is = refl; high_is = refl; first_is = refl; few_later = l; few_high = h; few_key = k }

  module _ (s : Tally) (whole : List ℕ) where
    tallied_one : (b : ℕ) (rest : List ℕ) (t : Tally) (new : ℕ) → new ≡ sooner_key (get_or places a 0) (get_or places b 0) b t.key
        → Tallied numbers places a s whole (b ∷ rest) t → Tallied numbers places a s whole rest (more b t new)
    unfolding later_count high_count count first_key
    tallied_one b rest t new e h =
        let l = byte_bit (is_later b) in
        let m = byte_bit (is_high b) in
        let key = first_key places a rest in
        record {
          count_is = omega (arith, h.count_is);
          later_is = omega (arith, h.later_is, l);
          high_is = omega (arith, h.high_is, m);
          first_is = ap (λ (x : ℕ). min x key) e ∙ sooner_min (get_or places a 0) (get_or places b 0) b t.key key ∙ h.first_is;
          few_later = omega (arith, h.few_later, l, bit_one (is_later b));
          few_high = omega (arith, h.few_high, m, bit_one (is_high b));
          few_key = omega (arith, e, sooner_least (get_or places a 0) (get_or places b 0) b t.key, h.few_key);
        }

    -- a part of what is left
    tallied_part : (xs rest : List ℕ) (t u : Tally) → Tallied numbers places a t xs [] u → Tallied numbers places a s whole (xs ++ rest) t
        → Tallied numbers places a s whole rest u
    unfolding later_count high_count count first_key
    tallied_part xs rest t u w h = record {
      count_is = omega (arith, h.count_is, w.count_is, length-append xs rest);
      later_is = omega (arith, h.later_is, w.later_is, count_append is_later xs rest);
      high_is = omega (arith, h.high_is, w.high_is, count_append is_high xs rest);
      first_is = omega (arith, h.first_is, w.first_is, w.few_key, first_key_append places a xs rest);
      few_later = w.few_later;
      few_high = w.few_high;
      few_key = w.few_key;
    }

-- ---- the highest words

pub highest_words_all : (n a b c d e f g h : ℕ) → a ≡ highest_word n 0 → b ≡ highest_word n 64 → c ≡ highest_word n 128 → d ≡ highest_word n 192
    → e ≡ highest_word n 256 → f ≡ highest_word n 320 → g ≡ highest_word n 384 → h ≡ highest_word n 448
    → HighestWords n (a ∷ b ∷ c ∷ d ∷ e ∷ f ∷ g ∷ h ∷ [])
highest_words_all n a b c d e f g h ia ib ic id ie if ig ih = record { at = at }
  where
    at : (k : ℕ) → k < 8 → get_or (a ∷ b ∷ c ∷ d ∷ e ∷ f ∷ g ∷ h ∷ []) k 0 ≡ highest_word n (64 * k)
    at zero l = ia
    at (suc zero) l = ib
    at (suc (suc zero)) l = ic
    at (suc (suc (suc zero))) l = id
    at (suc (suc (suc (suc zero)))) l = ie
    at (suc (suc (suc (suc (suc zero))))) l = if
    at (suc (suc (suc (suc (suc (suc zero)))))) l = ig
    at (suc (suc (suc (suc (suc (suc (suc zero))))))) l = ih
    at (suc (suc (suc (suc (suc (suc (suc (suc k)))))))) l = absurd (omega arith)

-- ---- a word walked: each turn takes its lowest set bit off

-- the ends of the bits that are left decide, and come with t to what the whole word comes to
pub record Walking (links numbers places : List ℕ) (a first word : ℕ) (s : Tally) (rest : ℕ) (t : Tally) : Type 0 where
  pub low : rest ≤ word
  pub small : rest < 2 ^ 64
  pub same : ends_mark links a (set_bits 64 first rest) ≡ ends_mark links a (set_bits 64 first word)
  pub so_far : Tallied numbers places a s (set_bits 64 first word) (set_bits 64 first rest) t

module _ (links numbers places : List ℕ) (a first word : ℕ) (s : Tally) where
  pub walking_none : word < 2 ^ 64 → WalkRoom first s → Walking links numbers places a first word s word s
  walking_none h r = record {
    low = omega arith;
    small = h;
    same = refl;
    so_far = tallied_none numbers places a s (set_bits 64 first word) r.few_later r.few_high r.few_key;
  }

  module _ (rest : ℕ) (t : Tally) (some : rest ≡ 0 → ⊥) (h : Walking links numbers places a first word s rest t) where
    abbrev b : ℕ
    b = first + count_trailing_zeros 64 rest

    abbrev others : ℕ
    others = bit_and rest (rest - 1)

    lowest : set_bits 64 first rest ≡ b ∷ set_bits 64 first others
    lowest = word_lowest first rest h.small some

    mark_next : (marked links b a && ends_mark links a (set_bits 64 first others)) ≡ ends_mark links a (set_bits 64 first word)
    unfolding ends_mark all
    mark_next = sym (ap (ends_mark links a) lowest) ∙ h.same

    -- a bit of a word that is not above the highest is a radio
    pub walking_radio : (n highest : ℕ) → highest ≡ highest_word n first → word ≤ highest → b < n
    walking_radio n highest e l = highest_word_below n first rest (omega (arith, h.low)) b (rw lowest (inl refl))

    pub walking_few : s.count ≤ max_neighbours → t.count < 104
    walking_few few = omega (arith, h.so_far.count_is, ap length lowest, length_set_bits_le 64 first word)

    pub walking_alone : (u : Tally) → marked links b a ≡ false → Walked links numbers places a s (set_bits 64 first word) false u
    walking_alone u m = record {
      answer = sym (ap (λ (x : Bool). x && ends_mark links a (set_bits 64 first others)) m) ∙ mark_next;
      tallied = λ f. never false f refl;
    }

    pub walking_turn : (new : ℕ) → marked links b a ≡ true → new ≡ sooner_key (get_or places a 0) (get_or places b 0) b t.key
        → Walking links numbers places a first word s others (more numbers places a b t new)
    walking_turn new m e = record {
      low = omega (arith, and_le_l rest (rest - 1), h.low);
      small = word_less rest h.small;
      same = sym (ap (λ (x : Bool). x && ends_mark links a (set_bits 64 first others)) m) ∙ mark_next;
      so_far = tallied_one numbers places a s (set_bits 64 first word) b (set_bits 64 first others) t new e (rw lowest at h.so_far);
    }

  pub walking_end : (rest : ℕ) (t : Tally) → rest ≡ 0 → Walking links numbers places a first word s rest t
      → Walked links numbers places a s (set_bits 64 first word) true t
  unfolding ends_mark all
  walking_end rest t e h =
      let none = word_none first rest e in
      record { answer = sym (ap (ends_mark links a) none) ∙ h.same; tallied = λ _. rw none at h.so_far }

  pub walking_zero : word ≡ 0 → WalkRoom first s → Walked links numbers places a s (set_bits 64 first word) true s
  walking_zero e r = walking_end word s e (walking_none (omega arith) r)

  -- a word above the highest marks a radio that has no row
  pub walking_above : (n : ℕ) → length links ≡ row_bytes * n → word < 2 ^ 64 → highest_word n first < word
      → (u : Tally) → Walked links numbers places a s (set_bits 64 first word) false u
  unfolding ends_mark
  walking_above n e l h u = record {
    answer = sym (highest_word_above (λ b. marked links b a) n first word h l (λ b k. marked_past links b a (omega arith)));
    tallied = λ f. never false f refl;
  }

-- ---- a row walked, word by word

-- the ends from word k on decide, and come with t to what the whole row comes to
pub record RowWalking (links numbers places : List ℕ) (a k : ℕ) (t : Tally) : Type 0 where
  pub low : k ≤ 8
  pub few : t.count ≤ max_neighbours
  pub same : ends_mark links a (row_from links a k) ≡ ends_mark links a (neighbours_of links a)
  pub so_far : Tallied numbers places a (tally 0 0 0 4294967295) (neighbours_of links a) (row_from links a k) t

module _ (links numbers places : List ℕ) (a : ℕ) where
  pub row_walking_none : RowWalking links numbers places a 0 (tally 0 0 0 4294967295)
  row_walking_none = record {
    low = omega arith;
    few = omega arith;
    same = ap (ends_mark links a) (row_from_zero links a);
    so_far =
        rw (row_from_zero links a)
        (tallied_none numbers places a (tally 0 0 0 4294967295) (neighbours_of links a) (omega arith) (omega arith) (omega arith));
  }

  module _ (bytes : (j : ℕ) → get_or links j 0 < 256) (k : ℕ) (t : Tally) (h : k < 8) (i : RowWalking links numbers places a k t) (w : ℕ)
      (e : w ≡ row_word 8 links (row_bytes * a + 8 * k)) (good : Bool) (u : Tally)
      (walked : Walked links numbers places a t (set_bits 64 (64 * k) w) good u) where
    abbrev bits : List ℕ
    bits = set_bits 64 (64 * k) w

    abbrev rest : List ℕ
    rest = row_from links a (k + 1)

    split : row_from links a k ≡ bits ++ rest
    split = row_split links bytes a k w h e

    row_mark_next : (good && ends_mark links a rest) ≡ ends_mark links a (neighbours_of links a)
    unfolding ends_mark
    row_mark_next =
        ap (λ (x : Bool). x && ends_mark links a rest) walked.answer
        ∙ sym (all_append (λ b. marked links b a) bits rest)
        ∙ sym (ap (ends_mark links a) split)
        ∙ i.same

    pub row_walking_alone : good ≡ false → ends_mark links a (neighbours_of links a) ≡ false
    row_walking_alone g = sym row_mark_next ∙ ap (λ (x : Bool). x && ends_mark links a rest) g

    next : good ≡ true → Tallied numbers places a (tally 0 0 0 4294967295) (neighbours_of links a) rest u
    next g = tallied_part numbers places a (tally 0 0 0 4294967295) (neighbours_of links a) bits rest t u (walked.tallied g) (rw split at i.so_far)

    pub row_walking_many : good ≡ true → max_neighbours < u.count → max_neighbours < length (neighbours_of links a)
    row_walking_many g m = omega (arith, (next g).count_is)

    pub row_walking_turn : good ≡ true → u.count ≤ max_neighbours → RowWalking links numbers places a (k + 1) u
    row_walking_turn g f = record {
      low = omega arith;
      few = f;
      same = sym (ap (λ (x : Bool). x && ends_mark links a rest) g) ∙ row_mark_next;
      so_far = next g;
    }

  pub row_walking_end : (k : ℕ) (t : Tally) → 8 ≤ k → RowWalking links numbers places a k t
      → (ends_mark links a (neighbours_of links a) ≡ true) × Tallied numbers places a (tally 0 0 0 4294967295) (neighbours_of links a) [] t
  unfolding ends_mark all
  row_walking_end k t h i =
      let none = row_from_end links a k h in
      (sym (sym (ap (ends_mark links a) none) ∙ i.same), rw none at i.so_far)
