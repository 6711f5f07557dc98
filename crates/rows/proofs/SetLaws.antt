-- Sets of eight words.
-- In order: digits of words joined by `&`, `|` and `^`, one radio tested, taken out and put in, the radios of another set taken out and
-- listed, the lowest radio of two sets, how many they have, words changed in turn, the radios of a set listed.
use Rattle.std.specs.Prelude.{◌≡◌, ◌⊎◌, ◌&&◌, ◌||◌, ◌++◌, ◌+◌, ◌*◌, ◌-◌, ◌/◌, ◌%◌, ◌^◌, ◌≤◌, ◌<◌}
use Rattle.lists.{specs.Kit.{refl, sym, ap, ◌∙◌, inl, inr, Bool, true, false, not, cond, List, [], ℕ, zero, suc}}
use Rattle.lists.{specs.Kit.{min, max, arith, mod-lt, zero-lt-suc, one-mul, mod-eq_of_lt, differ, bit_and, bit_or, bit_xor, and_step, or_step}}
use Rattle.lists.{specs.Kit.{xor_step, and_shr, or_shr, xor_shr, xor_zero_r, and_mask, and_lt, ones, ltb, eqb, length, get_or, set, replicate}}
use Rattle.lists.specs.Kit.{length-append, length-set, List·getD-eq-default, sets, set_out, set-get_or, get_or-set_same, get_or-set_other, ltb-true, ltb-false}
use Rattle.lists.{specs.Kit.{eqb-true, eqb-false, eq-eqb, ne_eqb}, specs.Lists.{range, filter, member, In}}
use Rattle.lists.{proofs.Filter.{member_filter, filter_ext, filter_none}}
use Rattle.lists.{proofs.Overwrite.{sets_front}, proofs.Parts.{get_d_zeros}, proofs.Member.{not_member}, proofs.Range.{in_range}, proofs.Tests.{bool_cases}}
use Rattle.lists.{proofs.Tests.{iff_eq}}
use lib.Pow.{pow-lt}
use Rattle.mesh.{specs.Limits.{max_radios, row_bytes}, specs.Tables.{digit, marked, put_digit}, proofs.Tables.Digits.{digit_nothing, digit_put_digit}}
use Rattle.rows.specs.{Rows.{neighbours_of, row_listed, set_bits, row_word}, Sets.{in_set, take_out, put_in, word_left, word_taken, RowJoined, common}}
use Rattle.rows.specs.{Sets.{CommonTaken, SetTaken, members, Listed}}
use Rattle.rows.proofs.{MaskLaws.{put_digit_true, put_digit_false}, WordLaws.{word_none, length_set_bits, length_set_bits_le}}
use Rattle.rows.proofs.{Listing.{PartialListing, partial_none, partial_part, partial_end}, RowListLaws.{in_neighbours_of, member_neighbours_of}}
use Rattle.rows.proofs.{RowWords.{marked_word, words_from, words_end, row_listed_whole, row_listed_short}}

-- ---- digits of joined words

lowest_and : (p q : ℕ) → p < 2 → q < 2 → eqb (min p q) 1 ≡ (eqb p 1 && eqb q 1)
lowest_and zero zero h l = refl
lowest_and zero (suc zero) h l = refl
lowest_and (suc zero) zero h l = refl
lowest_and (suc zero) (suc zero) h l = refl
lowest_and (suc (suc p)) q h l = absurd (omega arith)
lowest_and zero (suc (suc q)) h l = absurd (omega arith)
lowest_and (suc zero) (suc (suc q)) h l = absurd (omega arith)

pub digit_and : (x y m : ℕ) → digit (bit_and x y) m ≡ (digit x m && digit y m)
unfolding digit
digit_and x y m =
    let p = x / 2 ^ m in
    let q = y / 2 ^ m in
    let low : bit_and p q % 2 ≡ min (p % 2) (q % 2) = omega (arith, and_step p q) in
    ap (λ (z : ℕ). eqb (z % 2) 1) (and_shr x y m) ∙ ap (λ (z : ℕ). eqb z 1) low ∙ lowest_and (p % 2) (q % 2) (omega arith) (omega arith)

lowest_or : (p q : ℕ) → p < 2 → q < 2 → eqb (max p q) 1 ≡ (eqb p 1 || eqb q 1)
lowest_or zero zero h l = refl
lowest_or zero (suc zero) h l = refl
lowest_or (suc zero) zero h l = refl
lowest_or (suc zero) (suc zero) h l = refl
lowest_or (suc (suc p)) q h l = absurd (omega arith)
lowest_or zero (suc (suc q)) h l = absurd (omega arith)
lowest_or (suc zero) (suc (suc q)) h l = absurd (omega arith)

digit_or : (x y m : ℕ) → digit (bit_or x y) m ≡ (digit x m || digit y m)
unfolding digit
digit_or x y m =
    let p = x / 2 ^ m in
    let q = y / 2 ^ m in
    let low : bit_or p q % 2 ≡ max (p % 2) (q % 2) = omega (arith, or_step p q) in
    ap (λ (z : ℕ). eqb (z % 2) 1) (or_shr x y m) ∙ ap (λ (z : ℕ). eqb z 1) low ∙ lowest_or (p % 2) (q % 2) (omega arith) (omega arith)

lowest_xor : (p q : ℕ) → p < 2 → q < 2 → eqb (differ p q) 1 ≡ cond (eqb p 1) (not (eqb q 1)) (eqb q 1)
lowest_xor zero zero h l = refl
lowest_xor zero (suc zero) h l = refl
lowest_xor (suc zero) zero h l = refl
lowest_xor (suc zero) (suc zero) h l = refl
lowest_xor (suc (suc p)) q h l = absurd (omega arith)
lowest_xor zero (suc (suc q)) h l = absurd (omega arith)
lowest_xor (suc zero) (suc (suc q)) h l = absurd (omega arith)

digit_xor : (x y m : ℕ) → digit (bit_xor x y) m ≡ cond (digit x m) (not (digit y m)) (digit y m)
unfolding digit
digit_xor x y m =
    let p = x / 2 ^ m in
    let q = y / 2 ^ m in
    let small : differ (p % 2) (q % 2) < 2 = differ_small (p % 2) (q % 2) (omega arith) (omega arith) in
    let low : bit_xor p q % 2 ≡ differ (p % 2) (q % 2) = omega (arith, xor_step p q) in
    ap (λ (z : ℕ). eqb (z % 2) 1) (xor_shr x y m) ∙ ap (λ (z : ℕ). eqb z 1) low ∙ lowest_xor (p % 2) (q % 2) (omega arith) (omega arith)
  where
    differ_small : (p q : ℕ) → p < 2 → q < 2 → differ p q < 2
    differ_small zero q h l = l
    differ_small (suc p) zero h l = h
    differ_small (suc zero) (suc q) h l = omega arith
    differ_small (suc (suc p)) (suc q) h l = absurd (omega arith)

digit_left : (row w m : ℕ) → digit (word_left row w) m ≡ (digit w m && not (digit row m))
unfolding word_left
digit_left row w m = digit_xor w (bit_and row w) m ∙ rw (digit_and row w m) (go (digit w m) (digit row m))
  where
    go : (a b : Bool) → cond a (not (b && a)) (b && a) ≡ (a && not b)
    go true true = refl
    go true false = refl
    go false true = refl
    go false false = refl

-- ---- one radio

pub in_set_shift : (ws : List ℕ) (v : ℕ) → eqb (bit_and (get_or ws (v / 64) 0 / 2 ^ (v % 64)) 1) 1 ≡ in_set ws v
unfolding in_set digit
in_set_shift ws v = ap (λ (x : ℕ). eqb x 1) (and_mask (get_or ws (v / 64) 0 / 2 ^ (v % 64)) 1)

-- words that are all zero have no radio
pub in_set_zeros : (k v : ℕ) → in_set (replicate k 0) v ≡ false
unfolding in_set
in_set_zeros k v = ap (λ (w : ℕ). digit w (v % 64)) (get_d_zeros k (v / 64)) ∙ digit_nothing (v % 64)

pub in_set_past : (ws : List ℕ) (v : ℕ) → length ws ≤ v / 64 → in_set ws v ≡ false
unfolding in_set
in_set_past ws v h = rw (List·getD-eq-default ws 0 h) (digit_nothing (v % 64))

-- a radio of a set of eight words
pub in_set_radio : (ws : List ℕ) (v : ℕ) → length ws ≡ 8 → in_set ws v ≡ true → v < max_radios
in_set_radio ws v long h = go (bool_cases (ltb v max_radios))
  where
    go : (ltb v max_radios ≡ true) ⊎ (ltb v max_radios ≡ false) → v < max_radios
    go (inl e) = ltb-true v max_radios e
    go (inr e) = let z : true ≡ false = sym h ∙ in_set_past ws v (omega (arith, ltb-false v max_radios e)) in absurd (different z)
      where
        different : true ≡ false → ⊥
        different q = let n : ◌≡◌ {A = ℕ} 0 1 = cc in omega arith

mask_value : (v : ℕ) → 1 * 2 ^ (v % 64) % 18446744073709551616 ≡ 2 ^ (v % 64)
mask_value v = ap (λ (x : ℕ). x % 18446744073709551616) (one-mul (2 ^ (v % 64))) ∙ mod-eq_of_lt (pow-lt (mod-lt v (zero-lt-suc 63)))

pub take_out_mask : (ws : List ℕ) (v : ℕ) → get_or ws (v / 64) 0 < 18446744073709551616
    → set ws (v / 64) (bit_and (get_or ws (v / 64) 0) (18446744073709551615 - 1 * 2 ^ (v % 64) % 18446744073709551616)) ≡ take_out v ws
unfolding take_out
take_out_mask ws v h = rw (mask_value v, put_digit_false 64 (get_or ws (v / 64) 0) (v % 64) (mod-lt v (zero-lt-suc 63)) h)

pub take_out_past : (ws : List ℕ) (v : ℕ) → length ws ≤ v / 64 → take_out v ws ≡ ws
unfolding take_out
take_out_past ws v h = set_out ws (v / 64) (put_digit false (get_or ws (v / 64) 0) (v % 64)) h

pub length_take_out : (v : ℕ) (ws : List ℕ) → length (take_out v ws) ≡ length ws
unfolding take_out
length_take_out v ws = length-set ws (v / 64) (put_digit false (get_or ws (v / 64) 0) (v % 64))

-- one radio's bit written
in_put : (b : Bool) (v w : ℕ) (ws : List ℕ) → v / 64 < length ws
    → in_set (set ws (v / 64) (put_digit b (get_or ws (v / 64) 0) (v % 64))) w ≡ cond (eqb v w) b (in_set ws w)
unfolding in_set
in_put b v w ws l = go (bool_cases (eqb (w / 64) (v / 64)))
  where
    x : ℕ
    x = put_digit b (get_or ws (v / 64) 0) (v % 64)

    go : (eqb (w / 64) (v / 64) ≡ true) ⊎ (eqb (w / 64) (v / 64) ≡ false)
        → digit (get_or (set ws (v / 64) x) (w / 64) 0) (w % 64) ≡ cond (eqb v w) b (digit (get_or ws (w / 64) 0) (w % 64))
    go (inl e) =
        let q : w / 64 ≡ v / 64 = eqb-true (w / 64) (v / 64) e in
        let same : eqb (v % 64) (w % 64) ≡ eqb v w =
        iff_eq (eqb (v % 64) (w % 64)) (eqb v w) (λ z. eq-eqb v w (omega (arith, eqb-true (v % 64) (w % 64) z)))
        (λ z. eq-eqb (v % 64) (w % 64) (omega (arith, eqb-true v w z))) in
        rw (q, get_or-set_same ws (v / 64) x 0 l, digit_put_digit b (get_or ws (v / 64) 0) (v % 64) (w % 64), same)
    go (inr e) =
        let d = eqb-false (w / 64) (v / 64) e in
        rw (get_or-set_other ws (v / 64) (w / 64) x 0 d, ne_eqb v w (λ z. d (ap (λ (u : ℕ). u / 64) (sym z))))

pub in_take_out : (v w : ℕ) (ws : List ℕ) → v / 64 < length ws → in_set (take_out v ws) w ≡ cond (eqb v w) false (in_set ws w)
unfolding take_out
in_take_out v w ws l = in_put false v w ws l

pub in_put_in : (v w : ℕ) (ws : List ℕ) → v / 64 < length ws → in_set (put_in v ws) w ≡ cond (eqb v w) true (in_set ws w)
unfolding put_in
in_put_in v w ws l = in_put true v w ws l

pub put_in_mask : (ws : List ℕ) (v : ℕ)
    → set ws (v / 64) (bit_or (get_or ws (v / 64) 0) (1 * 2 ^ (v % 64) % 18446744073709551616)) ≡ put_in v ws
unfolding put_in
put_in_mask ws v = rw (mask_value v, put_digit_true (get_or ws (v / 64) 0) (v % 64))

pub put_in_past : (ws : List ℕ) (v : ℕ) → length ws ≤ v / 64 → put_in v ws ≡ ws
unfolding put_in
put_in_past ws v h = set_out ws (v / 64) (put_digit true (get_or ws (v / 64) 0) (v % 64)) h

pub length_put_in : (v : ℕ) (ws : List ℕ) → length (put_in v ws) ≡ length ws
unfolding put_in
length_put_in v ws = length-set ws (v / 64) (put_digit true (get_or ws (v / 64) 0) (v % 64))

-- ---- the radios of another set, taken out word by word

module _ (x k : ℕ) (ws list : List ℕ) (n : ℕ) where
  abbrev word : ℕ
  word = bit_and x (get_or ws k 0)

  -- a word without radios of the set
  pub nothing_of_word : n ≤ length list → word ≡ 0
      → (n ≡ min (length list) (n + length (set_bits 64 (64 * k) word))) × ((list ≡ sets list n (set_bits 64 (64 * k) word)) × (ws ≡ word_taken k x ws))
  unfolding word_taken word_left
  nothing_of_word room e =
      rw (e, word_none (64 * k) 0 refl) (omega arith, (refl, sym (ap (set ws k) (xor_zero_r (get_or ws k 0)) ∙ set-get_or ws k 0)))

  pub some_of_word : (m : ℕ) (new : List ℕ) → n ≤ length list → m ≡ min (length list - n) (length (set_bits 64 (64 * k) word))
      → new ≡ sets list n (set_bits 64 (64 * k) word)
      → (n + m ≡ min (length list) (n + length (set_bits 64 (64 * k) word))) × ((new ≡ sets list n (set_bits 64 (64 * k) word))
      × (set ws k (bit_xor (get_or ws k 0) word) ≡ word_taken k x ws))
  unfolding word_taken word_left
  some_of_word m new room e f = (omega (arith, e), (f, refl))

pub common_filter : (x y : List ℕ) → common x y ≡ filter (λ v. in_set x v && in_set y v) (range 0 max_radios)
unfolding common
common_filter x y = refl

module _ (x ws : List ℕ) where
  abbrev pub both : ℕ → Bool
  both v = in_set x v && in_set ws v

  -- radios of both from word k on
  abbrev pub both_from : ℕ → List ℕ
  both_from k = filter both (range (64 * k) (max_radios - 64 * k))

  -- words before word k are done: their radios listed and taken out
  pub record CommonTaking (old : List ℕ) (n k : ℕ) (us list : List ℕ) : Type 0 where
    pub low : k ≤ 8
    pub long : length us ≡ 8
    pub few : n ≤ 64 * k
    pub done : (j : ℕ) → j < k → get_or us j 0 ≡ word_left (get_or x j 0) (get_or ws j 0)
    pub same : (j : ℕ) → k ≤ j → get_or us j 0 ≡ get_or ws j 0
    pub listing : PartialListing (both_from 0) 0 old (both_from k) n list

  pub both_word : (k m : ℕ) → m < 64 → both (64 * k + m) ≡ digit (bit_and (get_or x k 0) (get_or ws k 0)) m
  unfolding in_set
  both_word k m h =
      let q : (64 * k + m) / 64 ≡ k = omega arith in
      let r : (64 * k + m) % 64 ≡ m = omega arith in
      rw (q, r) (sym (digit_and (get_or x k 0) (get_or ws k 0) m))

  pub common_taking_turn : (old : List ℕ) (n k m : ℕ) (us list vs new : List ℕ) → k < 8
      → m ≡ min (length list) (n + length (set_bits 64 (64 * k) (bit_and (get_or x k 0) (get_or us k 0))))
      → new ≡ sets list n (set_bits 64 (64 * k) (bit_and (get_or x k 0) (get_or us k 0))) → vs ≡ word_taken k (get_or x k 0) us
      → CommonTaking old n k us list → CommonTaking old m (k + 1) vs new
  unfolding word_taken
  common_taking_turn old n k m us list vs new l f g v i =
      let w = get_or x k 0 in
      let bits = set_bits 64 (64 * k) (bit_and w (get_or ws k 0)) in
      let here : bit_and w (get_or us k 0) ≡ bit_and w (get_or ws k 0) = ap (bit_and w) (i.same k (omega arith)) in
      let split : both_from k ≡ bits ++ both_from (k + 1) = words_from both k (bit_and w (get_or ws k 0)) l (both_word k) in
      let rest : PartialListing (both_from 0) 0 old (bits ++ both_from (k + 1)) n list = rw split at i.listing in
      record {
        low = omega arith;
        long = ap length v ∙ length-set us k (word_left w (get_or us k 0)) ∙ i.long;
        few = omega (arith, f, length_set_bits_le 64 (64 * k) (bit_and w (get_or us k 0)), i.few);
        done = λ j h. done j h (bool_cases (eqb j k));
        same = λ j h. ap (λ (z : List ℕ). get_or z j 0) v ∙ get_or-set_other us k j (word_left w (get_or us k 0)) 0 (λ z. omega arith) ∙ i.same j (omega arith);
        listing = rw (f, g, here) (partial_part bits (both_from (k + 1)) n list rest);
      }
    where
      done : (j : ℕ) → j < k + 1 → (eqb j k ≡ true) ⊎ (eqb j k ≡ false) → get_or vs j 0 ≡ word_left (get_or x j 0) (get_or ws j 0)
      done j h (inl z) =
          let q : j ≡ k = eqb-true j k z in
          rw (q, v, get_or-set_same us k (word_left (get_or x k 0) (get_or us k 0)) 0 (omega (arith, i.long)), i.same k (omega arith))
      done j h (inr z) =
          let q = eqb-false j k z in
          ap (λ (y : List ℕ). get_or y j 0) v ∙ get_or-set_other us k j (word_left (get_or x k 0) (get_or us k 0)) 0 q ∙ i.done j (omega arith)

  left_out : (us : List ℕ) → length ws ≡ 8 → length us ≡ 8 → ((j : ℕ) → j < 8 → get_or us j 0 ≡ word_left (get_or x j 0) (get_or ws j 0))
      → (v : ℕ) → in_set us v ≡ (in_set ws v && not (member v (both_from 0)))
  unfolding in_set
  left_out us lw lu done v = go (bool_cases (ltb v max_radios))
    where
      bool : (s r : Bool) → (s && not r) ≡ (s && not (r && s))
      bool true true = refl
      bool true false = refl
      bool false r = refl

      inside : v < max_radios → in_set us v ≡ (in_set ws v && not (in_set x v))
      inside l = ap (λ (y : ℕ). digit y (v % 64)) (done (v / 64) (omega arith)) ∙ digit_left (get_or x (v / 64) 0) (get_or ws (v / 64) 0) (v % 64)

      go : (ltb v max_radios ≡ true) ⊎ (ltb v max_radios ≡ false) → in_set us v ≡ (in_set ws v && not (member v (both_from 0)))
      go (inl e) =
          let l = ltb-true v max_radios e in
          inside l ∙ bool (in_set ws v) (in_set x v)
          ∙ ap (λ (b : Bool). in_set ws v && not b) (sym (member_filter both (range 0 max_radios) v (in_range 0 max_radios v (omega arith) (omega arith))))
      go (inr e) =
          let l = ltb-false v max_radios e in
          rw (in_set_past us v (omega arith), in_set_past ws v (omega arith))

  pub common_taking_end : (old : List ℕ) (n k : ℕ) (us list : List ℕ) → 8 ≤ k → length ws ≡ 8 → CommonTaking old n k us list → CommonTaken x ws old n us list
  unfolding common
  common_taking_end old n k us list h lw i =
      let ended = partial_end (both_from k) n list (words_end both k h) i.listing in
      record {
        long = i.long;
        counted = omega (arith, ended.0);
        listed = ended.1 ∙ sets_front old (both_from 0);
        left = left_out us lw i.long (λ j l. i.done j (omega arith));
      }

-- ---- how many radios two sets have

-- what is counted so far, and the radios from word k on
pub record CommonCounting (x y : List ℕ) (n k : ℕ) : Type 0 where
  pub low : k ≤ 8
  pub few : n ≤ 64 * k
  pub counted : n + length (both_from x y k) ≡ length (both_from x y 0)

module _ (x y : List ℕ) where
  pub common_word_few : (k : ℕ) → get_or x k 0 < 2 ^ 64 → get_or y k 0 < 2 ^ 64 → ones (bit_and (get_or x k 0) (get_or y k 0)) ≤ 64
  common_word_few k wx wy =
      let w = bit_and (get_or x k 0) (get_or y k 0) in
      omega (arith, length_set_bits 64 (64 * k) w (and_lt 64 (get_or x k 0) (get_or y k 0) wx wy), length_set_bits_le 64 (64 * k) w)

  pub common_counting_turn : (n k : ℕ) → k < 8 → get_or x k 0 < 2 ^ 64 → get_or y k 0 < 2 ^ 64 → CommonCounting x y n k
      → CommonCounting x y (n + ones (bit_and (get_or x k 0) (get_or y k 0))) (k + 1)
  common_counting_turn n k h wx wy i =
      let w = bit_and (get_or x k 0) (get_or y k 0) in
      let split = ap length (words_from (both x y) k w h (both_word x y k)) ∙ length-append (set_bits 64 (64 * k) w) (both_from x y (k + 1)) in
      record {
        low = omega arith;
        few = omega (arith, i.few, common_word_few k wx wy);
        counted = omega (arith, i.counted, split, length_set_bits 64 (64 * k) w (and_lt 64 (get_or x k 0) (get_or y k 0) wx wy));
      }

  pub common_counting_end : (n k : ℕ) → 8 ≤ k → CommonCounting x y n k → n ≡ length (common x y)
  unfolding common
  common_counting_end n k h i = omega (arith, i.counted, ap length (words_end (both x y) k h))

-- ---- every word of a set changed in turn

module _ (f : ℕ → ℕ → ℕ) (ws : List ℕ) where
  -- words before word k are changed
  pub record Changing (k : ℕ) (us : List ℕ) : Type 0 where
    pub low : k ≤ 8
    pub long : length us ≡ 8
    pub done : (j : ℕ) → j < k → get_or us j 0 ≡ f j (get_or ws j 0)
    pub same : (j : ℕ) → k ≤ j → get_or us j 0 ≡ get_or ws j 0

  pub changing_turn : (k w : ℕ) (us : List ℕ) → k < 8 → w ≡ f k (get_or us k 0) → Changing k us → Changing (k + 1) (set us k w)
  changing_turn k w us l e i = record {
    low = omega arith;
    long = length-set us k w ∙ i.long;
    done = λ j h. done j h (bool_cases (eqb j k));
    same = λ j h. get_or-set_other us k j w 0 (λ z. omega arith) ∙ i.same j (omega arith);
  }
    where
      done : (j : ℕ) → j < k + 1 → (eqb j k ≡ true) ⊎ (eqb j k ≡ false) → get_or (set us k w) j 0 ≡ f j (get_or ws j 0)
      done j h (inl z) =
          let q : j ≡ k = eqb-true j k z in
          rw q (get_or-set_same us k w 0 (omega (arith, i.long)) ∙ e ∙ ap (f k) (i.same k (omega arith)))
      done j h (inr z) = get_or-set_other us k j w 0 (eqb-false j k z) ∙ i.done j (omega (arith, eqb-false j k z))

-- the radios of another set taken out
pub set_taken_end : (x ws us : List ℕ) (k : ℕ) → 8 ≤ k → length ws ≡ 8 → Changing (λ j w. word_left (get_or x j 0) w) ws k us → SetTaken x ws us
unfolding in_set
set_taken_end x ws us k h lw i = record { long = i.long; bits = λ w. go w (bool_cases (ltb w max_radios)) }
  where
    go : (w : ℕ) → (ltb w max_radios ≡ true) ⊎ (ltb w max_radios ≡ false) → in_set us w ≡ (in_set ws w && not (in_set x w))
    go w (inl e) =
        let l = ltb-true w max_radios e in
        ap (λ (y : ℕ). digit y (w % 64)) (i.done (w / 64) (omega arith)) ∙ digit_left (get_or x (w / 64) 0) (get_or ws (w / 64) 0) (w % 64)
    go w (inr e) =
        let l = ltb-false w max_radios e in
        rw (in_set_past us w (omega (arith, i.long)), in_set_past ws w (omega arith))

-- the radios of a row put in
pub row_joined_short : (ts : List ℕ) (a : ℕ) (ws : List ℕ) → length ts < row_bytes * a + row_bytes → length ws ≡ 8 → RowJoined ts a ws ws
unfolding member
row_joined_short ts a ws h long = record { long = long; bits = λ w. rw (row_listed_short ts a h) (or_no (in_set ws w)) }
  where
    or_no : (b : Bool) → b ≡ (b || false)
    or_no true = refl
    or_no false = refl

module _ (ts : List ℕ) (a : ℕ) (ws : List ℕ) where
  abbrev pub RowJoining : (k : ℕ) → (us : List ℕ) → Type 0
  RowJoining k us = Changing (λ j w. bit_or w (row_word 8 ts (row_bytes * a + 8 * j))) ws k us

  pub row_joining_end : ((j : ℕ) → get_or ts j 0 < 256) → (k : ℕ) (us : List ℕ) → 8 ≤ k → row_bytes * a + row_bytes ≤ length ts → length ws ≡ 8
      → RowJoining k us → RowJoined ts a ws us
  unfolding in_set
  row_joining_end bytes k us h whole long i = record { long = i.long; bits = λ w. go w (bool_cases (ltb w max_radios)) }
    where
      go : (w : ℕ) → (ltb w max_radios ≡ true) ⊎ (ltb w max_radios ≡ false) → in_set us w ≡ (in_set ws w || member w (row_listed ts a))
      go w (inl e) =
          let l = ltb-true w max_radios e in
          let p : w ≡ 64 * (w / 64) + w % 64 = omega arith in
          let word = row_word 8 ts (row_bytes * a + 8 * (w / 64)) in
          let row : marked ts a w ≡ digit word (w % 64) = ap (marked ts a) p ∙ marked_word ts bytes a (w / 64) (w % 64) (omega arith) in
          let listed : member w (row_listed ts a) ≡ marked ts a w = ap (member w) (row_listed_whole ts a whole) ∙ member_neighbours_of ts a w l in
          ap (λ (y : ℕ). digit y (w % 64)) (i.done (w / 64) (omega arith)) ∙ digit_or (get_or ws (w / 64) 0) word (w % 64)
          ∙ ap (λ (b : Bool). digit (get_or ws (w / 64) 0) (w % 64) || b) (sym row ∙ sym listed)
      go w (inr e) =
          let l = ltb-false w max_radios e in
          in_set_past us w (omega (arith, i.long))
          ∙ sym (ap (λ (b : Bool). b || member w (row_listed ts a)) (in_set_past ws w (omega arith)) ∙ ap (member w) (row_listed_whole ts a whole) ∙ not_member
          w (neighbours_of ts a) (λ m. omega (arith, (in_neighbours_of ts a w m).0)))

-- ---- the radios of a set, listed

module _ (ws : List ℕ) where
  abbrev pub members_from : ℕ → List ℕ
  members_from k = filter (in_set ws) (range (64 * k) (max_radios - 64 * k))

  pub member_word : (k m : ℕ) → m < 64 → in_set ws (64 * k + m) ≡ digit (get_or ws k 0) m
  unfolding in_set
  member_word k m h =
      let q : (64 * k + m) / 64 ≡ k = omega arith in
      let r : (64 * k + m) % 64 ≡ m = omega arith in
      rw (q, r)

  pub record SetListing (old : List ℕ) (n k : ℕ) (list : List ℕ) : Type 0 where
    pub low : k ≤ 8
    pub few : n ≤ 64 * k
    pub listing : PartialListing (members_from 0) 0 old (members_from k) n list

  pub set_listing_none : (old : List ℕ) → SetListing old 0 0 old
  set_listing_none old = record { low = omega arith; few = omega arith; listing = partial_none (members_from 0) 0 old (omega arith) }

  pub set_listing_turn : (old : List ℕ) (n k m : ℕ) (list new : List ℕ) → k < 8 → m ≡ min (length list - n) (length (set_bits 64 (64 * k) (get_or ws k 0)))
      → new ≡ sets list n (set_bits 64 (64 * k) (get_or ws k 0)) → SetListing old n k list → SetListing old (n + m) (k + 1) new
  set_listing_turn old n k m list new l f g i =
      let bits = set_bits 64 (64 * k) (get_or ws k 0) in
      let split : members_from k ≡ bits ++ members_from (k + 1) = words_from (in_set ws) k (get_or ws k 0) l (member_word k) in
      let rest : PartialListing (members_from 0) 0 old (bits ++ members_from (k + 1)) n list = rw split at i.listing in
      let count : n + m ≡ min (length list) (n + length bits) = omega (arith, f, i.listing.inside, i.listing.long) in
      record {
        low = omega arith;
        few = omega (arith, f, length_set_bits_le 64 (64 * k) (get_or ws k 0), i.few);
        listing = rw (count, g) (partial_part bits (members_from (k + 1)) n list rest);
      }

  pub set_listing_end : (old : List ℕ) (n k : ℕ) (list : List ℕ) → 8 ≤ k → SetListing old n k list → Listed ws old n list
  unfolding members
  set_listing_end old n k list h i =
      let ended = partial_end (members_from k) n list (words_end (in_set ws) k h) i.listing in
      record { counted = omega (arith, ended.0); listed = ended.1 ∙ sets_front old (members_from 0) }

-- the radios that a set and itself both have
pub common_own : (ws : List ℕ) → common ws ws ≡ members ws
unfolding common members
common_own ws = filter_ext (λ v. in_set ws v && in_set ws v) (in_set ws) (range 0 max_radios) (λ v m. twice (in_set ws v))
  where
    twice : (x : Bool) → (x && x) ≡ x
    twice true = refl
    twice false = refl

-- the radios of a set that a row was put into, and that was empty before
pub members_of_row : (ts ws us : List ℕ) → ws ≡ replicate 8 0 → RowJoined ts 0 ws us → members us ≡ row_listed ts 0
unfolding members neighbours_of member
members_of_row ts ws us e j =
    filter_ext (in_set us) (λ w. member w (row_listed ts 0)) (range 0 max_radios) each
    ∙ by (bool_cases (ltb (length ts) (row_bytes * 0 + row_bytes)))
  where
    each : (w : ℕ) → In w (range 0 max_radios) → in_set us w ≡ member w (row_listed ts 0)
    each w m =
        j.bits w ∙ ap (λ (x : List ℕ). in_set x w || member w (row_listed ts 0)) e
        ∙ ap (λ (b : Bool). b || member w (row_listed ts 0)) (in_set_zeros 8 w)

    by : (ltb (length ts) (row_bytes * 0 + row_bytes) ≡ true) ⊎ (ltb (length ts) (row_bytes * 0 + row_bytes) ≡ false)
        → filter (λ w. member w (row_listed ts 0)) (range 0 max_radios) ≡ row_listed ts 0
    by (inl h) =
        rw (row_listed_short ts 0 (ltb-true (length ts) (row_bytes * 0 + row_bytes) h))
        (filter_none (λ w. member w []) (range 0 max_radios) (λ w m. refl))
    by (inr h) =
        rw (row_listed_whole ts 0 (ltb-false (length ts) (row_bytes * 0 + row_bytes) h))
        (filter_ext (λ w. member w (neighbours_of ts 0)) (λ b. marked ts 0 b) (range 0 max_radios)
        (λ w m. member_filter (λ b. marked ts 0 b) (range 0 max_radios) w m))
