-- The links to go down and to come up.
--   digit_without    bits of a word that another word lacks
--   ListingFrom     the radios of a word that are above a, written into a list, and what is left of them
--   WordsListing    the same of the words of a row
use Rattle.std.specs.Prelude.{◌≡◌, ◌&&◌, ◌∷◌, ◌++◌, ◌+◌, ◌*◌, ◌-◌, ◌/◌, ◌%◌, ◌^◌, ◌≤◌, ◌<◌}
use Rattle.lists.{specs.Kit.{refl, sym, ap, ap₂, ◌∙◌, Bool, true, false, not, cond, List, [], append-nil, append_assoc, ℕ, zero, suc}}
use Rattle.lists.{specs.Kit.{min, arith, pow-succ', le_of_suc-le-suc, bit_and, and_step, and_le_l, count_trailing_zeros, ltb}}
use Rattle.lists.{specs.Kit.{eqb, length, get_or, set, take, length-set, length-append, take-set-le, take-suc-set, length-take-le, lt-ltb, le-ltb}}
use Rattle.lists.{specs.Lists.{range, filter}, proofs.Tests.{byte_bit}, proofs.Range.{range_in, range_append}, proofs.Filter.{filter_ext, filter_filter}}
use Rattle.lists.{proofs.Filter.{filter_append, filter_none}}
use mir.Val.{bool_byte}
use Rattle.mesh.{specs.Limits.{max_radios, row_bytes}, specs.Tables.{digit, marked}, specs.Sound.{within}, proofs.Tables.Digits.{digit_zero, digit_suc}}
use Rattle.mesh.{proofs.Tables.Laws.{length_bit_table, marked_bit_table}, proofs.Tables.Rows.{within_of}}
use Rattle.rows.{specs.Rows.{set_bits, row_word}, proofs.WordLaws.{word_lowest, word_less, word_none}, proofs.RowWords.{marked_word, words_from, words_end}}
use Rattle.calls.specs.Heard.{agreed, heard_alone, one_sided}
use Rattle.conditions.specs.Hearing.{OfSize, IsPrefix, wanted, wanted_by, wanted_in, above_from, ListedFrom}
use Rattle.conditions.proofs.AskLaws.{agreed_past}

-- ---- words

lowest_without : (p q : ℕ) → p < 2 → q < 2 → eqb (min p (1 - q)) 1 ≡ (eqb p 1 && not (eqb q 1))
lowest_without zero zero h l = refl
lowest_without zero (suc zero) h l = refl
lowest_without (suc zero) zero h l = refl
lowest_without (suc zero) (suc zero) h l = refl
lowest_without (suc (suc p)) q h l = absurd (omega arith)
lowest_without zero (suc (suc q)) h l = absurd (omega arith)
lowest_without (suc zero) (suc (suc q)) h l = absurd (omega arith)

-- `&` with the complement of y, of k bits
digit_without : (k x y m : ℕ) → m < k → y < 2 ^ k → digit (bit_and x (2 ^ k - 1 - y)) m ≡ (digit x m && not (digit y m))
digit_without zero x y m l h = absurd (omega arith)
digit_without (suc k) x y zero l h =
    let p = pow-succ' 2 k in
    let odd : (2 ^ suc k - 1 - y) % 2 ≡ 1 - y % 2 = omega (arith, p, h) in
    let low : bit_and x (2 ^ suc k - 1 - y) % 2 ≡ min (x % 2) (1 - y % 2) = omega (arith, and_step x (2 ^ suc k - 1 - y), odd) in
    digit_zero (bit_and x (2 ^ suc k - 1 - y)) ∙ ap (λ (z : ℕ). eqb z 1) low ∙ lowest_without (x % 2) (y % 2) (omega arith) (omega arith)
    ∙ ap₂ {C = Bool} (λ s t. s && not t) (sym (digit_zero x)) (sym (digit_zero y))
digit_without (suc k) x y (suc m) l h =
    let p = pow-succ' 2 k in
    let half : (2 ^ suc k - 1 - y) / 2 ≡ 2 ^ k - 1 - y / 2 = omega (arith, p, h) in
    let rest : bit_and x (2 ^ suc k - 1 - y) / 2 ≡ bit_and (x / 2) (2 ^ k - 1 - y / 2) =
    omega (arith, and_step x (2 ^ suc k - 1 - y), ap (bit_and (x / 2)) half) in
    digit_suc (bit_and x (2 ^ suc k - 1 - y)) m ∙ ap (λ (z : ℕ). digit z m) rest
    ∙ digit_without k (x / 2) (y / 2) m (le_of_suc-le-suc l) (omega (arith, p, h))
    ∙ ap₂ {C = Bool} (λ s t. s && not t) (sym (digit_suc x m)) (sym (digit_suc y m))

module _ (h f l : ℕ) (lf : f < 2 ^ 64) (ll : l < 2 ^ 64) (lh : h < 2 ^ 64) where
  abbrev both : ℕ
  both = bit_and h (2 ^ 64 - 1 - f)

  pub word_up : (m : ℕ) → m < 64 → digit (bit_and both (2 ^ 64 - 1 - l)) m ≡ wanted_by true (digit h m) (digit f m) (digit l m)
  unfolding wanted_by
  word_up m s = digit_without 64 both l m s ll ∙ ap (λ (t : Bool). t && not (digit l m)) (digit_without 64 h f m s lf)

  pub word_down : (m : ℕ) → m < 64 → digit (bit_and l (2 ^ 64 - 1 - both)) m ≡ wanted_by false (digit h m) (digit f m) (digit l m)
  unfolding wanted_by
  word_down m s =
      digit_without 64 l both m s (omega (arith, and_le_l h (2 ^ 64 - 1 - f), lh)) ∙ ap (λ (t : Bool). digit l m && not t) (digit_without 64 h f m s lf)

-- ---- radios written into a list

-- n entries stand in the list, and they and `rest` are the first `count` of old and `whole`
pub record ListingFrom (whole : List ℕ) (count : ℕ) (old rest : List ℕ) (n : ℕ) (list : List ℕ) : Type 0 where
  pub long : length list ≡ length old
  pub start : count ≤ length old
  pub inside : n ≤ length old
  pub is : take n list ++ rest ≡ take count old ++ whole

pub listing_none : (whole : List ℕ) (count : ℕ) (old : List ℕ) → count ≤ length old → ListingFrom whole count old whole count old
listing_none whole count old l = record { long = refl; start = l; inside = l; is = refl }

module _ {whole : List ℕ} {count : ℕ} {old rest : List ℕ} {n : ℕ} {list : List ℕ} where
  pub listing_one : (x : ℕ) (r : Bool) → n < length list → ListingFrom whole count old (cond r (x ∷ rest) rest) n list
      → ListingFrom whole count old rest (n + bool_byte r) (set list n x)
  listing_one x true l i = record {
    long = length-set list n x ∙ i.long;
    start = i.start;
    inside = omega (arith, l, i.long, byte_bit true);
    is =
        let m : n + bool_byte true ≡ suc n = omega (arith, byte_bit true) in
        rw (m, take-suc-set list n x l) (append_assoc (take n list) (x ∷ []) rest ∙ i.is);
  }
  listing_one x false l i = record {
    long = length-set list n x ∙ i.long;
    start = i.start;
    inside = omega (arith, l, i.long, byte_bit false);
    is = let m : n + bool_byte false ≡ n = omega (arith, byte_bit false) in rw (m, take-set-le n list n x (omega arith)) i.is;
  }

  counted : ListingFrom whole count old rest n list → n + length rest ≡ count + length whole
  counted i =
      omega (
        arith,
        ap length i.is,
        length-append (take n list) rest,
        length-append (take count old) whole,
        length-take-le n list (omega (arith, i.inside, i.long)),
        length-take-le count old i.start,
      )

  pub listing_full : ListingFrom whole count old rest n list → length list ≤ n → ListedFrom whole count old n list
  listing_full i l = record { inside = i.inside; is = λ h. absurd (omega (arith, h, l, i.long, counted i)) }

  pub listing_end : ListingFrom whole count old rest n list → rest ≡ [] → ListedFrom whole count old n list
  listing_end i e = record {
    inside = i.inside;
    is = λ h. (omega (arith, counted i, ap length e), sym (append-nil (take n list)) ∙ ap (λ (ys : List ℕ). take n list ++ ys) (sym e) ∙ i.is);
  }

-- the radios of a word that are above a
abbrev pub AboveListing : (a first word count : ℕ) → (old : List ℕ) → (rest n : ℕ) → (list : List ℕ) → Type 0
AboveListing a first word count old rest n list =
    (rest < 2 ^ 64) × ListingFrom (filter (ltb a) (set_bits 64 first word)) count old (filter (ltb a) (set_bits 64 first rest)) n list

module _ (a first word : ℕ) {count : ℕ} {old : List ℕ} (rest : ℕ) {n : ℕ} {list : List ℕ} (i : AboveListing a first word count old rest n list) where
  pub above_listing_turn : (rest ≡ 0 → ⊥) → n < length list
      → AboveListing a first word count old (bit_and rest (rest - 1)) (n + bool_byte (ltb a (first + count_trailing_zeros 64 rest)))
      (set list n (first + count_trailing_zeros 64 rest))
  unfolding filter
  above_listing_turn some l =
      let b : ℕ = first + count_trailing_zeros 64 rest in
      (word_less rest i.0, listing_one b (ltb a b) l (rw (word_lowest first rest i.0 some) at i.1))

  pub above_listing_end : rest ≡ 0 → ListedFrom (filter (ltb a) (set_bits 64 first word)) count old n list
  unfolding filter
  above_listing_end z = listing_end i.1 (ap (filter (ltb a)) (word_none first rest z))

-- ---- the words of a row

module _ (g : ℕ → Bool) (a : ℕ) where
  -- the radios above a that pass a test, from word k on
  abbrev from : ℕ → List ℕ
  from k = filter (ltb a) (filter g (range (64 * k) (max_radios - 64 * k)))

  -- `whole` has room in old, or nothing is said
  pub record WordsListing (whole old : List ℕ) (k n : ℕ) (list : List ℕ) : Type 0 where
    pub long : length list ≡ length old
    pub inside : n ≤ length old
    pub is : length whole < length old → take n list ++ from k ≡ whole

  pub words_listing_none : (old : List ℕ) (k : ℕ) → WordsListing (from k) old k 0 old
  words_listing_none old k = record { long = refl; inside = omega arith; is = λ h. refl }

  module _ {whole old : List ℕ} {k n : ℕ} {list : List ℕ} (i : WordsListing whole old k n list) where
    pub words_listing_turn : k < 8 → (w : ℕ) → ((m : ℕ) → m < 64 → digit w m ≡ g (64 * k + m)) → {r : ℕ} {new : List ℕ} → length new ≡ length list
        → ListedFrom (filter (ltb a) (set_bits 64 (64 * k) w)) n list r new → WordsListing whole old (k + 1) r new
    words_listing_turn l w tells {r} {new} e d = record {
      long = e ∙ i.long;
      inside = omega (arith, d.inside, i.long);
      is = λ h.
          let bits : List ℕ = filter (ltb a) (set_bits 64 (64 * k) w) in
          let split : from k ≡ bits ++ from (k + 1) =
          ap (filter (ltb a)) (words_from g k w l (λ m s. sym (tells m s))) ∙ filter_append (ltb a) (set_bits 64 (64 * k) w) _ in
          let fits : n + length bits < length list =
          omega (
            arith,
            h,
            i.long,
            i.inside,
            ap length (i.is h),
            length-append (take n list) (from k),
            ap length split,
            length-append bits (from (k + 1)),
            length-take-le n list (omega (arith, i.inside, i.long)),
          ) in
          ap (λ (ys : List ℕ). ys ++ from (k + 1)) (d.is fits).1
          ∙ append_assoc (take n list) bits (from (k + 1))
          ∙ ap (λ (ys : List ℕ). take n list ++ ys) (sym split)
          ∙ i.is h;
    }

    pub words_listing_end : 8 ≤ k → ListedFrom whole 0 old n list
    unfolding filter
    words_listing_end l = record {
      inside = i.inside;
      is = λ h.
          let none : from k ≡ [] = ap (filter (ltb a)) (words_end g k l) in
          let all_of : take n list ≡ whole =
          sym (append-nil (take n list)) ∙ ap (λ (ys : List ℕ). take n list ++ ys) (sym none) ∙ i.is (omega (arith, h)) in
          (omega (arith, ap length all_of, length-take-le n list (omega (arith, i.inside, i.long))), all_of);
    }

-- word k of three rows tells which links of the row are wanted
module _ (u : Bool) (hs ws ts : List ℕ) (bh : (j : ℕ) → get_or hs j 0 < 256) (bw : (j : ℕ) → get_or ws j 0 < 256) (bt : (j : ℕ) → get_or ts j 0 < 256)
    (a k : ℕ) (h w t r : ℕ) where
  pub row_tells : h ≡ row_word 8 hs (row_bytes * a + 8 * k) → w ≡ row_word 8 ws (row_bytes * a + 8 * k) → t ≡ row_word 8 ts (row_bytes * a + 8 * k)
      → ((m : ℕ) → m < 64 → digit r m ≡ wanted_by u (digit h m) (digit w m) (digit t m))
      → (m : ℕ) → m < 64 → digit r m ≡ wanted_in u hs ws ts a (64 * k + m)
  unfolding wanted_in
  row_tells eh ew et tells m l =
      tells m l ∙ rw (eh, ew, et, marked_word hs bh a k m l, marked_word ws bw a k m l, marked_word ts bt a k m l)

-- ---- the links of a row

module _ (u : Bool) (hs ws ts : List ℕ) (a n : ℕ) (sh : OfSize n hs) (sw : ws ≡ one_sided n hs) (w : within n ts ≡ true) (l : a < n) where
  abbrev higher : List ℕ
  higher = filter (wanted u hs ts a) (range (suc a) (n - suc a))

  -- what is heard and not one-sided is agreed
  wanted_is : (b : ℕ) → b < max_radios → wanted_in u hs ws ts a b ≡ wanted u hs ts a b
  unfolding wanted_in wanted_by wanted one_sided agreed heard_alone
  wanted_is b lb =
      ap (λ (x : Bool). cond u (x && not (marked ts a b)) (marked ts a b && not x)) agrees
    where
      go : (x y : Bool) → (x && not (x && not y)) ≡ (x && y)
      go true true = refl
      go true false = refl
      go false y = refl

      agrees : (marked hs a b && not (marked ws a b)) ≡ agreed hs a b
      agrees =
          ap (λ (x : Bool). marked hs a b && not x) (ap (λ (xs : List ℕ). marked xs a b) sw ∙ marked_bit_table n (heard_alone hs) a b l lb)
          ∙ go (marked hs a b) (marked hs b a)

  wanted_past : (b : ℕ) → n ≤ b → b < max_radios → wanted u hs ts a b ≡ false
  unfolding wanted
  wanted_past b m lb = go u
    where
      go : (x : Bool) → cond x (agreed hs a b && not (marked ts a b)) (marked ts a b && not (agreed hs a b)) ≡ false
      go true = rw (agreed_past n hs sh a b m (omega (arith, l, sh.most)))
      go false = rw (within_of n ts w a b l m lb)

  -- none up to a, none from n on
  above_is : above_from u hs ws ts a ≡ higher
  unfolding above_from
  above_is =
      let g : ℕ → Bool = wanted_in u hs ws ts a in
      let f : ℕ → Bool = λ b. g b && ltb a b in
      let s : ℕ = 64 * (a / 64) in
      let z : s + (suc a - s) ≡ suc a = omega arith in
      let y : suc a + (n - suc a) ≡ n = omega (arith, l) in
      let e : max_radios - s ≡ (suc a - s) + ((n - suc a) + (max_radios - n)) = omega (arith, l, sh.most) in
      let parts : range s (max_radios - s) ≡ range s (suc a - s) ++ (range (suc a) (n - suc a) ++ range n (max_radios - n)) =
      ap (range s) e ∙ range_append s (suc a - s) ((n - suc a) + (max_radios - n))
      ∙ rw z (ap (λ (ys : List ℕ). range s (suc a - s) ++ ys) (range_append (suc a) (n - suc a) (max_radios - n) ∙ rw y)) in
      let low : filter f (range s (suc a - s)) ≡ [] =
      filter_none f (range s (suc a - s)) (λ b m. nothing (g b) (le-ltb a b (omega (arith, range_in s (suc a - s) b m)))) in
      let mid : filter f (range (suc a) (n - suc a)) ≡ higher =
      filter_ext f (wanted u hs ts a) (range (suc a) (n - suc a)) (λ b m.
      let i = range_in (suc a) (n - suc a) b m in
      just (g b) (lt-ltb a b (omega (arith, i.0))) ∙ wanted_is b (omega (arith, i.1, l, sh.most))) in
      let high : filter f (range n (max_radios - n)) ≡ [] =
      filter_none f (range n (max_radios - n)) (λ b m.
      let i = range_in n (max_radios - n) b m in
      let lb : b < max_radios = omega (arith, i.1, sh.most) in
      ap (λ (x : Bool). x && ltb a b) (wanted_is b lb ∙ wanted_past b i.0 lb)) in
      filter_filter (ltb a) g (range s (max_radios - s))
      ∙ ap (filter f) parts
      ∙ filter_append f (range s (suc a - s)) (range (suc a) (n - suc a) ++ range n (max_radios - n))
      ∙ ap₂ {C = List ℕ} (λ xs ys. xs ++ ys) low (filter_append f (range (suc a) (n - suc a)) (range n (max_radios - n)) ∙ ap₂ {C = List ℕ}
      (λ xs ys. xs ++ ys) mid high)
      ∙ append-nil higher
    where
      nothing : (x : Bool) {y : Bool} → y ≡ false → (x && y) ≡ false
      nothing true e = e
      nothing false e = refl

      just : (x : Bool) {y : Bool} → y ≡ true → (x && y) ≡ x
      just true e = e
      just false e = refl

  pub wanted_front : (old new : List ℕ) (r : ℕ) → ListedFrom (above_from u hs ws ts a) 0 old r new → length higher < length old → IsPrefix higher r new
  wanted_front old new r d room =
      let o = d.is (omega (arith, room, ap length above_is)) in
      record { counted = omega (arith, o.0, ap length above_is); listed = o.1 ∙ above_is }

-- ---- the one-sided pairs

pub length_one_sided : (n : ℕ) (hs ws : List ℕ) → ws ≡ one_sided n hs → length ws ≡ row_bytes * n
unfolding one_sided
length_one_sided n hs ws e = ap length e ∙ length_bit_table n (heard_alone hs)
