-- A list of radios written entry by entry into a lent list, as a loop's invariant: what is left gives what the whole gives.
-- In order: a loop that stops when the list is full, a part of a list, the set bits of a word.
use Rattle.std.specs.Prelude.{◌≡◌, ◌∷◌, ◌++◌, ◌+◌, ◌-◌, ◌^◌, ◌≤◌, ◌<◌}
use Rattle.lists.{specs.Kit.{refl, sym, ap, ◌∙◌, List, [], append-nil, ℕ, min, arith, add-one, bit_and}}
use Rattle.lists.{specs.Kit.{count_trailing_zeros, length, set, take, drop, length-set, length-append, length-take, length-drop, sets, length-sets, take_all}}
use Rattle.lists.{specs.Kit.{drop-length, length-take-le}, specs.Lists.{overwrite}, proofs.Overwrite.{sets_append, sets_full, sets_min, sets_drop}}
use Rattle.lists.{proofs.Overwrite.{overwrite_part}}
use borrow.Rule.Slice.PartMut.{mid_of, post_of, put_mid, Post-is}
use Rattle.rows.specs.Rows.{set_bits}
use Rattle.rows.proofs.WordLaws.{word_lowest, word_less}

-- ---- a loop that stops when the list is full

-- n entries of list written so far and `rest` left come to `whole` from place `count` of old on, as far as old reaches
pub record PartialListing (whole : List ℕ) (count : ℕ) (old rest : List ℕ) (n : ℕ) (list : List ℕ) : Type 0 where
  pub long : length list ≡ length old
  pub inside : n ≤ length old
  pub most : n + length rest ≤ count + length whole
  pub counted : min (length old) (n + length rest) ≡ min (length old) (count + length whole)
  pub listed : sets list n rest ≡ sets old count whole

pub partial_none : (whole : List ℕ) (count : ℕ) (old : List ℕ) → count ≤ length old → PartialListing whole count old whole count old
partial_none whole count old h = record { long = refl; inside = h; most = omega arith; counted = refl; listed = refl }

module _ {whole : List ℕ} {count : ℕ} {old : List ℕ} where
  pub partial_one : (x : ℕ) (rest : List ℕ) (n : ℕ) (list : List ℕ) → n < length list → PartialListing whole count old (x ∷ rest) n list
      → PartialListing whole count old rest (n + 1) (set list n x)
  partial_one x rest n list l h = record {
    long = length-set list n x ∙ h.long;
    inside = omega arith;
    most = omega arith;
    counted = omega arith;
    listed = ap (λ (k : ℕ). sets (set list n x) k rest) (add-one n) ∙ h.listed;
  }

  pub partial_part : (xs rest : List ℕ) (n : ℕ) (list : List ℕ) → PartialListing whole count old (xs ++ rest) n list
      → PartialListing whole count old rest (min (length list) (n + length xs)) (sets list n xs)
  partial_part xs rest n list h =
      let same = length-sets list n xs in
      let both = length-append xs rest in record {
        long = same ∙ h.long;
        inside = omega arith;
        most = omega arith;
        counted = omega arith;
        listed =
            ap (λ (k : ℕ). sets (sets list n xs) (min k (n + length xs)) rest) (sym same)
            ∙ sets_min (sets list n xs) (n + length xs) rest
            ∙ sym (sets_append list n xs rest)
            ∙ h.listed;
      }

  -- nothing left, or no room left
  pub partial_end : (rest : List ℕ) (n : ℕ) (list : List ℕ) → rest ≡ [] → PartialListing whole count old rest n list
      → (n ≡ min (length old) (count + length whole)) × (list ≡ sets old count whole)
  partial_end rest n list e h = (omega (arith, h.counted, h.inside, ap length e), ap (sets list n) (sym e) ∙ h.listed)

  pub partial_full : (rest : List ℕ) (n : ℕ) (list : List ℕ) → length list ≤ n → PartialListing whole count old rest n list
      → (n ≡ min (length old) (count + length whole)) × (list ≡ sets old count whole)
  partial_full rest n list l h = (omega (arith, h.counted, h.inside, h.long), sym (sets_full list n rest l) ∙ h.listed)

-- ---- a part of a list

-- entries written into the part from place i on
pub put_rest : (list new xs : List ℕ) (i : ℕ) → i ≤ length list → new ≡ sets (mid_of i (length list - i) list) 0 xs
    → put_mid i (length list - i) list new ≡ sets list i xs
put_rest list new xs i h e =
    let whole = take_all (length list - i) (drop i list) (omega (arith, length-drop i list)) in
    let none : post_of i (length list - i) list ≡ [] = Post-is i (length list) list h ∙ drop-length list in
    ap (λ (z : List ℕ). take i list ++ z) (rw none (append-nil new) ∙ e ∙ ap (λ (z : List ℕ). sets z 0 xs) whole) ∙ sets_drop list i xs h

-- as many as fit its first k entries
pub put_front : (list new xs : List ℕ) (k : ℕ) → k ≤ length list → new ≡ overwrite (take (length (take k list)) xs) (take k list)
    → new ++ drop k list ≡ overwrite (take k xs) list
put_front list new xs k h e =
    ap (λ (z : List ℕ). z ++ drop k list) (e ∙ ap (λ (m : ℕ). overwrite (take m xs) (take k list)) (length-take-le k list h))
    ∙ overwrite_part (take k xs) list k (omega (arith, length-take k xs))

-- the same, with how many they are
pub front_part : (list new xs : List ℕ) (k n : ℕ) → k ≤ length list
    → (n ≡ min (length (take k list)) (length xs)) × (new ≡ overwrite (take (length (take k list)) xs) (take k list))
    → (n ≡ min k (length xs)) × (new ++ drop k list ≡ overwrite (take k xs) list)
front_part list new xs k n h e = (omega (arith, e.0, length-take-le k list h), put_front list new xs k h e.1)

-- nothing written
pub front_none : (list : List ℕ) (k : ℕ) → list ≡ overwrite (take k []) list
unfolding overwrite
front_none list k = rw (take_all {A = ℕ} k [] (omega arith))

-- ---- the set bits of a word, the lowest first

abbrev pub WordListing : (first word count : ℕ) → (old : List ℕ) → (rest n : ℕ) → (list : List ℕ) → Type 0
WordListing first word count old rest n list = (rest < 2 ^ 64) × PartialListing (set_bits 64 first word) count old (set_bits 64 first rest) n list

pub word_listing_turn : (first word count : ℕ) (old : List ℕ) (rest n : ℕ) (list : List ℕ) → (rest ≡ 0 → ⊥) → n < length list
    → WordListing first word count old rest n list
    → WordListing first word count old (bit_and rest (rest - 1)) (n + 1) (set list n (first + count_trailing_zeros 64 rest))
word_listing_turn first word count old rest n list some l h =
    (word_less rest h.0, partial_one _ _ n list l (rw (word_lowest first rest h.0 some) at h.1))
