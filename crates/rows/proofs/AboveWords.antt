-- The radios above a row's own: what is left of its word when the bits up to its own are shifted out, and the words after it.
use Rattle.std.specs.Prelude.{◌≡◌, ◌⊎◌, ◌++◌, ◌+◌, ◌*◌, ◌-◌, ◌/◌, ◌%◌, ◌^◌, ◌≤◌, ◌<◌}
use Rattle.lists.{specs.Kit.{refl, sym, ap, ap₂, ◌∙◌, inl, inr, true, false, List, [], ℕ, zero, suc}}
use Rattle.lists.{specs.Kit.{min, arith, pow-succ', ltb, leb, eqb, length, get_or, take, sets, lt-ltb, le-ltb, leb-true, leb-false}}
use Rattle.lists.{specs.Lists.{range, filter}}
use Rattle.lists.{specs.Lists.{overwrite}, proofs.Tests.{bool_cases}, proofs.Range.{range_in, range_append}, proofs.Filter.{in_filter, filter_append}}
use Rattle.lists.{proofs.Filter.{filter_none, filter_all}}
use lib.{Arith.{lt-one}, Pow.{shr-shr, shr_lt}}
use Rattle.mesh.specs.{Limits.{max_radios, row_bytes}, Tables.{digit, marked}}
use Rattle.rows.specs.Rows.{neighbours_of, row_listed, neighbours_above, row_from, set_bits, row_word}
use Rattle.rows.proofs.{Listing.{partial_none, partial_part}, RowWords.{marked_word, row_listed_whole, row_listed_short, front_listed}}
use Rattle.rows.proofs.{WordLaws.{set_bits_nothing, set_bits_filter, word_at_less}}

-- ---- a word whose higher bits are zero

set_bits_low : (d e i w : ℕ) → w < 2 ^ d → set_bits (d + e) i w ≡ set_bits d i w
unfolding set_bits
set_bits_low zero e i w h = ap (set_bits (0 + e) i) (lt-one h) ∙ set_bits_nothing (0 + e) i
set_bits_low (suc d) e i w h =
    let k : suc d + e ≡ suc (d + e) = omega arith in
    rw (k, set_bits_low d e (suc i) (w / 2) (omega (arith, pow-succ' 2 d)))

digit_shifted : (w p j : ℕ) → digit (w / 2 ^ p) j ≡ digit w (p + j)
unfolding digit
digit_shifted w p j = ap (λ (x : ℕ). eqb (x % 2) 1) (shr-shr w p j)

-- ---- the radios above a

pub above_short : (ts : List ℕ) (a : ℕ) → length ts < row_bytes * a + row_bytes → neighbours_above ts a ≡ []
unfolding neighbours_above filter
above_short ts a h = rw (row_listed_short ts a h)

pub above_past : (ts : List ℕ) (a : ℕ) → max_radios ≤ a → neighbours_above ts a ≡ []
unfolding neighbours_above neighbours_of
above_past ts a h = go (bool_cases (leb (row_bytes * a + row_bytes) (length ts)))
  where
    go : (leb (row_bytes * a + row_bytes) (length ts) ≡ true) ⊎ (leb (row_bytes * a + row_bytes) (length ts) ≡ false) → neighbours_above ts a ≡ []
    go (inl e) =
        ap (filter (ltb a)) (row_listed_whole ts a (leb-true (row_bytes * a + row_bytes) (length ts) e))
        ∙ filter_none (ltb a) (neighbours_of ts a)
        (λ b m. le-ltb a b (omega (arith, range_in 0 max_radios b (in_filter (λ b. marked ts a b) (range 0 max_radios) b m).0)))
    go (inr e) = above_short ts a (leb-false (row_bytes * a + row_bytes) (length ts) e)

module _ (ts : List ℕ) (a : ℕ) (small : a < max_radios) (whole : row_bytes * a + row_bytes ≤ length ts) where
  above_whole : neighbours_above ts a ≡ filter (λ b. marked ts a b) (range (a + 1) (max_radios - (a + 1)))
  unfolding neighbours_above neighbours_of
  above_whole =
      let lower : List ℕ = filter (λ b. marked ts a b) (range 0 (a + 1)) in
      let higher : List ℕ = filter (λ b. marked ts a b) (range (a + 1) (max_radios - (a + 1))) in
      let k : max_radios ≡ a + 1 + (max_radios - (a + 1)) = omega arith in
      let z : 0 + (a + 1) ≡ a + 1 = omega arith in
      let row : row_listed ts a ≡ lower ++ higher =
      row_listed_whole ts a whole ∙ ap (λ (m : ℕ). filter (λ b. marked ts a b) (range 0 m)) k
      ∙ ap (filter (λ b. marked ts a b)) (range_append 0 (a + 1) (max_radios - (a + 1)) ∙ rw z refl)
      ∙ filter_append (λ b. marked ts a b) (range 0 (a + 1)) (range (a + 1) (max_radios - (a + 1))) in
      let none : filter (ltb a) lower ≡ [] =
      filter_none (ltb a) lower (λ b m. le-ltb a b (omega (arith, range_in 0 (a + 1) b (in_filter (λ b. marked ts a b) (range 0 (a + 1)) b m).0))) in
      let all_above : filter (ltb a) higher ≡ higher =
      filter_all (ltb a) higher
      (λ b m. lt-ltb a b (omega (
        arith,
        range_in (a + 1) (max_radios - (a + 1)) b
            (in_filter (λ b. marked ts a b) (range (a + 1) (max_radios - (a + 1))) b m).0,
      ))) in
      ap (filter (ltb a)) row ∙ filter_append (ltb a) lower higher ∙ ap₂ {C = List ℕ} (λ xs ys. xs ++ ys) none all_above

  pub above_words : ((j : ℕ) → get_or ts j 0 < 256) → (w x : ℕ) → w ≡ row_word 8 ts (row_bytes * a + 8 * (a / 64)) → x ≡ w / 2 ^ (a % 64) / 2 ^ 1
      → neighbours_above ts a ≡ set_bits 64 (a + 1) x ++ row_from ts a (a / 64 + 1)
  unfolding row_from
  above_words bytes w x e f =
      let k : ℕ = a / 64 in
      let p : ℕ = a % 64 + 1 in
      let d : ℕ = 63 - a % 64 in
      let is : x ≡ w / 2 ^ p = f ∙ shr-shr w (a % 64) 1 in
      let all_bits : 64 ≡ d + p = omega arith in
      let low : w < 2 ^ (d + p) = rw (← all_bits) (omega (arith, word_at_less ts bytes (row_bytes * a + 8 * k) 8)) in
      let less : x < 2 ^ d = rw is (shr_lt d p low) in
      let parts : max_radios - (a + 1) ≡ d + (max_radios - 64 * (k + 1)) = omega arith in
      let next : a + 1 + d ≡ 64 * (k + 1) = omega arith in
      let bits : set_bits 64 (a + 1) x ≡ filter (λ b. marked ts a b) (range (a + 1) d) =
      ap (λ (m : ℕ). set_bits m (a + 1) x) all_bits ∙ set_bits_low d p (a + 1) x less
      ∙ set_bits_filter d (a + 1) x (λ b. marked ts a b) (λ j l.
      let here : a + 1 + j ≡ 64 * k + (p + j) = omega arith in
      ap (marked ts a) here ∙ marked_word ts bytes a k (p + j) (omega arith) ∙ ap (λ (y : ℕ). digit y (p + j)) (sym e)
      ∙ sym (digit_shifted w p j) ∙ ap (λ (y : ℕ). digit y j) (sym is)) in
      above_whole
      ∙ rw (
        parts,
        range_append (a + 1) d (max_radios - 64 * (k + 1)),
        next,
        filter_append (λ b. marked ts a b) (range (a + 1) d)
            (range (64 * (k + 1)) (max_radios - 64 * (k + 1))),
        bits,
      ) refl

-- ---- written in two goes

pub two_listed : (xs ys zs old first list : List ℕ) (n r : ℕ) → zs ≡ xs ++ ys → n ≡ min (length old) (0 + length xs) → first ≡ sets old 0 xs
    → r ≡ min (length first) (n + length ys) → list ≡ sets first n ys → (r ≡ min (length old) (length zs)) × (list ≡ overwrite (take (length old) zs) old)
two_listed xs ys zs old first list n r e f g h i =
    let half = rw (← g, ← f) at (partial_part xs ys 0 old (partial_none (xs ++ ys) 0 old (omega arith))) in
    front_listed (xs ++ ys) zs old list r (sym e) (omega (arith, h, half.long, half.counted)) (i ∙ half.listed)
