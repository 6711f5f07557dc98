-- One step of each reading at a place of the text: what the parser's functions cite.
use Rattle.std.specs.Prelude.{◌≡◌, ◌⊎◌, ◌∷◌, ◌≤◌, ◌<◌, ◌-◌, ◌+◌, ◌*◌, Some, None}
use Rattle.lists.specs.{Kit.{refl, sym, ◌∙◌, inl, inr, Bool, true, false, cond, List, [], ℕ, suc, arith, add-one, leb, length, drop, get_or}}
use Rattle.lists.specs.{Kit.{drop_of_length-le, drop-cons, drop-drop, leb-true, le-leb, lt-leb, eq-eqb, ne_eqb}, Lists.{same}}
use Rattle.lists.proofs.Tests.{bool_cases, and_right}
use Rattle.text.specs.Text.{bytes_of, space, line_feed, digit_byte}
use Rattle.script.specs.{declared.lines.Line.TheVariants.{Radios, Up, Down, Bad}, Digits.{digit_of}, Lines.{is_digit, Read, got, none, digits_on}}
use Rattle.script.specs.{Lines.{number_of, ended, last_number_of, starts, radios_line, link_with, link_after, link_from, line_of}, Texts.{value_of, alone}}
use Rattle.script.specs.{Texts.{alone_of}}

-- ---- starts

module _ (w s : List ℕ) (i : ℕ) where
  pub starts_end : length w ≤ i → starts (drop i w) (drop i s) ≡ true
  unfolding starts
  starts_end h = rw (drop_of_length-le w h)

  pub starts_short : i < length w → length s ≤ i → starts (drop i w) (drop i s) ≡ false
  unfolding starts
  starts_short h k = rw (drop_of_length-le s k, drop-cons w i 0 h)

  pub starts_differ : i < length w → i < length s → (get_or w i 0 ≡ get_or s i 0 → ⊥) → starts (drop i w) (drop i s) ≡ false
  unfolding starts
  starts_differ h k d = rw (drop-cons w i 0 h, drop-cons s i 0 k, ne_eqb (get_or w i 0) (get_or s i 0) d)

  pub starts_step : i < length w → i < length s → get_or w i 0 ≡ get_or s i 0 → starts (drop i w) (drop i s) ≡ starts (drop (i + 1) w) (drop (i + 1) s)
  unfolding starts
  starts_step h k e = rw (drop-cons w i 0 h, drop-cons s i 0 k, eq-eqb (get_or w i 0) (get_or s i 0) e, add-one)

-- ---- digits

pub digit_below : (b : ℕ) → b < 48 → None ≡ digit_of b
unfolding digit_of is_digit digit_byte
digit_below b h = rw (lt-leb 48 b h)

pub digit_above : (b : ℕ) → 57 < b → None ≡ digit_of b
unfolding digit_of is_digit digit_byte
digit_above b h =
    let k : 48 ≤ b = omega arith in rw (le-leb 48 b k, lt-leb b 57 h)

pub digit_in : (b : ℕ) → 48 ≤ b → b ≤ 57 → Some (b - 48) ≡ digit_of b
unfolding digit_of is_digit digit_byte
digit_in b h k = rw (le-leb 48 b h, le-leb b 57 k)

module _ (b d : ℕ) where
  pub digit_is : Some d ≡ digit_of b → is_digit b ≡ true
  unfolding digit_of
  digit_is e = go (bool_cases (is_digit b))
    where
      go : (is_digit b ≡ true) ⊎ (is_digit b ≡ false) → is_digit b ≡ true
      go (inl h) = h
      go (inr h) = let z : Some d ≡ None = rw h at e in absurd (cc)

  pub digit_value : Some d ≡ digit_of b → d ≡ b - 48
  unfolding digit_of digit_byte
  digit_value e = let f : Some d ≡ Some (b - 48) = rw (digit_is e) at e in cc

  pub digit_small : Some d ≡ digit_of b → d < 10
  unfolding is_digit digit_byte
  digit_small e = omega (arith, digit_value e, leb-true b 57 (and_right (leb 48 b) (leb b 57) (digit_is e)))

pub digit_not : (b : ℕ) → None ≡ digit_of b → is_digit b ≡ false
unfolding digit_of
digit_not b e = go (bool_cases (is_digit b))
  where
    go : (is_digit b ≡ true) ⊎ (is_digit b ≡ false) → is_digit b ≡ false
    go (inl h) = let z : None ≡ Some (b - digit_byte 0) = rw h at e in absurd (cc)
    go (inr h) = h

pub digits_end : (s : List ℕ) (v i : ℕ) → length s ≤ i → digits_on v (drop i s) ≡ got v (drop (length s) s)
unfolding digits_on
digits_end s v i h = let l : length s ≤ length s = omega arith in rw (drop_of_length-le s h, drop_of_length-le s l)

-- the byte at i, and the digit d that it is
module _ (s : List ℕ) (v i : ℕ) (h : i < length s) where
  pub digits_other : None ≡ digit_of (get_or s i 0) → digits_on v (drop i s) ≡ got v (drop i s)
  unfolding digits_on
  digits_other e = rw (drop-cons s i 0 h, digit_not (get_or s i 0) e)

  module _ (d : ℕ) (e : Some d ≡ digit_of (get_or s i 0)) where
    digits_more : digits_on v (drop i s) ≡ cond (leb (10 * v + d) 65535) (digits_on (10 * v + d) (drop (i + 1) s)) none
    unfolding digits_on digit_byte
    digits_more = rw (drop-cons s i 0 h, digit_is (get_or s i 0) d e, ← (digit_value (get_or s i 0) d e), add-one)

    pub digits_large : 65535 < 10 * v + d → digits_on v (drop i s) ≡ none
    digits_large k = digits_more ∙ rw (lt-leb (10 * v + d) 65535 k)

    pub digits_step : 10 * v + d ≤ 65535 → digits_on v (drop i s) ≡ digits_on (10 * v + d) (drop (i + 1) s)
    digits_step k = digits_more ∙ rw (le-leb (10 * v + d) 65535 k)

-- ---- number_of

pub number_end : (s : List ℕ) (p : ℕ) → length s ≤ p → number_of (drop p s) ≡ none
unfolding number_of
number_end s p h = rw (drop_of_length-le s h)

-- the byte at p, and the digit d that it is
module _ (s : List ℕ) (p : ℕ) (h : p < length s) where
  pub number_zero : get_or s p 0 ≡ 48 → number_of (drop p s) ≡ got 0 (drop (p + 1) s)
  unfolding number_of digit_byte
  number_zero z = rw (drop-cons s p 0 h, eq-eqb (get_or s p 0) 48 z, add-one)

  module _ (z : get_or s p 0 ≡ 48 → ⊥) where
    pub number_other : None ≡ digit_of (get_or s p 0) → number_of (drop p s) ≡ none
    unfolding number_of digit_byte
    number_other e = rw (drop-cons s p 0 h, ne_eqb (get_or s p 0) 48 z, digit_not (get_or s p 0) e)

    pub number_digit : (d : ℕ) → Some d ≡ digit_of (get_or s p 0) → number_of (drop p s) ≡ digits_on d (drop (p + 1) s)
    unfolding number_of digit_byte
    number_digit d e =
        rw (drop-cons s p 0 h, ne_eqb (get_or s p 0) 48 z, digit_is (get_or s p 0) d e, ← (digit_value (get_or s p 0) d e), add-one)

-- ---- last_number_of

module _ (s : List ℕ) (e : ℕ) where
  pub end_past : length s ≤ e → same (drop e s) (line_feed ∷ []) ≡ false
  unfolding same
  end_past h = rw (drop_of_length-le s h)

  pub end_differ : e < length s → (get_or s e 0 ≡ 10 → ⊥) → same (drop e s) (line_feed ∷ []) ≡ false
  unfolding same
  end_differ h d = rw (drop-cons s e 0 h, ne_eqb (get_or s e 0) 10 d)

  pub end_long : e < length s → get_or s e 0 ≡ 10 → (length s - 1 ≡ e → ⊥) → same (drop e s) (line_feed ∷ []) ≡ false
  unfolding same
  end_long h d l =
      let k : suc e < length s = more (λ q. l (omega arith)) in
      rw (drop-cons s e 0 h, eq-eqb (get_or s e 0) 10 d, drop-cons s (suc e) 0 k)
    where
      more : (length s ≡ suc e → ⊥) → suc e < length s
      more n = omega arith

  pub end_is : e < length s → get_or s e 0 ≡ 10 → length s - 1 ≡ e → same (drop e s) (line_feed ∷ []) ≡ true
  unfolding same
  end_is h d l =
      let k : length s ≤ suc e = omega arith in
      rw (drop-cons s e 0 h, eq-eqb (get_or s e 0) 10 d, drop_of_length-le s k)

-- no number is at p
pub last_none : (s : List ℕ) (p : ℕ) → none ≡ number_of (drop p s) → None ≡ value_of (last_number_of (drop p s))
unfolding last_number_of ended
last_none s p e = rw (← e)

-- a number v is at p, and e is the place after it
module _ (s : List ℕ) (p v e : ℕ) (is : got v (drop e s) ≡ number_of (drop p s)) where
  pub last_other : same (drop e s) (line_feed ∷ []) ≡ false → None ≡ value_of (last_number_of (drop p s))
  unfolding last_number_of ended
  last_other k = rw (← is, k)

  pub last_is : same (drop e s) (line_feed ∷ []) ≡ true → Some v ≡ value_of (last_number_of (drop p s))
  unfolding last_number_of ended
  last_is k = rw (← is, k)

-- ---- alone_of

pub alone_none : (s : List ℕ) → none ≡ number_of s → None ≡ value_of (alone_of s)
unfolding alone_of alone
alone_none s e = rw (← e)

-- a number v is at the front, and e is the place after it
module _ (s : List ℕ) (v e : ℕ) (is : got v (drop e s) ≡ number_of s) where
  pub alone_other : e < length s → None ≡ value_of (alone_of s)
  unfolding alone_of alone same
  alone_other l = rw (← is, drop-cons s e 0 l)

  pub alone_is : length s ≤ e → Some v ≡ value_of (alone_of s)
  unfolding alone_of alone same
  alone_is l = rw (← is, drop_of_length-le s l)

-- ---- link_of

module _ (s : List ℕ) (q : ℕ) where
  pub space_past : length s ≤ q → starts (space ∷ []) (drop q s) ≡ false
  unfolding starts
  space_past h = rw (drop_of_length-le s h)

  pub space_differ : q < length s → (get_or s q 0 ≡ 32 → ⊥) → starts (space ∷ []) (drop q s) ≡ false
  unfolding starts
  space_differ h d = rw (drop-cons s q 0 h, ne_eqb 32 (get_or s q 0) (λ e. d (sym e)))

  pub space_is : q < length s → get_or s q 0 ≡ 32 → starts (space ∷ []) (drop q s) ≡ true
  unfolding starts
  space_is h d = rw (drop-cons s q 0 h, eq-eqb 32 (get_or s q 0) (sym d))

pub link_none : (up : Bool) (s : List ℕ) (p : ℕ) → none ≡ number_of (drop p s) → Bad ≡ link_from up (drop p s)
unfolding link_from link_after
link_none up s p e = rw (← e)

-- a is the first number, and q the place after it
module _ (up : Bool) (s : List ℕ) (p a q : ℕ) (e : got a (drop q s) ≡ number_of (drop p s)) where
  pub link_gap : starts (space ∷ []) (drop q s) ≡ false → Bad ≡ link_from up (drop p s)
  unfolding link_from link_after
  link_gap k = rw (← e, k)

  module _ (k : starts (space ∷ []) (drop q s) ≡ true) where
    link_second : link_with up a (last_number_of (drop (q + 1) s)) ≡ link_from up (drop p s)
    unfolding link_from link_after
    link_second = rw (← e, k, drop-drop 1 q s)

    -- the second number, or none
    pub link_one : None ≡ value_of (last_number_of (drop (q + 1) s)) → Bad ≡ link_from up (drop p s)
    unfolding link_with
    link_one f = go (last_number_of (drop (q + 1) s)) f ∙ link_second
      where
        go : (r : Read) → None ≡ value_of r → Bad ≡ link_with up a r
        go none g = refl
        go (got v rest) g = absurd (cc)

    -- t is the value of up
    pub link_both : (b : ℕ) → Some b ≡ value_of (last_number_of (drop (q + 1) s)) → (t : Bool) → up ≡ t → cond t (Up a b) (Down a b) ≡ link_from up (drop p s)
    unfolding link_with
    link_both b f t u = go (last_number_of (drop (q + 1) s)) f ∙ link_second
      where
        go : (r : Read) → Some b ≡ value_of r → cond t (Up a b) (Down a b) ≡ link_with up a r
        go none g = absurd (cc)
        go (got v rest) g = let h : b ≡ v = cc in rw (h, u)

-- ---- line_of

module _ (s : List ℕ) where
  pub line_up : starts (bytes_of "up ") s ≡ true → link_from true (drop 3 s) ≡ line_of s
  unfolding line_of
  line_up h = rw h

  module _ (h : starts (bytes_of "up ") s ≡ false) where
    pub line_down : starts (bytes_of "down ") s ≡ true → link_from false (drop 5 s) ≡ line_of s
    unfolding line_of
    line_down k = rw (h, k)

    module _ (k : starts (bytes_of "down ") s ≡ false) where
      pub line_other : starts (bytes_of "radios ") s ≡ false → Bad ≡ line_of s
      unfolding line_of
      line_other l = rw (h, k, l)

      module _ (l : starts (bytes_of "radios ") s ≡ true) where
        line_number : (r : Read) → r ≡ last_number_of (drop 7 s) → radios_line r ≡ line_of s
        unfolding line_of
        line_number r e = rw (h, k, l, e)

        pub line_no_number : None ≡ value_of (last_number_of (drop 7 s)) → Bad ≡ line_of s
        unfolding radios_line
        line_no_number f = go (last_number_of (drop 7 s)) f ∙ line_number _ refl
          where
            go : (r : Read) → None ≡ value_of r → Bad ≡ radios_line r
            go none g = refl
            go (got v rest) g = absurd (cc)

        pub line_radios : (n : ℕ) → Some n ≡ value_of (last_number_of (drop 7 s)) → Radios n ≡ line_of s
        unfolding radios_line
        line_radios n f = go (last_number_of (drop 7 s)) f ∙ line_number _ refl
          where
            go : (r : Read) → Some n ≡ value_of r → Radios n ≡ radios_line r
            go none g = absurd (cc)
            go (got v rest) g = let e : n ≡ v = cc in rw e
