-- What is left of a list decides as the whole does: laws of one step for each loop that passes over a list.
use Rattle.std.specs.Prelude.{◌≡◌, ◌⊎◌, ◌&&◌, ◌||◌, ◌∷◌, ◌+◌, ◌-◌, ◌≤◌, ◌<◌}
use Rattle.lists.{specs.Kit.{refl, sym, ap, ap₂, ◌∙◌, inl, inr, Bool, true, false, or-false, and-true, and_assoc, List, [], ℕ, zero}}
use Rattle.lists.{specs.Kit.{suc, arith, ltb, leb, eqb, length, get_or, take, drop, length-drop, drop_of_length-le, drop-cons, take_all}}
use Rattle.lists.{specs.Kit.{bit_or, or_zero_l, or_add_and, and_le_r, eqb-true, eqb-false, ltb-true, lt-ltb, le-ltb, eq-eqb, ne_eqb, le-leb, lt-leb}}
use Rattle.lists.{specs.Lists.{all}, proofs.Tests.{iff_eq, or_right, bool_cases, and_both}}
use Rattle.mesh.specs.Marks.{is_alphanumeric, alphanumerics_then_spaces, is_zeros, before}

next : (i : ℕ) → suc i ≡ i + 1
next i = omega arith

-- ---- all

pub all_pass : (f : ℕ → Bool) (bs : List ℕ) (i : ℕ) → all f bs ≡ all f (drop i bs) → i < length bs → f (get_or bs i 0) ≡ true → all f bs ≡ all f (drop (i + 1) bs)
unfolding all
all_pass f bs i e l h =
    e ∙ ap (all f) (drop-cons bs i 0 l) ∙ ap (λ (t : Bool). t && all f (drop (suc i) bs)) h ∙ ap (λ (k : ℕ). all f (drop k bs)) (next i)

pub all_stop : (f : ℕ → Bool) (bs : List ℕ) (i : ℕ) → all f bs ≡ all f (drop i bs) → i < length bs → f (get_or bs i 0) ≡ false → all f bs ≡ false
unfolding all
all_stop f bs i e l h = e ∙ ap (all f) (drop-cons bs i 0 l) ∙ ap (λ (t : Bool). t && all f (drop (suc i) bs)) h

pub all_end : (f : ℕ → Bool) (bs : List ℕ) (i : ℕ) → all f bs ≡ all f (drop i bs) → length bs ≤ i → all f bs ≡ true
unfolding all
all_end f bs i e l = e ∙ ap (all f) (drop_of_length-le bs l)

-- ---- A to Z and 0 to 9, then spaces

padded_more : (c : ℕ) (cs : List ℕ) → is_alphanumeric c ≡ true → alphanumerics_then_spaces (c ∷ cs) ≡ alphanumerics_then_spaces cs
unfolding alphanumerics_then_spaces
padded_more c cs h = rw h

padded_other : (c : ℕ) (cs : List ℕ) → is_alphanumeric c ≡ false → alphanumerics_then_spaces (c ∷ cs) ≡ all (λ (d : ℕ). eqb d 32) (c ∷ cs)
unfolding alphanumerics_then_spaces
padded_other c cs h = rw h

pub padded_pass : (bs : List ℕ) (i : ℕ) → alphanumerics_then_spaces bs ≡ alphanumerics_then_spaces (drop i bs) → i < length bs → is_alphanumeric (get_or bs i 0) ≡
    true
    → alphanumerics_then_spaces bs ≡ alphanumerics_then_spaces (drop (i + 1) bs)
padded_pass bs i e l h =
    e ∙ ap alphanumerics_then_spaces (drop-cons bs i 0 l) ∙ padded_more (get_or bs i 0) (drop (suc i) bs) h
    ∙ ap (λ (k : ℕ). alphanumerics_then_spaces (drop k bs)) (next i)

pub padded_stop : (bs : List ℕ) (i : ℕ) → alphanumerics_then_spaces bs ≡ alphanumerics_then_spaces (drop i bs) → i < length bs → is_alphanumeric (get_or bs i 0) ≡
    false
    → alphanumerics_then_spaces bs ≡ all (λ (d : ℕ). eqb d 32) (drop i bs)
padded_stop bs i e l h =
    e ∙ ap alphanumerics_then_spaces (drop-cons bs i 0 l) ∙ padded_other (get_or bs i 0) (drop (suc i) bs) h
    ∙ ap (all (λ (d : ℕ). eqb d 32)) (sym (drop-cons bs i 0 l))

pub padded_end : (bs : List ℕ) (i : ℕ) → alphanumerics_then_spaces bs ≡ alphanumerics_then_spaces (drop i bs) → length bs ≤ i → alphanumerics_then_spaces bs ≡
    true
unfolding alphanumerics_then_spaces
padded_end bs i e l = e ∙ ap alphanumerics_then_spaces (drop_of_length-le bs l)

-- ---- before

pub before_step : (x y : List ℕ) (i : ℕ) → before x y ≡ before (drop i x) (drop i y) → i < length x → i < length y
    → before x y ≡ (ltb (get_or x i 0) (get_or y i 0) || (eqb (get_or x i 0) (get_or y i 0) && before (drop (suc i) x) (drop (suc i) y)))
unfolding before
before_step x y i e l m = e ∙ ap₂ before (drop-cons x i 0 l) (drop-cons y i 0 m)

pub before_short : (x y : List ℕ) (i : ℕ) → before x y ≡ before (drop i x) (drop i y) → length y ≤ i → before x y ≡ false
unfolding before
before_short x y i e m = e ∙ ap (before (drop i x)) (drop_of_length-le y m)

ltb_suc : (a b : ℕ) → ltb a b ≡ ltb (suc a) (suc b)
ltb_suc a b =
    iff_eq (ltb a b) (ltb (suc a) (suc b)) (λ h. lt-ltb (suc a) (suc b) (omega (arith, ltb-true a b h)))
    (λ h. lt-ltb a b (omega (arith, ltb-true (suc a) (suc b) h)))

before_nothing : (j : ℕ) (z : List ℕ) → before [] (drop j z) ≡ ltb j (length z)
unfolding before
before_nothing zero [] = sym (le-ltb 0 0 (omega arith))
before_nothing zero (b ∷ z) = sym (lt-ltb 0 (suc (length z)) (omega arith))
before_nothing (suc j) [] = sym (le-ltb (suc j) 0 (omega arith))
before_nothing (suc j) (b ∷ z) = before_nothing j z ∙ ltb_suc j (length z)

pub before_end : (x y : List ℕ) (i : ℕ) → before x y ≡ before (drop i x) (drop i y) → length x ≤ i → before x y ≡ ltb i (length y)
before_end x y i e l = e ∙ ap (λ (z : List ℕ). before z (drop i y)) (drop_of_length-le x l) ∙ before_nothing i y

pub before_less : (x y : List ℕ) (i : ℕ) → before x y ≡ before (drop i x) (drop i y) → i < length x → i < length y → get_or x i 0 < get_or y i 0 → before x y ≡ true
before_less x y i e l m h = before_step x y i e l m ∙ ap (λ (t : Bool). t || (eqb (get_or x i 0) (get_or y i 0) && before (drop (suc i) x) (drop (suc i) y)))
    (lt-ltb (get_or x i 0) (get_or y i 0) h)

pub before_more : (x y : List ℕ) (i : ℕ) → before x y ≡ before (drop i x) (drop i y) → i < length x → i < length y → get_or y i 0 ≤ get_or x i 0 →
    (get_or x i 0 ≡ get_or y i 0 → ⊥) → before x y ≡ false
before_more x y i e l m h d =
    before_step x y i e l m
    ∙ ap₂ {C = Bool} (λ s t. s || (t && before (drop (suc i) x) (drop (suc i) y))) (le-ltb (get_or x i 0) (get_or y i 0) h) (ne_eqb (get_or x i 0) (get_or y i 0) d)

pub before_pass : (x y : List ℕ) (i : ℕ) → before x y ≡ before (drop i x) (drop i y) → i < length x → i < length y → get_or y i 0 ≤ get_or x i 0 → get_or x i 0 ≡ get_or
    y i 0 → before x y ≡ before (drop (i + 1) x) (drop (i + 1) y)
before_pass x y i e l m h d =
    before_step x y i e l m
    ∙ ap₂ {C = Bool} (λ s t. s || (t && before (drop (suc i) x) (drop (suc i) y))) (le-ltb (get_or x i 0) (get_or y i 0) h) (eq-eqb (get_or x i 0) (get_or y i 0) d)
    ∙ ap (λ (k : ℕ). before (drop k x) (drop k y)) (next i)

-- ---- one of A to Z and 0 to 9

pub alphanumeric_low : (c : ℕ) → c < 48 → is_alphanumeric c ≡ false
unfolding is_alphanumeric
alphanumeric_low c h = rw (lt-leb 48 c h, lt-leb 65 c (omega arith))

pub alphanumeric_digit : (c : ℕ) → 48 ≤ c → c ≤ 57 → is_alphanumeric c ≡ true
unfolding is_alphanumeric
alphanumeric_digit c h k = rw (le-leb 48 c h, le-leb c 57 k) (or_right (leb 65 c && leb c 90) true refl)

pub alphanumeric_gap : (c : ℕ) → 57 < c → c < 65 → is_alphanumeric c ≡ false
unfolding is_alphanumeric
alphanumeric_gap c h k = rw (lt-leb 65 c k, lt-leb c 57 h, le-leb 48 c (omega arith))

pub alphanumeric_high : (c : ℕ) → 57 < c → 65 ≤ c → leb c 90 ≡ is_alphanumeric c
unfolding is_alphanumeric
alphanumeric_high c h k = rw (le-leb 65 c k, lt-leb c 57 h, le-leb 48 c (omega arith)) (sym (or-false (leb c 90)))

-- ---- bytes joined by `|`

-- joined they are zero exactly if all are
or_zero : (a b : ℕ) → eqb (bit_or a b) 0 ≡ (eqb a 0 && eqb b 0)
or_zero a b = go (bool_cases (eqb a 0)) (bool_cases (eqb b 0))
  where
    go : (eqb a 0 ≡ true) ⊎ (eqb a 0 ≡ false) → (eqb b 0 ≡ true) ⊎ (eqb b 0 ≡ false) → eqb (bit_or a b) 0 ≡ (eqb a 0 && eqb b 0)
    go (inl p) (inl q) = ap (λ (x : ℕ). eqb x 0) (ap₂ bit_or (eqb-true a 0 p) (eqb-true b 0 q) ∙ or_zero_l 0) ∙ sym (and_both (eqb a 0) (eqb b 0) p q)
    go (inl p) (inr q) = ap (λ (x : ℕ). eqb x 0) (ap (λ (x : ℕ). bit_or x b) (eqb-true a 0 p) ∙ or_zero_l b) ∙ sym (ap (λ (t : Bool). t && eqb b 0) p)
    go (inr p) q =
        ne_eqb (bit_or a b) 0 (λ e. eqb-false a 0 p (omega (arith, e, or_add_and a b, and_le_r a b))) ∙ sym (ap (λ (t : Bool). t && eqb b 0) p)

-- the first i bytes are joined
abbrev pub Joining : (bytes : List ℕ) → (joined i : ℕ) → Type 0
Joining bs x i = is_zeros bs ≡ (eqb x 0 && is_zeros (drop i bs))

pub joining_turn : (bs : List ℕ) (x i : ℕ) → Joining bs x i → i < length bs → Joining bs (bit_or x (get_or bs i 0)) (i + 1)
unfolding is_zeros all
joining_turn bs x i e l =
    e ∙ ap (λ (ys : List ℕ). eqb x 0 && is_zeros ys) (drop-cons bs i 0 l) ∙ sym (and_assoc (eqb x 0) (eqb (get_or bs i 0) 0) (is_zeros (drop (suc i) bs)))
    ∙ ap₂ {C = Bool} (λ t k. t && is_zeros (drop k bs)) (sym (or_zero x (get_or bs i 0))) (next i)

pub joining_end : (bs : List ℕ) (x i : ℕ) → Joining bs x i → length bs ≤ i → eqb x 0 ≡ is_zeros bs
unfolding is_zeros all
joining_end bs x i e l = sym (e ∙ ap (λ (ys : List ℕ). eqb x 0 && is_zeros ys) (drop_of_length-le bs l) ∙ and-true (eqb x 0))

pub first_nonzero : (bs : List ℕ) → 0 < length bs → (get_or bs 0 0 ≡ 0 → ⊥) → is_zeros bs ≡ false
unfolding is_zeros all
first_nonzero [] l h = absurd (omega arith)
first_nonzero (b ∷ bs) l h = rw (ne_eqb b 0 h)

-- ---- parts

-- the rest of a list as a part of it
pub rest_part : (bs : List ℕ) (i : ℕ) → take (length bs - i) (drop i bs) ≡ drop i bs
rest_part bs i = take_all (length bs - i) (drop i bs) (omega (arith, length-drop i bs))
