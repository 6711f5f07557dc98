-- The first line: where its end is found, byte by byte.
use Rattle.std.specs.Prelude.{Option, ◌≡◌, ◌∷◌, ◌+◌, ◌-◌, ◌≤◌, ◌<◌}
use Rattle.lists.specs.Kit.{refl, sym, ap, ◌∙◌, cond, List, [], ℕ, zero, suc, arith, add-one, eqb, length, take, drop, get_or}
use Rattle.lists.specs.Kit.{drop_of_length-le, drop-cons, eq-eqb, ne_eqb, lt-ltb, le-ltb}
use Rattle.text.specs.Text.{line_feed}
use Rattle.site_program.specs.declared.refusals.{Fault.{Fault}, Fault.TheVariants.{Form, NoFeed}}
use Rattle.site_program.specs.Course.{further, first_end, first_room, named_radios, line_room, form_of, first_fault}
use Rattle.player.specs.{First.{some_radios}, Play.{radios_of}}

-- ---- places

further_some : (k p : ℕ) → 0 < p → further k p ≡ p + k
unfolding further
further_some k zero h = absurd (omega arith)
further_some k (suc p) h = refl

further_none : (k : ℕ) → further k 0 ≡ 0
unfolding further
further_none k = refl

further_here : (p : ℕ) → further 0 p ≡ p
unfolding further
further_here zero = refl
further_here (suc p) = omega arith

further_more : (k p : ℕ) → further k (further 1 p) ≡ further (k + 1) p
unfolding further
further_more k zero = refl
further_more k (suc p) = further_some k (suc p + 1) (omega arith) ∙ omega arith

-- ---- the bytes looked at

first_end_empty : (m : ℕ) → first_end m [] ≡ 0
unfolding first_end
first_end_empty zero = refl
first_end_empty (suc m) = refl

first_end_zero : (s : List ℕ) → first_end 0 s ≡ 0
unfolding first_end
first_end_zero s = refl

-- the byte at place i, and those after it
first_end_next : (m i : ℕ) (s : List ℕ) → i < m → i < length s
    → first_end (m - i) (drop i s) ≡ cond (eqb (get_or s i 0) line_feed) 1 (further 1 (first_end (m - (i + 1)) (drop (i + 1) s)))
unfolding first_end
first_end_next m i s h k =
    let left : m - i ≡ suc (m - (i + 1)) = omega arith in
    let bytes : drop i s ≡ get_or s i 0 ∷ drop (i + 1) s = drop-cons s i 0 k ∙ ap (λ (j : ℕ). get_or s i 0 ∷ drop j s) (sym (add-one i)) in
    ap (λ (j : ℕ). first_end j (drop i s)) left ∙ ap (first_end (suc (m - (i + 1)))) bytes

-- none of the first i bytes is a line feed: what is left gives what the whole gives
pub record Looked (m i : ℕ) (s : List ℕ) : Type 0 where
  pub low : i ≤ m
  pub left : first_end m s ≡ further i (first_end (m - i) (drop i s))

pub looked_none : (m : ℕ) (s : List ℕ) → Looked m 0 s
looked_none m s =
    let all : m - 0 ≡ m = omega arith in
    record { low = omega arith; left = sym (further_here (first_end (m - 0) s) ∙ ap (λ (j : ℕ). first_end j s) all) }

module _ (m i : ℕ) (s : List ℕ) (so : Looked m i s) where
  pub looked_out : length s ≤ i → 0 ≡ first_end m s
  looked_out h =
      let none : first_end (m - i) (drop i s) ≡ 0 = ap (first_end (m - i)) (drop_of_length-le s h) ∙ first_end_empty (m - i) in
      sym (so.left ∙ ap (further i) none ∙ further_none i)

  pub looked_all : m ≤ i → 0 ≡ first_end m s
  looked_all h =
      let left : m - i ≡ 0 = omega arith in
      let none : first_end (m - i) (drop i s) ≡ 0 = ap (λ (j : ℕ). first_end j (drop i s)) left ∙ first_end_zero (drop i s) in
      sym (so.left ∙ ap (further i) none ∙ further_none i)

  module _ (low : i < m) (long : i < length s) where
    pub looked_found : get_or s i 0 ≡ line_feed → i + 1 ≡ first_end m s
    looked_found e =
        let rest = further 1 (first_end (m - (i + 1)) (drop (i + 1) s)) in
        let one : first_end (m - i) (drop i s) ≡ 1 =
        first_end_next m i s low long ∙ ap (λ b. cond b 1 rest) (eq-eqb (get_or s i 0) line_feed e) in
        let place : further i 1 ≡ 1 + i = further_some i 1 (omega arith) in
        sym (so.left ∙ ap (further i) one ∙ place ∙ omega arith)

    pub looked_more : (get_or s i 0 ≡ line_feed → ⊥) → Looked m (i + 1) s
    looked_more f =
        let rest = first_end (m - (i + 1)) (drop (i + 1) s) in
        let next : first_end (m - i) (drop i s) ≡ further 1 rest =
        first_end_next m i s low long ∙ ap (λ b. cond b 1 (further 1 rest)) (ne_eqb (get_or s i 0) line_feed f) in
        record { low = omega arith; left = so.left ∙ ap (further i) next ∙ further_more i rest }

-- ---- the first line

pub named_is : (s : List ℕ) (end : ℕ) (q : Option ℕ) → end ≡ first_end first_room s
    → q ≡ some_radios (radios_of (take end s)) → q ≡ some_radios (named_radios s)
unfolding named_radios
named_is s end q is e = e ∙ ap (λ (j : ℕ). some_radios (radios_of (take j s))) is

-- what is wrong with it

module _ (s : List ℕ) (end : ℕ) (is : end ≡ first_end line_room s) where
  pub fault_line : (q : Fault) → (end ≡ 0 → ⊥) → q ≡ form_of (take end s) → q ≡ first_fault s
  unfolding first_fault
  fault_line q h e = rw (← is, ne_eqb end 0 h) e

  pub fault_open : end ≡ 0 → length s < line_room → NoFeed ≡ first_fault s
  unfolding first_fault
  fault_open h k = rw (← is, eq-eqb end 0 h, lt-ltb (length s) line_room k)

  pub fault_long : end ≡ 0 → line_room ≤ length s → Form ≡ first_fault s
  unfolding first_fault
  fault_long h k = rw (← is, eq-eqb end 0 h, le-ltb (length s) line_room k)
