-- Invariants of loops over a list, after i entries: one for each kind of loop.
--   Folding        each entry changes a state: what is left gives what the whole gives
--   CountedFrom   entries that pass a test are counted
use Rattle.std.specs.Prelude.{◌≡◌, ◌∷◌, ◌++◌, ◌+◌, ◌^◌, ◌≤◌, ◌<◌}
use Rattle.lists.specs.Kit.{refl, sym, ap, ◌∙◌, Bool, List, [], ℕ, arith, add-one, length, get_or, take, drop}
use Rattle.lists.specs.Kit.{drop_of_length-le, length-take-le, get_or-take, drop-cons, drop-length}
use mir.{Syntax.{w64}, Val.{bool_byte, Fits}}
use Rattle.lists.specs.{Facts.{folded}, Lists.{count}}
use Rattle.lists.proofs.Tests.{bit_one, byte_bit}

-- ---- a state

pub record Folding {S : Type 0} (f : ℕ → S → S) (xs : List ℕ) (start now : S) (i : ℕ) : Type 0 where
  pub low : i ≤ length xs
  pub is : folded f (drop i xs) now ≡ folded f xs start

module _ {S : Type 0} (f : ℕ → S → S) (xs : List ℕ) (start : S) where
  pub folding_none : Folding f xs start start 0
  folding_none = record { low = omega arith; is = refl }

  pub folding_turn : (now next : S) (i : ℕ) → Folding f xs start now i → i < length xs → next ≡ f (get_or xs i 0) now → Folding f xs start next (i + 1)
  unfolding folded
  folding_turn now next i b h e =
      record { low = omega arith; is = rw (add-one, e) (ap (λ (l : List ℕ). folded f l now) (sym (drop-cons xs i 0 h)) ∙ b.is) }

  pub folding_end : (now : S) (i : ℕ) → Folding f xs start now i → length xs ≤ i → now ≡ folded f xs start
  unfolding folded
  folding_end now i b h = ap (λ (l : List ℕ). folded f l now) (sym (drop_of_length-le xs h)) ∙ b.is

pub folded_append : {S : Type 0} (f : ℕ → S → S) (xs ys : List ℕ) (s : S) → folded f (xs ++ ys) s ≡ folded f ys (folded f xs s)
unfolding folded
folded_append f [] ys s = refl
folded_append f (x ∷ xs) ys s = folded_append f xs ys (f x s)

pub length_folded : (f : ℕ → List ℕ → List ℕ) → ((x : ℕ) (s : List ℕ) → length (f x s) ≡ length s) → (xs s : List ℕ) → length (folded f xs s) ≡ length s
unfolding folded
length_folded f h [] s = refl
length_folded f h (x ∷ xs) s = length_folded f h xs (f x s) ∙ h x s

-- a table keeps its length
pub folding_long : (f : ℕ → List ℕ → List ℕ) → ((x : ℕ) (s : List ℕ) → length (f x s) ≡ length s) → (xs start now : List ℕ) (i : ℕ)
    → Folding f xs start now i → length now ≡ length start
folding_long f h xs start now i b = sym (length_folded f h (drop i xs) now) ∙ ap length b.is ∙ length_folded f h xs start

-- the list is the front of a longer one
pub folding_front : {S : Type 0} (f : ℕ → S → S) (list : List ℕ) (k : ℕ) (start now next : S) (i : ℕ) → k ≤ length list → i < k
    → next ≡ f (get_or list i 0) now → Folding f (take k list) start now i → Folding f (take k list) start next (i + 1)
folding_front f list k start now next i room l e h =
    folding_turn f (take k list) start now next i h (omega (arith, length-take-le k list room)) (e ∙ ap (λ (x : ℕ). f x now) (sym (get_or-take k list i 0 l)))

pub folding_front_end : {S : Type 0} (f : ℕ → S → S) (list : List ℕ) (k : ℕ) (start now : S) (i : ℕ) → k ≤ length list → k ≤ i
    → Folding f (take k list) start now i → now ≡ folded f (take k list) start
folding_front_end f list k start now i room l h =
    folding_end f (take k list) start now i h (omega (arith, length-take-le k list room))

-- from place i on is left
abbrev pub CountedFrom : (f : ℕ → Bool) → (xs : List ℕ) → (n i : ℕ) → Type 0
CountedFrom f xs n i = (n ≤ i) × (n + count f (drop i xs) ≡ count f xs)

-- the count stays below what a length can be
pub counted_fits : (n i : ℕ) (t : Bool) → n ≤ i → i + 1 < 2 ^ 64 → Fits w64 (n + bool_byte t)
counted_fits n i t h l = record { fits = omega (arith, byte_bit t, bit_one t) }

pub counted_turn : (f : ℕ → Bool) (xs : List ℕ) (n i : ℕ) → i < length xs → CountedFrom f xs n i → CountedFrom f xs (n + bool_byte (f (get_or xs i 0))) (i + 1)
unfolding count
counted_turn f xs n i l h = (
  omega (arith, h.0, bit_one (f (get_or xs i 0)), byte_bit (f (get_or xs i 0))),
  omega (arith, h.1, byte_bit (f (get_or xs i 0)), ap (count f) (drop-cons xs i 0 l), ap (λ (k : ℕ). count f (drop k xs)) (add-one i)),
)

pub counted_end : (f : ℕ → Bool) (xs : List ℕ) (n i : ℕ) → i ≡ length xs → CountedFrom f xs n i → n ≡ count f xs
unfolding count
counted_end f xs n i e h = omega (arith, h.1, ap (count f) (ap (λ (k : ℕ). drop k xs) e ∙ drop-length xs))
