-- What a call leaves of what it was lent: as many entries as there were, each one that its type holds. A run says so by what would be passed
-- again and by what is good after it (`passed`, `AllGood`); here it is said list by list.
--   SameLengths, LeftHeld    list by list
--   lengths_left, good_left    from there to what a run says;   left_lengths, left_held: and back
use mathlib.Core.{Path.{◌≡◌, refl, sym, ap, subst}, List.{List, [], ◌∷◌}}
use Prim.Native.Nat.{ℕ}
use native.Mathlib.Nat.{suc-ne-zero}
use lib.{ListN.{length}, Dec.{T}}
use mir.{Syntax.{Ty}, Val.{Val, Vals, vunit, vbool, vint, vfloat, vptr, vcode, vstruct, vnil, vcons}}
use prog.{Memory.{Memory, align, aligned}, Routine.{Routine}}
use Rattle.machine.specs.Cells.{Param, by_value, lent, lent_with, to_read, to_write, Place, Inputs, Outputs, left, pointer, passes, passed, All}
use Rattle.machine.specs.Cells.{Aligned, Sized, AllGood, BlockKept, Call, Ran, outcome_of}

-- as many entries as were lent
abbrev pub SameLengths : (ps : List Param) → Inputs ps → Outputs ps → Type 0
SameLengths [] i o = Unit {0}
SameLengths (by_value F ∷ ps) i o = SameLengths ps i.1 o
SameLengths (lent to_read F ∷ ps) i o = SameLengths ps i.1 o
SameLengths (lent to_write F ∷ ps) i o = (length o.0 ≡ length i.0.1) × SameLengths ps i.1 o.1
SameLengths (lent_with F G ∷ ps) i o = SameLengths ps i.1 o

abbrev pub LeftHeld : (ps : List Param) → Outputs ps → Type 0
LeftHeld [] o = Unit {0}
LeftHeld (by_value F ∷ ps) o = LeftHeld ps o
LeftHeld (lent to_read F ∷ ps) o = LeftHeld ps o
LeftHeld (lent to_write F ∷ ps) o = All F.Holds o.0 × LeftHeld ps o.1
LeftHeld (lent_with F G ∷ ps) o = LeftHeld ps o

-- ---- lengths

pub lengths_left : (ps : List Param) (i : Inputs ps) (o : Outputs ps) → SameLengths ps i o → passed ps (left ps i o) ≡ passed ps i
lengths_left [] i o s = refl
lengths_left (by_value F ∷ ps) i o s = ap (λ (vs : List Val). F.machine i.0 ∷ vs) (lengths_left ps i.1 o s)
lengths_left (lent to_read F ∷ ps) i o s = ap (λ (vs : List Val). pointer i.0.0 (length i.0.1) ∷ vs) (lengths_left ps i.1 o s)
lengths_left (lent to_write F ∷ ps) i o s = λ k. pointer i.0.0 (s.0 k) ∷ lengths_left ps i.1 o.1 s.1 k
lengths_left (lent_with F G ∷ ps) i o s = ap (λ (vs : List Val). passes (lent_with F G) i.0 ∷ vs) (lengths_left ps i.1 o s)

number_in : Val → ℕ
number_in (vint w n) = n
number_in vunit = 0
number_in (vbool b) = 0
number_in (vfloat f x) = 0
number_in (vptr b o) = 0
number_in (vcode t) = 0
number_in (vstruct vs) = 0

second_in : Vals → ℕ
second_in vnil = 0
second_in (vcons v vnil) = 0
second_in (vcons v (vcons w vs)) = number_in w

-- the length that a pointer comes with
count_in : Val → ℕ
count_in (vint w n) = 0
count_in vunit = 0
count_in (vbool b) = 0
count_in (vfloat f x) = 0
count_in (vptr b o) = 0
count_in (vcode t) = 0
count_in (vstruct vs) = second_in vs

first_count : List Val → ℕ
first_count [] = 0
first_count (v ∷ vs) = count_in v

others : List Val → List Val
others [] = []
others (v ∷ vs) = vs

pub left_lengths : (ps : List Param) (i : Inputs ps) (o : Outputs ps) → passed ps (left ps i o) ≡ passed ps i → SameLengths ps i o
unfolding first_count count_in second_in number_in others
left_lengths [] i o e = tt
left_lengths (by_value F ∷ ps) i o e = left_lengths ps i.1 o (ap others e)
left_lengths (lent to_read F ∷ ps) i o e = left_lengths ps i.1 o (ap others e)
left_lengths (lent to_write F ∷ ps) i o e = (ap first_count e, left_lengths ps i.1 o.1 (ap others e))
left_lengths (lent_with F G ∷ ps) i o e = left_lengths ps i.1 o (ap others e)

-- ---- what is good

pub aligned_still : (σ τ : Memory) → BlockKept σ τ → (υ : Ty) (p : Place) {X : Type 0} (xs ys : List X) → length ys ≡ length xs
    → Aligned σ υ p xs → Aligned τ υ p ys
aligned_still σ τ kept υ p [] [] l h = tt
aligned_still σ τ kept υ p [] (y ∷ ys) l h = absurd (suc-ne-zero (length ys) l)
aligned_still σ τ kept υ p (x ∷ xs) [] l h = tt
aligned_still σ τ kept υ p (x ∷ xs) (y ∷ ys) l h =
    let k = kept p.0 h.0 h.1 in (k.0, k.1, subst (λ (a : ℕ). T (aligned (align υ) a p.1)) (sym k.2) h.2)

pub good_left : (σ τ : Memory) → BlockKept σ τ → (ps : List Param) (i : Inputs ps) (o : Outputs ps) → AllGood σ ps i → SameLengths ps i o → LeftHeld ps o
    → AllGood τ ps (left ps i o)
good_left σ τ kept [] i o g s h = tt
good_left σ τ kept (by_value F ∷ ps) i o g s h = (g.0, good_left σ τ kept ps i.1 o g.1 s h)
good_left σ τ kept (lent to_read F ∷ ps) i o g s h =
    ((g.0.0, aligned_still σ τ kept F.ty i.0.0 i.0.1 i.0.1 refl g.0.1, g.0.2), good_left σ τ kept ps i.1 o g.1 s h)
good_left σ τ kept (lent to_write F ∷ ps) i o g s h = (
  (h.0, aligned_still σ τ kept F.ty i.0.0 i.0.1 o.0 s.0 g.0.1, subst (Sized F.ty) (sym s.0) g.0.2),
  good_left σ τ kept ps i.1 o.1 g.1 s.1 h.1,
)
good_left σ τ kept (lent_with F G ∷ ps) i o g s h = (
  ((g.0.0.0, aligned_still σ τ kept F.ty i.0.0.0 i.0.0.1 i.0.0.1 refl g.0.0.1, g.0.0.2), g.0.1),
  good_left σ τ kept ps i.1 o g.1 s h,
)

pub left_held : (τ : Memory) (ps : List Param) (i : Inputs ps) (o : Outputs ps) → AllGood τ ps (left ps i o) → LeftHeld ps o
left_held τ [] i o g = tt
left_held τ (by_value F ∷ ps) i o g = left_held τ ps i.1 o g.1
left_held τ (lent to_read F ∷ ps) i o g = left_held τ ps i.1 o g.1
left_held τ (lent to_write F ∷ ps) i o g = (g.0.0, left_held τ ps i.1 o.1 g.1)
left_held τ (lent_with F G ∷ ps) i o g = left_held τ ps i.1 o g.1

-- ---- of a run

module _ {ρ : Routine} {C : Call} {σ : Memory} {i : Inputs C.params} (h : Ran ρ C σ i) where
  pub ran_lengths : SameLengths C.params i (outcome_of C i).1
  ran_lengths = left_lengths C.params i (outcome_of C i).1 h.lengths

  pub ran_held : LeftHeld C.params (outcome_of C i).1
  ran_held = left_held h.memory C.params i (outcome_of C i).1 h.good
