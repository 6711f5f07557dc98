-- The loops over a level's stretch, as invariants over what is left of their lists.
-- In order: what stands at a place of the stretch; its radios that a test passes, listed; whether all of them pass it.
use Rattle.std.specs.Prelude.{◌≡◌, ◌∷◌, ◌+◌, ◌≤◌, ◌<◌}
use Rattle.lists.specs.{Kit.{refl, ap, ◌∙◌, Bool, true, false, List, ℕ, arith, add-one, length, get_or, set, drop, length-drop}}
use Rattle.lists.specs.{Kit.{length-set, sets, drop-cons, drop-length, get_or-take, get_or-drop, length-take-le}, Lists.{all, filter}}
use Rattle.plan.specs.Peels.{stretch}

-- ---- what stands at a place

pub length_stretch : (os : List ℕ) (start size : ℕ) → start + size ≤ length os → length (stretch os start size) ≡ size
length_stretch os start size h = length-take-le size (drop start os) (omega (arith, length-drop start os))

pub get_d_stretch : (os : List ℕ) (start size i : ℕ) → i < size → get_or (stretch os start size) i 0 ≡ get_or os (start + i) 0
get_d_stretch os start size i h = get_or-take size (drop start os) i 0 h ∙ get_or-drop start os i 0

pub stretch_next : (os : List ℕ) (start size i : ℕ) → start + size ≤ length os → i < size
    → drop i (stretch os start size) ≡ get_or os (start + i) 0 ∷ drop (i + 1) (stretch os start size)
stretch_next os start size i fits l =
    drop-cons (stretch os start size) i 0 (omega (arith, length_stretch os start size fits)) ∙ rw (get_d_stretch os start size i l, add-one i)

-- ---- radios listed

-- the entries of the stretch from place i on that the test passes are left to list
pub record StretchListed (f : ℕ → Bool) (order : List ℕ) (start size taken : ℕ) (old list : List ℕ) (at i : ℕ) : Type 0 where
  pub low : i ≤ size
  pub few : at ≤ taken + i
  pub long : length list ≡ length old
  pub rest : sets list at (filter f (drop i (stretch order start size))) ≡ sets old taken (filter f (stretch order start size))

module _ (f : ℕ → Bool) (os : List ℕ) (start size taken : ℕ) (old : List ℕ) where
  pub stretch_none : StretchListed f os start size taken old old taken 0
  stretch_none = record { low = omega arith; few = omega arith; long = refl; rest = refl }

  module _ (fits : start + size ≤ length os) (list : List ℕ) (at i : ℕ) (l : i < size) (h : StretchListed f os start size taken old list at i)
      (new : List ℕ) (to : ℕ) where
    next : drop i (stretch os start size) ≡ get_or os (start + i) 0 ∷ drop (i + 1) (stretch os start size)
    next = stretch_next os start size i fits l

    pub stretch_passed : f (get_or os (start + i) 0) ≡ true → new ≡ set list at (get_or os (start + i) 0) → to ≡ at + 1
        → StretchListed f os start size taken old new to (i + 1)
    unfolding filter
    stretch_passed e d k =
        let cut : filter f (drop i (stretch os start size)) ≡ get_or os (start + i) 0 ∷ filter f (drop (i + 1) (stretch os start size)) = ap (filter f) next ∙ rw
        e in
        record {
          low = omega arith;
          few = omega (arith, h.few);
          long = ap length d ∙ length-set list at (get_or os (start + i) 0) ∙ h.long;
          rest = rw (d, k, add-one at) (rw cut at h.rest);
        }

    pub stretch_failed : f (get_or os (start + i) 0) ≡ false → new ≡ list → to ≡ at → StretchListed f os start size taken old new to (i + 1)
    unfolding filter
    stretch_failed e d k =
        let cut : filter f (drop i (stretch os start size)) ≡ filter f (drop (i + 1) (stretch os start size)) = ap (filter f) next ∙ rw e in
        record { low = omega arith; few = omega (arith, h.few); long = ap length d ∙ h.long; rest = rw (d, k) (rw cut at h.rest) }

  pub stretch_end : start + size ≤ length os → (list : List ℕ) (at i : ℕ) → size ≤ i → StretchListed f os start size taken old list at i
      → list ≡ sets old taken (filter f (stretch os start size))
  unfolding filter
  stretch_end fits list at i l h =
      let all : i ≡ length (stretch os start size) = omega (arith, h.low, length_stretch os start size fits) in
      let none = ap (filter f) (ap (λ (k : ℕ). drop k (stretch os start size)) all ∙ drop-length (stretch os start size)) in
      rw none at h.rest

-- ---- radios tested

-- the entries before place i of the stretch pass, so the others decide
pub record StretchPassing (f : ℕ → Bool) (order : List ℕ) (start size i : ℕ) : Type 0 where
  pub low : i ≤ size
  pub rest : all f (drop i (stretch order start size)) ≡ all f (stretch order start size)

module _ (f : ℕ → Bool) (os : List ℕ) (start size : ℕ) where
  pub passing_none : StretchPassing f os start size 0
  passing_none = record { low = omega arith; rest = refl }

  module _ (fits : start + size ≤ length os) (i : ℕ) (h : StretchPassing f os start size i) where
    pub passing_turn : i < size → f (get_or os (start + i) 0) ≡ true → StretchPassing f os start size (i + 1)
    unfolding all
    passing_turn l e = record { low = omega arith; rest = rw (stretch_next os start size i fits l, e) at h.rest }

    pub passing_stop : i < size → f (get_or os (start + i) 0) ≡ false → false ≡ all f (stretch os start size)
    unfolding all
    passing_stop l e = rw (stretch_next os start size i fits l, e) at h.rest

    pub passing_end : size ≤ i → true ≡ all f (stretch os start size)
    unfolding all
    passing_end l =
        let all_passed : i ≡ length (stretch os start size) = omega (arith, h.low, length_stretch os start size fits) in
        rw (all_passed, drop-length (stretch os start size)) at h.rest
