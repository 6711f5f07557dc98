-- The walk of a link going up (document 001, section 5), on plain values: from its beginning end, the lower one and with equal numbers the
-- earlier, forward through its level. A radio with more neighbours left than the bound is held as a candidate, any other is taken; a
-- candidate that falls short is taken back.
--   Part f part pos   the part of the level from the beginning end on, and where its radios stand in it
--   FewFront         radios that have few later neighbours
--   left_of           a radio's neighbours that are candidates, not yet looked at, or above
--   Walking           so many radios are taken, how far the front is, the candidates, their counters and the places due
-- Laws are in proofs/Turns.antt. Definitions only.
use Rattle.std.specs.Prelude.{◌≡◌, ◌∷◌, ◌++◌, ◌+◌, ◌≤◌, ◌<◌}
use Rattle.lists.specs.{Kit.{Bool, true, false, List, [], ℕ, leb, length, get_or, drop}, Lists.{count, member, In}}
use Rattle.lists.specs.{Facts.{Distinct, Rising}}
use Rattle.mesh.specs.Peel.{Takes}

-- f tells neighbours after the call, pos where a radio stands in the part
pub record Part (f : ℕ → ℕ → Bool) (part : List ℕ) (pos : ℕ → ℕ) : Type 0 where
  pub irreflexive : (v : ℕ) → f v v ≡ false
  pub symmetric : (v w : ℕ) → f v w ≡ f w v
  pub distinct : Distinct part
  pub rises : Rising pos part
  pub placed : (i : ℕ) → i < length part → pos (get_or part i 0) ≡ i

module _ (f : ℕ → ℕ → Bool) (most : ℕ) (above : List ℕ) where
  -- no entry of xs has more than `most` neighbours among the later ones of xs, ys and what is above
  abbrev pub FewFront : (xs ys : List ℕ) → Type 0
  FewFront [] ys = Unit {0}
  FewFront (x ∷ xs) ys = (count (f x) (xs ++ ys) + count (f x) above ≤ most) × FewFront xs ys

module _ (f : ℕ → ℕ → Bool) (most : ℕ) (above part : List ℕ) (pos : ℕ → ℕ) where
  abbrev pub left_of : (held : List ℕ) → (front v : ℕ) → ℕ
  left_of held front v = count (f v) (held ++ drop front part) + count (f v) above

  -- `mark` tells the candidates, `due` the places of the part that the walk has to look at: candidates that fell short, and, from the
  -- front on, neighbours of candidates
  pub record Walking (taken : List ℕ) (front : ℕ) (mark : ℕ → Bool) (counter : ℕ → ℕ) (due : ℕ → Bool) : Type 0 where
    pub held : List ℕ
    pub takes : Takes f most above part taken (held ++ drop front part)
    pub room : front ≤ length part
    pub behind : (v : ℕ) → In v held → pos v < front
    pub marks : (v : ℕ) → mark v ≡ member v held
    pub exact : (v : ℕ) → In v held → counter v ≡ left_of held front v
    pub fits : (v : ℕ) → In v held → due (pos v) ≡ leb (counter v) most
    pub spent : (v : ℕ) → (In v held → ⊥) → counter v ≤ most
    pub fallen : (p : ℕ) → p < front → due p ≡ true → In (get_or part p 0) held
    pub inside : (p : ℕ) → due p ≡ true → p < length part
    pub touched : (v w : ℕ) → In v held → In w (drop front part) → f v w ≡ true → due (pos w) ≡ true
