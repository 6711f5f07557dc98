-- The one peel of both link calls: from what is left of a level, always the first radio that has at most so many neighbours
-- among what is left and the radios above, until none fits. What is taken, and what is stuck.
--   Takes f most others left taken now   radios taken so far, one by one, and what is left now
--   Peels f most others left taken stuck the same, until none fits
--   bound up K                           the most neighbours at level K: K going up, K - 1 going down
-- Laws are in proofs/Links/Peel.antt. Definitions only.
use Rattle.std.specs.Prelude.{◌≡◌, ◌∷◌, ◌++◌, ◌+◌, ◌-◌, ◌≤◌, ◌<◌}
use Rattle.lists.specs.{Kit.{Bool, true, false, List, [], ℕ}, Lists.{count, In}}

module _ (f : ℕ → ℕ → Bool) (most : ℕ) (others : List ℕ) where
  pub data Takes : (left taken now : List ℕ) → Type 0 where
    none : {left : List ℕ} → Takes left [] left
    first :
        {left taken now : List ℕ} (x : ℕ) (ps qs : List ℕ) → left ≡ ps ++ x ∷ qs → count (f x) (ps ++ qs) + count (f x) others ≤ most →
        ((w : ℕ) → In w ps → most < count (f w) left + count (f w) others) → Takes (ps ++ qs) taken now → Takes left (x ∷ taken) now

  pub record Peels (left taken stuck : List ℕ) : Type 0 where
    pub takes : Takes left taken stuck
    pub full : (v : ℕ) → In v stuck → most < count (f v) stuck + count (f v) others

abbrev pub bound : (up : Bool) → (K : ℕ) → ℕ
bound true k = k
bound false k = k - 1
