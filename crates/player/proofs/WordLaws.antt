-- How a program is started: each way through `words::descriptor` and `words::start_of`.
use Rattle.std.specs.Prelude.{◌≡◌, ◌⊎◌, ◌∷◌, None}
use Rattle.lists.proofs.{Tests.{bool_cases}, All.{same_eq, same_refl}}
use Rattle.lists.specs.{Kit.{refl, inl, inr, true, false, List, [], ℕ, arith, length, get_or}, Lists.{same}}
use Rattle.text.specs.Text.{bytes_of}
use Rattle.script.specs.Digits.{digit_of}
use Rattle.player.specs.Words.{descriptor_of, start_of}

pub descriptor_other : (w : List ℕ) → (length w ≡ 1 → ⊥) → None ≡ descriptor_of w
unfolding descriptor_of
descriptor_other [] h = refl
descriptor_other (b ∷ []) h = absurd (h refl)
descriptor_other (b ∷ c ∷ bs) h = refl

pub descriptor_one : (w : List ℕ) → length w ≡ 1 → digit_of (get_or w 0 0) ≡ descriptor_of w
unfolding descriptor_of
descriptor_one [] h = absurd (omega (arith, h))
descriptor_one (b ∷ []) h = refl
descriptor_one (b ∷ c ∷ bs) h = absurd (omega (arith, h))

pub start_told : (w v : List ℕ) → w ≡ bytes_of "--status" → record { at = 3; told = descriptor_of v } ≡ start_of w v
unfolding start_of
start_told w v h = rw (h, same_refl (bytes_of "--status"))

pub start_plain : (w v : List ℕ) → (w ≡ bytes_of "--status" → ⊥) → record { at = 1; told = None } ≡ start_of w v
unfolding start_of
start_plain w v h = go (bool_cases (same w (bytes_of "--status")))
  where
    go : (same w (bytes_of "--status") ≡ true) ⊎ (same w (bytes_of "--status") ≡ false) → record { at = 1; told = None } ≡ start_of w v
    go (inl e) = absurd (h (same_eq w (bytes_of "--status") e))
    go (inr e) = rw e
