-- Further words for lists, which proofs and contracts use.
--   folded f xs s          what s becomes when f takes the entries of xs in turn
--   Distinct xs            no entry stands twice
--   Permutation xs ys      whatever is counted, both lists count alike
--   EachOnce n xs         each number below n stands once, and nothing else
--   AscendingBelow n xs   numbers below n, each at most once, ascending
--   Rising num xs          no later entry has a smaller number
--   Bytes xs               every entry is below 256
-- Laws are in proofs/. Definitions only.
use Rattle.std.specs.Prelude.{◌≡◌, ◌∷◌, ◌≤◌}
use Rattle.lists.specs.Kit.{Bool, List, [], ℕ}
use Rattle.lists.specs.Lists.{range, count, filter, member, In, EntriesBelow}

unfoldable pub folded : {S : Type 0} → (ℕ → S → S) → List ℕ → S → S
folded f [] s = s
folded f (x ∷ xs) s = folded f xs (f x s)

abbrev pub Distinct : List ℕ → Type 0
Distinct [] = Unit {0}
Distinct (x ∷ xs) = (In x xs → ⊥) × Distinct xs

abbrev pub Permutation : List ℕ → List ℕ → Type 0
Permutation xs ys = (f : ℕ → Bool) → count f xs ≡ count f ys

abbrev pub EachOnce : ℕ → List ℕ → Type 0
EachOnce n xs = Permutation xs (range 0 n)

abbrev pub AscendingBelow : ℕ → List ℕ → Type 0
AscendingBelow n xs = xs ≡ filter (λ w. member w xs) (range 0 n)

abbrev pub Rising : (num : ℕ → ℕ) → List ℕ → Type 0
Rising num [] = Unit {0}
Rising num (x ∷ xs) = ((w : ℕ) → In w xs → num x ≤ num w) × Rising num xs

abbrev pub Bytes : List ℕ → Type 0
Bytes xs = EntriesBelow 256 xs
