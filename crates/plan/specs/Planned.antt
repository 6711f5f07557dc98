-- The changed radios of a planned stretch: going up the ones after the taken, going down the taken. Definitions only.
use Rattle.lists.specs.Kit.{Bool, cond, List, ℕ, take, drop}

unfoldable pub changed_part : (up : Bool) → (taken size : ℕ) → (stretch : List ℕ) → List ℕ
changed_part up k m xs = cond up (drop k (take m xs)) (take k xs)
