-- The step of a link call, a signed number, added to numbers of one byte.
--   stepped x z            the number x with the step z added: 0 where it would fall below 0, 255 where it would go above
--   step_at v z ns         the numbers ns with that of radio v stepped; as they are where there is no radio v
--   all_stepped vs z ns    the same for each radio of the list vs, one after the other
-- Laws are in proofs/StepLaws.antt. Definitions only.
use Rattle.std.specs.Prelude.{◌+◌, ◌-◌}
use Rattle.lists.specs.{Kit.{List, ℕ, suc, min, ℤ, pos, negsuc, get_or, set}, Facts.{folded}}

unfoldable pub stepped : (x : ℕ) → (step : ℤ) → ℕ
stepped x (pos k) = min 255 (x + k)
stepped x (negsuc k) = x - suc k

unfoldable pub step_at : (v : ℕ) → (step : ℤ) → (numbers : List ℕ) → List ℕ
step_at v z ns = set ns v (stepped (get_or ns v 0) z)

unfoldable pub all_stepped : (radios : List ℕ) → (step : ℤ) → (numbers : List ℕ) → List ℕ
all_stepped vs z ns = folded (λ v now. step_at v z now) vs ns
