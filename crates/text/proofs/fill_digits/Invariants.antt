-- `text::fill_digits` meets its contract: the digits that are filled in stand after those of what is left.
-- The measure is what is left.
use Rattle.std.specs.Prelude.{◌≡◌}
use Rattle.lists.specs.Kit.{length}
use Rattle.text.proofs.DecimalLaws.{Digits}
use Rattle.text.proofs.fill_digits.Given as goal

abbrev pub invariant-loop-rest : goal.invariant-loop-rest
invariant-loop-rest l = (length l.digits ≡ 20) × Digits l.x l.rest l.i l.digits

abbrev pub decreases-loop-rest : goal.decreases-loop-rest
decreases-loop-rest l = l.rest
