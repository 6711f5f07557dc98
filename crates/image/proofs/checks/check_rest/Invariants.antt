-- `checks::check_rest` meets its contract: the sum is the check of the bytes passed, each at most 255 × 512.
use Rattle.image.proofs.CheckLaws.{Summing}
use Rattle.image.proofs.checks.check_rest.Given as goal

abbrev pub invariant-loop-i : goal.invariant-loop-i
invariant-loop-i l = Summing l.block l.count l.sum l.i
