-- `checks::check_rest` meets its contract: the sum is the check of the bytes passed, each at most 255 × 512.
use Rattle.lists.specs.Kit.{refl, arith}
use Rattle.image.proofs.CheckLaws.{summing_turn, sum_fits}
use Rattle.image.proofs.checks.check_rest.Goals as goal

pub overflow_add-sum-in-loop-i : goal.overflow_add-sum-in-loop-i
overflow_add-sum-in-loop-i c =
    record {
      fits = sum_fits _ _ _ _ _ c.loop-i.invariant (omega arith) refl
          (λ j. (c.type_inv.block j).fits);
    }

pub loop-i-preserved : goal.loop-i-preserved
loop-i-preserved c = summing_turn _ _ _ _ _ c.loop-i.invariant (omega arith) refl
