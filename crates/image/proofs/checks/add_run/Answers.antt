-- `checks::add_run` meets its contract: the columns passed in each third have the run.
use Rattle.lists.specs.Kit.{refl, arith}
use Rattle.image.proofs.ColumnLaws.{next_fits, next_added}
use Rattle.image.proofs.checks.add_run.Goals as goal

pub add_byte-requires : goal.add_byte-requires
add_byte-requires c =
    next_fits _ _ _ _ _ c.loop-p.invariant.1 _ (omega arith) (omega arith) (λ j. (c.type_inv.block j).fits) c.requires.0 c.requires.1

pub add_byte-requires-in-loop-p : goal.add_byte-requires-in-loop-p
add_byte-requires-in-loop-p c =
    let one = next_added _ _ _ _ _ c.loop-p.invariant.1 _ (omega arith) (omega arith) _ _ c.add_byte.ensures _ refl in
    next_fits _ _ _ _ _ one _ (omega arith) (omega arith) (λ j. (c.type_inv.block j).fits) c.requires.0 c.requires.1

pub add_byte-requires-in-loop-p-2 : goal.add_byte-requires-in-loop-p-2
add_byte-requires-in-loop-p-2 c =
    let one = next_added _ _ _ _ _ c.loop-p.invariant.1 _ (omega arith) (omega arith) _ _ c.add_byte.ensures _ refl in
    let two = next_added _ _ _ _ _ one _ (omega arith) (omega arith) _ _ c.add_byte-in-loop-p.ensures _ refl in
    next_fits _ _ _ _ _ two _ (omega arith) (omega arith) (λ j. (c.type_inv.block j).fits) c.requires.0 c.requires.1

pub loop-p-preserved : goal.loop-p-preserved
loop-p-preserved c =
    let one = next_added _ _ _ _ _ c.loop-p.invariant.1 _ (omega arith) (omega arith) _ _ c.add_byte.ensures _ refl in
    let two = next_added _ _ _ _ _ one _ (omega arith) (omega arith) _ _ c.add_byte-in-loop-p.ensures _ refl in
    (omega arith, next_added _ _ _ _ _ two _ (omega arith) (omega arith) _ _ c.add_byte-in-loop-p-2.ensures _ (omega arith))
