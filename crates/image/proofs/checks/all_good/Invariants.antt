-- `checks::all_good` meets its contract: the blocks passed are good, so what is left decides.
use Rattle.mesh.specs.Image.{block_check}
use Rattle.image.proofs.{CheckLaws.{Testing}}
use Rattle.image.proofs.checks.all_good.Given as goal

abbrev pub invariant-loop-i : goal.invariant-loop-i
invariant-loop-i l = Testing (block_check l.image) l.count l.i
