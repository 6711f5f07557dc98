-- `images::bad_block` meets its contract: the blocks before are good, and the measure is how many are left.
use Rattle.std.specs.Prelude.{◌≤◌, ◌/◌}
use Rattle.lists.specs.Kit.{length}
use Rattle.site_program.proofs.BlockLaws.{GoodTo}
use Rattle.site_program.proofs.images.bad_block.Given as goal

abbrev pub invariant-loop-i : goal.invariant-loop-i
invariant-loop-i l = (l.i ≤ length l.image / 512) × GoodTo l.image l.i
