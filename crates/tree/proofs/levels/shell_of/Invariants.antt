-- `levels::shell_of` meets its contract: the radios passed have the level's number and are in the set (`ShellPutting`); where another
-- number stands, or the order ends, no radio of the level is left. The measure is what is left of the order.
use Rattle.std.specs.Prelude.{◌-◌}
use Rattle.lists.specs.Kit.{length}
use Rattle.tree.proofs.ShellSets.{ShellPutting}
use Rattle.tree.proofs.levels.shell_of.Given as goal

abbrev pub invariant-loop-i : goal.invariant-loop-i
invariant-loop-i l = ShellPutting l.numbers l.order l.level l.from l.i l.set

abbrev pub decreases-loop-i : goal.decreases-loop-i
decreases-loop-i l = length l.order - l.i
