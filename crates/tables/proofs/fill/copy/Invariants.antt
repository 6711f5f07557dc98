-- `fill::copy` meets its contract: the entries so far stand in front of the table as it was.
use Rattle.std.specs.Prelude.{◌≡◌}
use Rattle.lists.specs.Kit.{paste}
use Rattle.tables.proofs.fill.copy.Given as goal

abbrev pub invariant-loop-i : goal.invariant-loop-i
invariant-loop-i g l = l.d ≡ paste l.initial.d 0 l.s l.i
