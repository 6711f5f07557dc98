-- `fill::is_same` meets its contract: the entries so far are equal.
use Rattle.std.specs.Prelude.{◌≡◌}
use Rattle.lists.specs.Kit.{take}
use Rattle.tables.proofs.fill.is_same.Given as goal

abbrev pub invariant-loop-i : goal.invariant-loop-i
invariant-loop-i g l = take l.i l.a ≡ take l.i l.b
