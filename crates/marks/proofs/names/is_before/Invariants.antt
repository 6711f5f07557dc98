-- `names::is_before` meets its contract: the bytes passed are equal, so what is left decides.
use Rattle.std.specs.Prelude.{◌≡◌}
use Rattle.lists.specs.Kit.{drop}
use Rattle.mesh.specs.Marks.{before}
use Rattle.marks.proofs.names.is_before.Given as goal

abbrev pub invariant-loop-i : goal.invariant-loop-i
invariant-loop-i l = before l.a l.b ≡ before (drop l.i l.a) (drop l.i l.b)
