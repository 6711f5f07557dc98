-- `names::is_padded` meets its contract: the bytes passed are alphanumeric, so what is left decides.
use Rattle.std.specs.Prelude.{◌≡◌}
use Rattle.lists.specs.{Kit.{drop}}
use Rattle.mesh.specs.Marks.{alphanumerics_then_spaces}
use Rattle.marks.proofs.names.is_padded.Given as goal

abbrev pub invariant-loop-i : goal.invariant-loop-i
invariant-loop-i l = alphanumerics_then_spaces l.name ≡ alphanumerics_then_spaces (drop l.i l.name)
