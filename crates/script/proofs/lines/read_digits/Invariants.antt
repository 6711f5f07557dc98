-- `lines::read_digits` meets its contract: the digits that are left, read onto v, give what all of them give.
use Rattle.std.specs.Prelude.{◌≡◌, ◌≤◌}
use Rattle.lists.specs.Kit.{drop}
use Rattle.script.specs.{Lines.{digits_on}}
use Rattle.script.proofs.lines.read_digits.Given as goal

abbrev pub invariant-loop-next : goal.invariant-loop-next
invariant-loop-next l = (l.value ≤ 65535) × (digits_on l.value (drop l.next l.s) ≡ digits_on l.v (drop l.p l.s))
