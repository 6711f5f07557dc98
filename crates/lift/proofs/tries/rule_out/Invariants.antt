-- `tries::rule_out` meets its contract: the radios below c are ruled out or stay (`Ruling`).
use Rattle.std.specs.Prelude.{◌≤◌}
use Rattle.lists.{specs.Kit.{length}}
use Rattle.lift.proofs.{TryLaws.{Ruling}}
use Rattle.lift.proofs.tries.rule_out.Given as goal

abbrev pub invariant-loop-c : goal.invariant-loop-c
invariant-loop-c l = Ruling l.level l.gone l.numbers l.counters l.initial.untried l.c l.untried × (l.c ≤ length l.numbers)
